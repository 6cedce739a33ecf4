-- What the functions on a lent table promise, by the rules' definitions.
use Rattle.std.specs.Prelude.{ℕ, ◌+◌, Bool, List, length}
use Rattle.std.proofs.Math.Option.{Option}
use Rattle.rules.specs.LookUp.{after_members, after_value}

-- a key's record: where members are looked for the place is at most two bytes past the table
abbrev pub near_member : ℕ
near_member = 33000

-- the place of a key's value: behind a key that may begin two bytes past the table
abbrev pub past_member : List ℕ → ℕ
past_member table = length table + 7

-- the members of a container inside which so many may stand
abbrev pub members_end : Bool → ℕ → List ℕ → ℕ → ℕ → ℕ → Option ℕ
members_end keyed levels table text_length count at = after_members keyed (λ p. after_value levels table text_length p) table text_length count at

-- What the functions on one record promise, by the rules' definitions.
use Rattle.std.specs.Prelude.{◌≡◌, ℕ, ◌≤◌, Bool, true, false, List, length, Some, None}
use Rattle.std.proofs.Math.Option.{Option, none, some}
use Rattle.rules.specs.Sizes.{max_room}
use Rattle.rules.specs.Sheet.{pair_at}
use Rattle.rules.specs.LookUp.{after_text}
use Rattle.text_chars.specs.declared.RecAt.{RecAt}
use Rattle.text_chars.specs.declared.RecLen.{RecLen}
use Rattle.std.specs.declared.option.Option as R

-- Places in a lent part, and some past its end: whatever a record promises, the places asked next are at most a record's few bytes
-- further, and their sums do not wrap.
abbrev pub near_room : ℕ
near_room = 40000

-- Offsets in a job's texts with what is added to them: far below where sums wrap.
abbrev pub far_text : ℕ
far_text = 1048576

-- two bytes; past the end each is 256
abbrev pub max_pair : ℕ
max_pair = 65792

-- a table within its limit, and a place at most a little past it
abbrev pub Lent : List ℕ → ℕ → Type 0
Lent table at = (length table ≤ max_room) × (at ≤ near_room)

pub record PairIs (s : List ℕ) (at r : ℕ) : Type 0 where
  pub is : r ≡ pair_at s at
  pub small : r ≤ max_pair

abbrev pub rec : ℕ → RecAt
rec at = record { 0 = at }

abbrev pub rec_len : ℕ → RecLen
rec_len n = record { 0 = n }

-- the place after a record or some, if they are whole; else one of them is cut off, of no kind, too deep, or has its text outside the text part
abbrev pub End : Type 0
End = R.Option RecAt

-- the code's answer for the rules'
abbrev pub end_at : Option ℕ → End
end_at none = None
end_at (some p) = Some (rec p)

abbrev pub Between : ℕ → ℕ → End → Type 0
Between low high (Some e) = (low ≤ e.0) × (e.0 ≤ high)
Between low high None = Unit {0}

-- an end as the rules have it, from the one place to the other
pub record EndIs (o : Option ℕ) (low high : ℕ) (r : End) : Type 0 where
  pub is : r ≡ end_at o
  pub between : Between low high r

-- where a member's value starts: of an object behind its key
unfoldable pub value_start : Bool → List ℕ → ℕ → ℕ → Option ℕ
unfolding after_text
value_start true table text_length at = after_text table text_length 8 at
value_start false table text_length at = some at

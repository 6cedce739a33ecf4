-- How many entries a trail has, by its bytes: records of kind 9 or 10.
use Rattle.std.specs.Prelude.{ℕ, suc, List, [], ◌∷◌, Bool, false, cond}
use Rattle.rules.specs.Bytes.{within}
use Rattle.rules.specs.Kinds as kinds
use Rattle.rules.specs.Meaning.{Record, plain, with_number, worded, unread, records_of}

-- "9 entry: blend number 2, answer following", "10 undefined entry: blend number 2"
abbrev pub is_entry : Record → Bool
is_entry (plain kind) = false
is_entry (with_number kind n) = within kinds.entry kinds.undefined_entry kind
is_entry (worded kind n t) = false
is_entry (unread s) = false

abbrev pub count_entries : List Record → ℕ
count_entries [] = 0
count_entries (r ∷ rs) = cond (is_entry r) (suc (count_entries rs)) (count_entries rs)

abbrev pub entries_in : (trail text : List ℕ) → ℕ
entries_in trail text = count_entries (records_of text trail)

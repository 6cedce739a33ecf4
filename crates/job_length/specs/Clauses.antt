-- What the record of a length is lent with.
use Rattle.std.specs.Prelude.{◌≡◌, Bool, true, List, ℕ, ◌≤◌, length}
use Rattle.std.proofs.Common.{sym, ◌∙◌}
use Rattle.rules.specs.Sizes.{max_room}
use Rattle.rules.specs.LookUp.{is_whole}

-- one whole table, and a text part
pub record WholeTable (table text : List ℕ) : Type 0 where
  pub short : length table ≤ max_room
  pub short-text : length text ≤ max_room
  pub whole : is_whole table (length text) ≡ true

-- as a job finds it
pub whole-table : {table text : List ℕ} {w : Bool} → length table ≤ max_room → length text ≤ max_room → w ≡ is_whole table (length text)
    → w ≡ true → WholeTable table text
whole-table h k j e = record { short = h; short-text = k; whole = sym j ∙ e }

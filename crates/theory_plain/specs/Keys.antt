-- How many elements a key may have, limit by limit. `rules` has the least of the three as one number, `allowed_keys` (Reading). That both are the same is
-- shown in proofs/Keys.antt.
use Rattle.std.specs.Prelude.{ℕ, ◌+◌, ◌≤◌}
use Rattle.rules.specs.Sizes.{max_nesting, max_items, max_path}

-- Of the element of a key with i elements before it, where so many items were counted before the key and the object is nested so deep. The
-- key's first element is a field of that object; "Each key element after the first opens one nesting".
pub record Allowed (nesting items i : ℕ) : Type 0 where
  -- "Path elements 16."
  pub elements : i + 1 ≤ max_path
  -- "Items (fields after path expansion, ..) 2,048."
  pub counted : items + (i + 1) ≤ max_items
  -- "Nesting 32 (the root is 1)."
  pub nested : nesting + i ≤ max_nesting

-- What the code promises. No contract asks that the table holds a document: where it does not, a walk ends all the same.
use Rattle.std.specs.Prelude.{◌≡◌, ℕ, ◌+◌, ◌*◌, ◌≤◌, ◌<◌, cond, List, [], length}
use Rattle.doc_items.specs.Room.{capacity}
use Rattle.doc_items.specs.Parts.{numbers}
use Rattle.eval_keys.specs.Columns.{firsts_at, nexts_at, columns_end, key_at, first_at, next_at, is_field}
use Rattle.eval_keys.specs.Clauses.{number_bound}
use Rattle.eval_root_index.specs.Links.{Every, Listed, Follows, Falls, Linked, onto}

-- 0 of a piece
pub record FieldSizeIs (T : List ℕ) (i r : ℕ) : Type 0 where
  pub is : r ≡ cond (is_field T i) (numbers T (8 * i + 1)) 0
  pub small : r < number_bound

-- an object's fields linked back from the last one, r, which is 0 where there is none
pub record LinkBackIs (end : ℕ) (T T' : List ℕ) (r : ℕ) : Type 0 where
  pub is : (js : List ℕ) → Listed (numbers T) 1 end js → (ds : List ℕ) × (js ≡ onto ds []) × Follows (next_at T') r ds × Falls capacity ds
  pub small : r < capacity
  pub kept : (j : ℕ) → (nexts_at ≤ j → j < columns_end → ⊥) → numbers T' j ≡ numbers T j
  pub len : length T' ≡ length T

-- fields that are linked back from the last one are linked by their keys' numbers
pub record LinkByKeyIs (last : ℕ) (T T' : List ℕ) : Type 0 where
  pub is : (ds : List ℕ) → Follows (next_at T) last ds → Falls capacity ds → Every (λ j. key_at T j < capacity) ds
      → ((k : ℕ) → k < capacity → first_at T k ≡ 0) → Linked (key_at T) T' (onto ds [])
  pub kept : (j : ℕ) → (firsts_at ≤ j → j < columns_end → ⊥) → numbers T' j ≡ numbers T j
  pub len : length T' ≡ length T

-- The fields of a root that is an object are linked by their keys' numbers; of another root there are none. Nothing but the two columns has
-- changed.
pub record LinkRootIs (items : ℕ) (T T' : List ℕ) : Type 0 where
  pub is : numbers T 0 ≡ 7 → (js : List ℕ) → Listed (numbers T) 1 (items + 1) js → Every (λ j. key_at T j < capacity) js → Linked (key_at T) T' js
  pub none : (numbers T 0 ≡ 7 → ⊥) → (k : ℕ) → k < capacity → first_at T' k ≡ 0
  pub kept : (j : ℕ) → (firsts_at ≤ j → j < columns_end → ⊥) → numbers T' j ≡ numbers T j
  pub len : length T' ≡ length T

-- What the functions promise.
use Rattle.std.specs.Prelude.{◌≡◌, ℕ, ◌+◌, ◌*◌, ◌≤◌, ◌<◌, min, Bool, true, false, List, get_or}
use Rattle.doc_items.specs.Room.{capacity}

abbrev pub end_c : List ℕ → ℕ → ℕ
end_c T item = min capacity (item + get_or T (8 * item + 1) 0)

pub record EndIs (T : List ℕ) (item r : ℕ) : Type 0 where
  pub is : r ≡ end_c T item

-- the item goes on, and no further than the end; it is the next one's where that lies before the end
pub record NextIs (T : List ℕ) (i end r : ℕ) : Type 0 where
  pub more : i < r
  pub upto : r ≤ end
  pub is : 1 ≤ get_or T (8 * i + 1) 0 → i + get_or T (8 * i + 1) 0 ≤ end → r ≡ i + get_or T (8 * i + 1) 0

-- one piece, of the kind of a substitution
pub record Sole (T : List ℕ) (item : ℕ) : Type 0 where
  pub some : item + 1 < end_c T item
  pub kind : 25 ≤ get_or T (8 * (item + 1)) 0
  pub one : item + 1 + get_or T (8 * (item + 1) + 1) 0 ≡ end_c T item

pub record SoleIs (T : List ℕ) (item : ℕ) (r : Bool) : Type 0 where
  pub yes : r ≡ true → Sole T item
  pub no : r ≡ false → Sole T item → ⊥

-- What reading and pushing promise, and what a walk leaves as it is.
use Rattle.std.specs.Prelude.{◌≡◌, ℕ, ◌-◌, ◌≤◌, ◌<◌, List, length, get_or}
use Rattle.doc_items.specs.Room.{number_bound}
use Rattle.eval_stack.specs.Model.{entries, Work, code_place, code_at, link_at, seg, pushed, push_top}

pub record CodeIs (w : List ℕ) (p r : ℕ) : Type 0 where
  pub is : r ≡ code_at w p
  pub small : r < number_bound

pub record LinkIs (w : List ℕ) (p r : ℕ) : Type 0 where
  pub is : r ≡ link_at w p
  pub small : r < number_bound

pub record PushIs (top c : ℕ) (w w' : List ℕ) (r : ℕ) : Type 0 where
  pub is : w' ≡ pushed top c w
  pub next : r ≡ push_top top
  pub len : length w' ≡ length w

-- entries from base to top are in use; a part from lo to hi is below base
abbrev pub Stack : ℕ → ℕ → List ℕ → Type 0
Stack base top w = (base ≤ top) × (top ≤ entries) × Work w

abbrev pub Segment : ℕ → ℕ → ℕ → List ℕ → Type 0
Segment lo hi base w = (lo ≤ hi) × (hi ≤ base) × (base ≤ entries) × Work w

-- an index that is no layer's place from the entry base on: below it, before the stack, or a link's
abbrev pub Outside : ℕ → ℕ → Type 0
Outside base i = (p : ℕ) → base ≤ p → i ≡ code_place p → ⊥

-- no number changes but the layers from base on
abbrev pub Same : ℕ → List ℕ → List ℕ → Type 0
Same base w w' = (i : ℕ) → Outside base i → get_or w' i 0 ≡ get_or w i 0

-- the entries from base on were changed by f, which is told the room, and nothing else was
pub record Grew (base : ℕ) (w : List ℕ) (top : ℕ) (f : ℕ → List ℕ → List ℕ) (w' : List ℕ) (top' : ℕ) : Type 0 where
  pub list : seg w' base (top' - base) ≡ f (entries - base) (seg w base (top - base))
  pub same : Same base w w'
  pub low : base ≤ top'
  pub high : top' ≤ entries
  pub len : length w' ≡ length w

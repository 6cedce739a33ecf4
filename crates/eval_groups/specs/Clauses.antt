-- What grouping members promises: the whole work slice, whatever it and the tables hold.
use Rattle.std.specs.Prelude.{◌≡◌, ℕ, ◌+◌, ◌-◌, ◌*◌, ◌≤◌, ◌<◌, Bool, List, length, get_or}
use Rattle.eval_nodes.specs.Model.{key_at}
use Rattle.eval_stack.specs.Model.{stack_at, seg}
use Rattle.eval_groups.specs.Model.{holds_key_c, State, add_c, add_members_c, object_members}

pub record HoldsKeyIs (T R w : List ℕ) (base top k p : ℕ) (r : Bool) : Type 0 where
  pub is : r ≡ holds_key_c (key_at T R) w base top k p

pub record WorkIs (f : List ℕ → List ℕ) (w w' : List ℕ) : Type 0 where
  pub is : w' ≡ f w
  pub len : length w' ≡ length w

pub record AddIs (T R : List ℕ) (base c : ℕ) (w : List ℕ) (t : ℕ) (w' : List ℕ) (r : ℕ) : Type 0 where
  pub is : ◌≡◌ {A = State} (w', r) (add_c (key_at T R) base c (w, t))
  pub len : length w' ≡ length w

pub record AddMembersIs (T R : List ℕ) (base : ℕ) (cs w : List ℕ) (t : ℕ) (w' : List ℕ) (r : ℕ) : Type 0 where
  pub is : ◌≡◌ {A = State} (w', r) (add_members_c (key_at T R) base cs (w, t))
  pub len : length w' ≡ length w

-- what stands on the stack below an entry
abbrev pub Below : ℕ → List ℕ → List ℕ → Type 0
Below place w w' = (i : ℕ) → stack_at ≤ i → i < stack_at + 2 * place → get_or w' i 0 ≡ get_or w i 0

pub record MembersIs (T R : List ℕ) (lo hi : ℕ) (w w' : List ℕ) (r : ℕ) : Type 0 where
  pub is : ◌≡◌ {A = State} (w', r) (add_members_c (key_at T R) hi (object_members T R (seg w lo (hi - lo))) (w, hi))
  pub below : Below hi w w'
  pub low : hi ≤ r
  pub len : length w' ≡ length w

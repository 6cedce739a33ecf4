-- What the walks over layers promise.
use Rattle.std.specs.Prelude.{◌≡◌, ℕ, ◌+◌, ◌-◌, ◌≤◌, List, [], length}
use Rattle.eval_stack.specs.Model.{entries, seg}
use Rattle.eval_stack.specs.Clauses.{Same}
use Rattle.eval_layers.specs.Model.{Stuck, Walk, deeper_c, gather_c}
use Rattle.eval_layers.specs.declared.Walked.{Walked}
use Rattle.eval_layers.specs.declared.Taken.{Taken}

-- what stands on a stack from base on, and how its walk ended
abbrev pub walked : List ℕ → ℕ → Walked → Walk
walked w base r = (seg w base (r.top - base), r.stuck)

pub record WalkedIs (base : ℕ) (w w' : List ℕ) (r : Walked) (m : Walk) : Type 0 where
  pub is : walked w' base r ≡ m
  pub same : Same base w w'
  pub low : base ≤ r.top
  pub high : r.top ≤ entries
  pub len : length w' ≡ length w

pub record DeeperIs (T R : List ℕ) (lo hi : ℕ) (st : Stuck) (base k : ℕ) (w w' : List ℕ) (r : Walked) : Type 0 where
  pub is : WalkedIs base w w' r (deeper_c T R k (entries - base) (seg w lo (hi - lo)) st)

-- What layers come to, and the objects from base on, which were pushed there: the last pushed first.
pub record TakenIs (base : ℕ) (w w' : List ℕ) (r : Taken) (m : Taken × List ℕ) : Type 0 where
  pub is : r ≡ m.0
  pub objects : seg w' base (length m.1) ≡ m.1
  pub high : base + length m.1 ≤ entries
  pub same : Same base w w'
  pub len : length w' ≡ length w

pub record GatherIs (T R : List ℕ) (lo hi : ℕ) (st : Stuck) (w w' : List ℕ) (r : Taken) : Type 0 where
  pub is : TakenIs hi w w' r (gather_c T R st hi (entries - hi) (seg w lo (hi - lo)) [])

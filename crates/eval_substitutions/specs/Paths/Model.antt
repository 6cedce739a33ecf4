-- The layers along a path of key numbers.
use Rattle.std.specs.Prelude.{◌≡◌, List, get_or}
use Prim.Native.Nat.{ℕ, zero, suc, ◌-◌, ◌≤◌}
use Rattle.std.proofs.Math.ListN.{length}
use Rattle.eval_stack.specs.Model.{entries, seg}
use Rattle.eval_stack.specs.Clauses.{Same}
use Rattle.eval_layers.specs.Model.{Stuck, deeper_c}
use Rattle.eval_layers.specs.declared.Part.{Part}

-- layers with the room from them on, and how their walk ended
pub record Layered : Type 0 where
  pub room : ℕ
  pub layers : List ℕ
  pub stuck : Stuck

abbrev pub parted : List ℕ → Part → Layered
parted w p = record { room = entries - p.lo; layers = seg w p.lo (p.hi - p.lo); stuck = p.stuck }

module _ (T R : List ℕ) where
  unfoldable pub onward_c : ℕ → Layered → Layered
  unfolding deeper_c
  onward_c k a =
      let r = a.room - length a.layers in
      let w = deeper_c T R k r a.layers a.stuck in
      record { room = r; layers = w.0; stuck = w.1 }

  -- so many keys of K more, from one on
  unfoldable pub walk_path_c : List ℕ → ℕ → ℕ → Layered → Layered
  unfolding onward_c
  walk_path_c K zero i a = a
  walk_path_c K (suc n) i a = walk_path_c K n (suc i) (onward_c (get_or K i 0) a)

pub record PartIs (w : List ℕ) (base : ℕ) (w' : List ℕ) (r : Part) (m : Layered) : Type 0 where
  pub is : parted w' r ≡ m
  pub same : Same base w w'
  pub low : r.lo ≤ r.hi
  pub above : base ≤ r.hi
  pub high : r.hi ≤ entries
  pub len : length w' ≡ length w

pub record WalkPathIs (T R K w : List ℕ) (a : Part) (count from : ℕ) (w' : List ℕ) (r : Part) : Type 0 where
  pub is : PartIs w a.hi w' r (walk_path_c T R K (count - from) from (parted w a))

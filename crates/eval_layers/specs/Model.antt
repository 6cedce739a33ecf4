-- What the walks over layers compute, on the numbers that they have: layers and keys are numbers, a part of the stack is the list of its
-- layers, last first. Nothing is assumed of the tables. `r` is the room: how many entries the rest of the stack can hold.
use Rattle.std.specs.Prelude.{ℕ, ◌+◌, eqb, Some, None}
use Rattle.std.proofs.Math.Bool.{cond}
use mathlib.Core.List.{List, [], ◌∷◌}
use Rattle.std.proofs.Math.ListN.{length}
use Rattle.std.specs.declared.option.Option.{Option as Maybe}
use Rattle.eval_nodes.specs.declared.answer.Answered.{Answered}
use Rattle.eval_nodes.specs.Model.{View, answered_at, view_at, key_at, members_of}
use Rattle.eval_stack.specs.Model.{push_c}
use Rattle.eval_layers.specs.declared.Taken.{Taken}

-- how a walk ended: at the end of the layers, or at a question whose answer is missing
abbrev pub Stuck : Type 0
Stuck = Maybe ℕ

-- layers, and how their walk ended
abbrev pub Walk : Type 0
Walk = List ℕ × Stuck

-- a node above what is below it
abbrev pub push_layer_by : ℕ → Walk → Answered → Walk
push_layer_by r w (Answered.Layer d) = (push_c d r w.0, w.1)
push_layer_by r w Answered.Undefined = w
push_layer_by r w (Answered.Missing b) = ([], Some b)

unfoldable pub push_layer_c : List ℕ → ℕ → ℕ → Walk → Walk
unfolding push_c answered_at
push_layer_c T r c w = push_layer_by r w (answered_at T c)

-- ---- what counts: the objects on top, above the entry base

abbrev pub of_end_c : Stuck → ℕ → ℕ → Taken
of_end_c (Some b) base top = Taken.Needs b
of_end_c None base top = cond (eqb base top) Taken.Nothing (Taken.Merged top)

abbrev pub of_other_c : ℕ → ℕ → ℕ → Taken
of_other_c c base top = cond (eqb base top) (Taken.One c) (Taken.Merged top)

module _ (T R : List ℕ) where
  -- ---- one key deeper

  unfoldable pub push_named_c : ℕ → ℕ → ℕ → Walk → Walk
  unfolding push_layer_c key_at
  push_named_c k r c w = cond (eqb (key_at T R c) k) (push_layer_c T r c w) w

  unfoldable pub push_members_c : ℕ → ℕ → List ℕ → Walk → Walk
  unfolding push_named_c
  push_members_c k r [] w = w
  push_members_c k r (c ∷ cs) w = push_members_c k r cs (push_named_c k r c w)

  -- a layer that is no object stops the walk
  abbrev pub inside_by : ℕ → ℕ → Walk → View → Walk
  inside_by k r w None = ([], None)
  inside_by k r w (Some m) = push_members_c k r (members_of T R m.first m.end) w

  unfoldable pub deeper_c : ℕ → ℕ → List ℕ → Stuck → Walk
  unfolding push_members_c members_of view_at
  deeper_c k r [] st = ([], st)
  deeper_c k r (c ∷ cs) st = inside_by k r (deeper_c k r cs st) (view_at T R c)

  -- ---- what counts, with the objects that were pushed

  abbrev pub gather_by : ℕ → ℕ → List ℕ → (List ℕ → Taken × List ℕ) → ℕ → View → Taken × List ℕ
  gather_by base r acc more c None = (of_other_c c base (base + length acc), acc)
  gather_by base r acc more c (Some m) = more (push_c c r acc)

  unfoldable pub gather_c : Stuck → ℕ → ℕ → List ℕ → List ℕ → Taken × List ℕ
  unfolding view_at push_c
  gather_c st base r [] acc = (of_end_c st base (base + length acc), acc)
  gather_c st base r (c ∷ cs) acc = gather_by base r acc (λ os. gather_c st base r cs os) c (view_at T R c)

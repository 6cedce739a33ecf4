-- A node above numbers that show layers: they show the layers with the node on top.
use Rattle.std.specs.Prelude.{◌≡◌, ℕ, ◌+◌, ◌-◌, ◌<◌, length, get_or, Some, None}
use Rattle.std.proofs.Math.Path.{refl, ap}
use Rattle.std.proofs.Common.{◌∙◌}
use mathlib.Core.List.{List, ◌∷◌}
use Rattle.std.proofs.Math.Option.{Option, none, some}
use native.Mathlib.Omega.{arith}
use borrow.Author.Tests.{lt-ltb, ne_eqb}
use Rattle.rules.specs.Tree.{Node, simple, array, object, unresolved}
use Rattle.rules.specs.Values.{Answer}
use Rattle.rules.specs.Layers.{Layer, written}
use Rattle.rules.specs.Settled.{Ending, no, at, Settled, push, push_answer, push_node}
use Rattle.doc_items.specs.Room.{capacity, answers_at}
use Rattle.eval_nodes.specs.Answer.Model.{answered}
use Rattle.eval_nodes.specs.declared.answer.Answered.{Answered}
use Rattle.eval_nodes.specs.Model.{answered_at}
use Rattle.eval_stack.specs.Model.{push_c}
use Rattle.eval_memory.specs.Finished.{Memory}
use Rattle.eval_memory.specs.Tables.{WrittenAt, AnswerAt, Tables, Shows, Match, layer-shown, unresolved-shown}
use Rattle.eval_layers.specs.Model.{Stuck, Walk, push_layer_by, push_layer_c}

-- the two ends of a walk
abbrev pub Ended : Stuck → Ending → Type 0
Ended None no = Unit {0}
Ended None (at b) = ⊥
Ended (Some a) no = ⊥
Ended (Some a) (at b) = a ≡ b

module _ (M : Memory) where
  abbrev pub WalkShows : Walk → Settled → Type 0
  WalkShows w s = Match M w.0 s.0 × Ended w.1 s.1

  pub push-room : (c r : ℕ) (acc : List ℕ) → length acc < r → push_c c r acc ≡ c ∷ acc
  unfolding push_c
  push-room c r acc l = rw (lt-ltb (length acc) r l, push_c) refl

  module _ (r c : ℕ) (w : Walk) where
    lay-as : (x : Answered) → answered_at M.table c ≡ x → push_layer_c M.table r c w ≡ push_layer_by r w x
    unfolding push_layer_c
    lay-as x e = rw (push_layer_c, e) refl

    lay-plain : (d : ℕ) → answered_at M.table c ≡ Answered.Layer d → length w.0 < r → push_layer_c M.table r c w ≡ (d ∷ w.0, w.1)
    unfolding push_c
    lay-plain d e l = lay-as (Answered.Layer d) e ∙ ap (λ (a : List ℕ). (a, w.1)) (push-room d r w.0 l)

  module _ (known : ℕ → Option Answer) (tables : Tables M known) (r c : ℕ) (w : Walk) (s : Settled) (m : WalkShows w s)
      (room : length w.0 < r) where
    -- a layer that is not unresolved
    pub lay-layer : (l : Layer) → Shows M c l → WalkShows (push_layer_c M.table r c w) (push l s)
    unfolding push
    lay-layer l x = rw (lay-plain r c w c (layer-shown M tables.stored c l x) room) ((x, m.0), m.1)

    lay-answer : (b : ℕ) (o : Option Answer) (a : ℕ) → AnswerAt M o a → answered_at M.table c ≡ answered b a
        → WalkShows (push_layer_c M.table r c w) (push_answer b o s)
    unfolding push_answer push push_c
    lay-answer b none a x e = rw (lay-as r c w (Answered.Missing b) (e ∙ ap (answered b) x)) (tt, refl)
    lay-answer b (some none) a x e = rw (lay-as r c w Answered.Undefined (e ∙ ap (answered b) x)) m
    lay-answer b (some (some v)) a x e =
        let o = x.0 in
        let f : answered b a ≡ Answered.Layer (capacity + o) = ap (answered b) x.1 ∙ plain o in
        rw (lay-plain r c w (capacity + o) (e ∙ f) room) (((o, refl, x.2), m.0), m.1)
      where
        plain : (o : ℕ) → answered b (o + 2) ≡ Answered.Layer (capacity + o)
        plain o =
            let z : o + 2 - 2 ≡ o = omega arith in
            rw (ne_eqb (o + 2) 0 (λ q. omega arith), ne_eqb (o + 2) 1 (λ q. omega arith), z) refl

    pub lay-node : (n : Node) → WrittenAt M n c → WalkShows (push_layer_c M.table r c w) (push_node known n s)
    unfolding push_node
    lay-node (simple x) a = lay-layer (written (simple x)) a
    lay-node (array es) a = lay-layer (written (array es)) a
    lay-node (object fs) a = lay-layer (written (object fs)) a
    lay-node (unresolved b ps) a =
        lay-answer b (known b) (get_or M.table (answers_at + b) 0) (tables.answers b a.node.1.1) (unresolved-shown M known tables ps a)

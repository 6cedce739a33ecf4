-- Members that are taken one by one come to what their layers come to, all walked first: where they have room, `take` is `gather`.
use Rattle.std.specs.Prelude.{◌≡◌, Some, None}
use Rattle.std.proofs.Math.Path.{refl}
use Prim.Native.Nat.{ℕ, suc, ◌≤◌, ◌<◌}
use mathlib.Core.List.{List, [], ◌∷◌}
use native.Mathlib.Omega.{arith}
use Rattle.std.proofs.Math.ListN.{length}
use borrow.Author.Tests.{lt-ltb}
use Rattle.eval_nodes.specs.declared.answer.Answered.{Answered}
use Rattle.eval_nodes.specs.Model.{View, answered_at, view_at}
use Rattle.eval_stack.specs.Model.{push_c}
use Rattle.eval_layers.specs.Model.{Walk, push_layer_by, push_layer_c, gather_by, gather_c}
use Rattle.eval_groups.specs.Select.Model.{view_seen, layer_seen, answer_seen, seen_at, take_by, take_c}

module _ (T R : List ℕ) where
  -- the layers of members, last first
  unfoldable pub layers_c : ℕ → List ℕ → Walk
  unfolding push_layer_c
  layers_c r [] = ([], None)
  layers_c r (c ∷ cs) = push_layer_c T r c (layers_c r cs)

  push-room : (c r : ℕ) (acc : List ℕ) → length acc < r → push_c c r acc ≡ c ∷ acc
  unfolding push_c
  push-room c r acc l = rw (push_c, lt-ltb (length acc) r l) refl

  -- no more than the members
  pub layers-short : (r : ℕ) (cs : List ℕ) → length cs ≤ r → length (layers_c r cs).0 ≤ length cs
  unfolding layers_c push_layer_c
  layers-short r [] l = omega arith
  layers-short r (c ∷ cs) l = go (answered_at T c) (layers-short r cs (omega arith))
    where
      go : (a : Answered) → length (layers_c r cs).0 ≤ length cs → length (push_layer_by r (layers_c r cs) a).0 ≤ suc (length cs)
      go (Answered.Layer d) ih = rw (push-room d r (layers_c r cs).0 (omega arith)) (omega arith)
      go Answered.Undefined ih = omega arith
      go (Answered.Missing b) ih = omega arith

  pub take-gathers : (base r : ℕ) (cs acc : List ℕ) → length cs ≤ r
      → take_c T R base r cs acc ≡ gather_c T R (layers_c r cs).1 base r (layers_c r cs).0 acc
  unfolding take_c gather_c layers_c push_layer_c seen_at layer_seen
  take-gathers base r [] acc l = refl
  take-gathers base r (c ∷ cs) acc l = go (answered_at T c) (λ os. take-gathers base r cs os (omega arith))
    where
      view : (d : ℕ) (v : View) → ((os : List ℕ) → take_c T R base r cs os ≡ gather_c T R (layers_c r cs).1 base r (layers_c r cs).0 os)
          → take_by base r acc (λ os. take_c T R base r cs os) (view_seen d v)
          ≡ gather_by T R base r acc (λ os. gather_c T R (layers_c r cs).1 base r (layers_c r cs).0 os) d v
      view d None ih = refl
      view d (Some m) ih = ih (push_c d r acc)

      go : (a : Answered) → ((os : List ℕ) → take_c T R base r cs os ≡ gather_c T R (layers_c r cs).1 base r (layers_c r cs).0 os)
          → take_by base r acc (λ os. take_c T R base r cs os) (answer_seen T R a)
          ≡ gather_c T R (push_layer_by r (layers_c r cs) a).1 base r (push_layer_by r (layers_c r cs) a).0 acc
      go (Answered.Layer d) ih =
          let few : length (layers_c r cs).0 < r = omega (arith, layers-short r cs (omega arith)) in
          rw (push-room d r (layers_c r cs).0 few) (view d (view_at T R d) ih)
      go Answered.Undefined ih = ih acc
      go (Answered.Missing b) ih = refl

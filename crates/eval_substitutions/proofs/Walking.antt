-- The two answers of `layers_for`.
use mathlib.Core.Path.{◌≡◌, sym, subst, ◌∙◌}
use Prim.Native.Nat.{ℕ, ◌≤◌, ◌<◌}
use mathlib.Core.List.{List}
use native.Mathlib.Omega.{arith}
use Rattle.doc_items.specs.Room.{capacity}
use Rattle.doc_items.specs.Writing.{ReadIs}
use Rattle.eval_stack.specs.Model.{Work}
use Rattle.eval_stack.specs.Pushes.{same-lower}
use Rattle.eval_layers.specs.Clauses.{walked}
use Rattle.eval_layers.specs.declared.Part.{Part}
use Rattle.eval_layers.specs.declared.Walked.{Walked}
use Rattle.eval_substitutions.specs.Paths.Model.{WalkPathIs}
use Rattle.eval_substitutions.specs.RootFields.Contracts.{OfRootIs}
use Rattle.eval_look_back.specs.Clauses.{RootAroundIs, LooksBackIs}
use Rattle.eval_substitutions.specs.Model.{Levels, level-root}
use Rattle.eval_substitutions.specs.Clauses.{BeforeIs, LayersC, looking-back, looking-forward, LayersForIs}

module _ {T R keys : List ℕ} {count item base own : ℕ} {w w₁ w₂ : List ℕ} {r : Part} where
  pub layers-back : {first field : ℕ} {walk : Walked} {part : Part} {w₃ : List ℕ} → LooksBackIs T keys count item own → 0 < own → ReadIs keys 0 first
      → RootAroundIs T first item field → OfRootIs T first field base w w₁ walk
      → BeforeIs T R keys item field (record { lo = base; hi = walk.top; stuck = walk.stuck }) w₁ w₂ part
      → WalkPathIs T R keys w₂ part count own w₃ r → LayersForIs T R keys count item base w w₃ r
  layers-back {first} {field} {walk} {part} {w₃} l some f a o b x =
      let low = o.low in
      let above = b.part.above in
      let root : Levels T R keys item base field 1 base (walked w₁ base walk) =
      level-root (subst (λ (k : ℕ). RootAroundIs T k item field) f.is a) (subst (λ (k : ℕ). OfRootIs T k field base w w₁ walk) f.is o) in
      record {
        layers = subst (LayersC T R keys count item base) (sym x.is.is) (looking-back l some (b.levels base root));
        part = record {
          same = λ i z. same-lower w₂ w₃ x.is.same base (omega arith) i z ∙ same-lower w₁ w₂ b.part.same base low i z ∙ o.same i z;
          above = omega (arith, x.is.above);
          low = x.is.low;
          high = x.is.high;
          len = x.is.len ∙ b.part.len ∙ o.len;
        };
      }

  pub layers-forward : {first : ℕ} {walk : Walked} → LooksBackIs T keys count item own → own ≤ 0 → ReadIs keys 0 first → OfRootIs T first capacity base w w₁ walk
      → WalkPathIs T R keys w₁ (record { lo = base; hi = walk.top; stuck = walk.stuck }) count 1 w₂ r → LayersForIs T R keys count item base w w₂ r
  layers-forward {first} {walk} l none f b x =
      let low = b.low in
      let zero : own ≡ 0 = omega arith in
      record {
        layers = subst (LayersC T R keys count item base) (sym x.is.is)
            (looking-forward (subst (LooksBackIs T keys count item) zero l) (subst (λ (k : ℕ). OfRootIs T k capacity base w w₁ walk) f.is b));
        part = record {
          same = λ i o. same-lower w₁ w₂ x.is.same base low i o ∙ b.same i o;
          above = omega (arith, x.is.above);
          low = x.is.low;
          high = x.is.high;
          len = x.is.len ∙ b.len;
        };
      }

-- what the callees ask of the stack
pub layers-part : {T R keys : List ℕ} {item field : ℕ} {root : Part} {w w' : List ℕ} {r : Part} → Work w → BeforeIs T R keys item field root w w' r → Work w'
layers-part room b = let e = b.part.len in omega (arith, room)

pub layers-root : {T : List ℕ} {k end base : ℕ} {w w' : List ℕ} {r : Walked} → Work w → OfRootIs T k end base w w' r → Work w'
layers-root room b = let e = b.len in omega (arith, room)

pub ruleset walks = (layers-back, layers-forward, layers-part, layers-root)

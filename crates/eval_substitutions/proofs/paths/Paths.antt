-- The layers one key deeper, and along a path.
use mathlib.Core.Path.{◌≡◌, refl, sym, ap, ◌∙◌}
use mathlib.Core.List.{List}
use Prim.Native.Nat.{ℕ, suc, ◌+◌, ◌-◌, ◌≤◌, ◌<◌}
use native.Mathlib.Omega.{arith}
use lib.ListN.{length, get_or}
use Rattle.doc_items.specs.Writing.{ReadIs}
use Rattle.eval_stack.specs.Model.{entries, Work, seg, seg-length}
use Rattle.eval_stack.specs.Clauses.{Same}
use Rattle.eval_stack.specs.Pushes.{same-lower}
use Rattle.eval_layers.specs.Model.{deeper_c}
use Rattle.eval_layers.specs.Clauses.{DeeperIs}
use Rattle.eval_layers.specs.declared.Walked.{Walked}
use Rattle.eval_layers.specs.declared.Part.{Part}
use Rattle.eval_substitutions.specs.Paths.Model.{parted, onward_c, walk_path_c, PartIs, WalkPathIs}

-- ---- one key

module _ {T R : List ℕ} (p : Part) {k : ℕ} {w w' : List ℕ} {walk : Walked} (h : DeeperIs T R p.lo p.hi p.stuck p.hi k w w' walk) where
  pub onward-is : p.lo ≤ p.hi → p.hi ≤ entries
      → PartIs w p.hi w' (record { lo = p.hi; hi = walk.top; stuck = walk.stuck }) (onward_c T R k (parted w p))
  unfolding onward_c
  onward-is l m =
      let n : entries - p.lo - length (seg w p.lo (p.hi - p.lo)) ≡ entries - p.hi = omega (arith, seg-length w p.lo (p.hi - p.lo)) in
      record {
        is =
            (λ i. record { room = entries - p.hi; layers = (h.is.is i).0; stuck = (h.is.is i).1 })
            ∙ sym (ap (λ (z : ℕ). let v = deeper_c T R k z (seg w p.lo (p.hi - p.lo)) p.stuck in
            record { room = z; layers = v.0; stuck = v.1 }) n);
        same = h.is.same;
        low = h.is.low;
        above = h.is.low;
        high = h.is.high;
        len = h.is.len;
      }

-- ---- all

-- what is left of the path gives what all of it gives
pub record WalkInv (T R K w₀ : List ℕ) (a : Part) (count from : ℕ) (w : List ℕ) (i : ℕ) (p : Part) : Type 0 where
  pub is : walk_path_c T R K (count - i) i (parted w p) ≡ walk_path_c T R K (count - from) from (parted w₀ a)
  pub same : Same a.hi w₀ w
  pub low : p.lo ≤ p.hi
  pub above : a.hi ≤ p.hi
  pub high : p.hi ≤ entries
  pub len : length w ≡ length w₀
  pub work : Work w

pub walk_start : {T R K w : List ℕ} {a : Part} {count from : ℕ} → a.lo ≤ a.hi → a.hi ≤ entries → Work w → WalkInv T R K w a count from w from a
walk_start l h k = record { is = refl; same = λ j o. refl; low = l; above = omega arith; high = h; len = refl; work = k }

module _ {T R K w₀ : List ℕ} {a : Part} {count from : ℕ} {w : List ℕ} {i : ℕ} {p : Part} (I : WalkInv T R K w₀ a count from w i p) where
  pub walk-low : p.lo ≤ p.hi
  walk-low = I.low

  pub walk-high : p.hi ≤ entries
  walk-high = I.high

  pub walk-work : Work w
  walk-work = I.work

  pub walk-again : {k : ℕ} {w' : List ℕ} {q : Part} → i < count → ReadIs K i k → PartIs w p.hi w' q (onward_c T R k (parted w p))
      → WalkInv T R K w₀ a count from w' (i + 1) q
  unfolding walk_path_c
  walk-again {k} {w'} {q} l e g =
      let n : count - i ≡ suc (count - (i + 1)) = omega arith in
      let m : suc i ≡ i + 1 = omega arith in
      record {
        is =
            ap (walk_path_c T R K (count - (i + 1)) (i + 1)) (g.is ∙ ap (λ (j : ℕ). onward_c T R j (parted w p)) e.is)
            ∙ ap (λ (j : ℕ). walk_path_c T R K (count - (i + 1)) j (onward_c T R (get_or K i 0) (parted w p))) (sym m)
            ∙ sym (ap (λ (z : ℕ). walk_path_c T R K z i (parted w p)) n) ∙ I.is;
        same = λ j o. same-lower w w' g.same a.hi I.above j o ∙ I.same j o;
        low = g.low;
        above = omega (arith, g.above, I.above);
        high = g.high;
        len = g.len ∙ I.len;
        work = omega (arith, g.len, I.work);
      }

  pub walk-done : count ≤ i → WalkPathIs T R K w₀ a count from w p
  unfolding walk_path_c
  walk-done l =
      let z : count - i ≡ 0 = omega arith in
      record {
        is = record {
          is = sym (ap (λ (n : ℕ). walk_path_c T R K n i (parted w p)) z) ∙ I.is;
          same = I.same;
          low = I.low;
          above = I.above;
          high = I.high;
          len = I.len;
        };
      }

pub ruleset walks = (walk_start, walk-low, walk-high, walk-work, walk-again, walk-done)

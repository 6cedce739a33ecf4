-- What layers come to, from the top on.
use Rattle.std.specs.Prelude.{Some, None}
use mathlib.Core.Path.{◌≡◌, refl, sym, ap, ◌∙◌}
use mathlib.Core.List.{List, []}
use Prim.Native.Nat.{ℕ, ◌+◌, ◌-◌, ◌≤◌, ◌<◌}
use native.Mathlib.Omega.{arith}
use lib.ListN.{length}
use borrow.Author.Tests.{eq-eqb, ne_eqb}
use Rattle.eval_nodes.specs.Model.{View, view_at}
use Rattle.eval_nodes.specs.Clauses.{ViewIs}
use Rattle.eval_nodes.specs.declared.Members.{Members}
use Rattle.eval_stack.specs.Model.{entries, Work, code_at, seg, seg-length}
use Rattle.eval_stack.specs.Clauses.{CodeIs, PushIs, Same}
use Rattle.eval_stack.specs.Pushes.{seg-last, seg-none, same_code, push-grows}
use Rattle.eval_layers.specs.Model.{Stuck, of_end_c, of_other_c, gather_by, gather_c}
use Rattle.eval_layers.specs.Clauses.{GatherIs}
use Rattle.eval_layers.specs.declared.Taken.{Taken}

module _ (c : ℕ) {base top : ℕ} where
  pub other-only : base ≡ top → Taken.One c ≡ of_other_c c base top
  other-only e = rw (eq-eqb base top e) refl

  pub other-below : (base ≡ top → ⊥) → Taken.Merged top ≡ of_other_c c base top
  other-below n = rw (ne_eqb base top n) refl

pub ruleset others = (other-only, other-below)

module _ {st : Stuck} (base top : ℕ) where
  pub end-missing : {b : ℕ} → st ≡ Some b → Taken.Needs b ≡ of_end_c st base top
  end-missing e = rw e refl

  pub end-nothing : st ≡ None → base ≡ top → Taken.Nothing ≡ of_end_c st base top
  end-nothing e f = rw (e, eq-eqb base top f) refl

  pub end-merged : st ≡ None → (base ≡ top → ⊥) → Taken.Merged top ≡ of_end_c st base top
  end-merged e n = rw (e, ne_eqb base top n) refl

pub ruleset ends = (end-missing, end-nothing, end-merged)

-- ---- the objects so far are pushed; what is left gives what all gives

pub record GatherInv (T R : List ℕ) (lo hi : ℕ) (st : Stuck) (w₀ w : List ℕ) (i top : ℕ) : Type 0 where
  pub is : gather_c T R st hi (entries - hi) (seg w₀ lo (i - lo)) (seg w hi (top - hi)) ≡ gather_c T R st hi (entries - hi) (seg w₀ lo (hi - lo)) []
  pub from : lo ≤ i
  pub upto : i ≤ hi
  pub low : hi ≤ top
  pub high : top ≤ entries
  pub same : Same hi w₀ w
  pub len : length w ≡ length w₀
  pub work : Work w

pub gather-start : {T R : List ℕ} {lo hi : ℕ} {st : Stuck} {w : List ℕ} → lo ≤ hi → hi ≤ entries → Work w → GatherInv T R lo hi st w w hi hi
gather-start {T} {R} {lo} {hi} {st} {w} l h k = record {
  is = ap (gather_c T R st hi (entries - hi) (seg w lo (hi - lo))) (seg-none w hi);
  from = l;
  upto = omega arith;
  low = omega arith;
  high = h;
  same = λ i o. refl;
  len = refl;
  work = k;
}

module _ {T R : List ℕ} {lo hi : ℕ} {st : Stuck} {w₀ w : List ℕ} {i top : ℕ} (I : GatherInv T R lo hi st w₀ w i top) where
  pub gather-low : hi ≤ top
  gather-low = I.low

  pub gather-high : top ≤ entries
  gather-high = I.high

  pub gather-upto : i ≤ hi
  gather-upto = I.upto

  pub gather-work : Work w
  gather-work = I.work

  -- all that was pushed
  ends_at : hi + length (seg w hi (top - hi)) ≡ top
  ends_at = omega (arith, seg-length w hi (top - hi), I.low)

  taken : {r : Taken} {m : Taken × List ℕ} → m ≡ gather_c T R st hi (entries - hi) (seg w₀ lo (hi - lo)) [] → r ≡ m.0 → m.1 ≡ seg w hi (top - hi)
      → GatherIs T R lo hi st w₀ w r
  taken {r} {m} e f g =
      let n : length m.1 ≡ top - hi = ap length g ∙ seg-length w hi (top - hi) in
      record {
        is = rw (← e) (record {
          is = f;
          objects = ap (seg w hi) n ∙ sym g;
          high = omega (arith, I.low, I.high);
          same = I.same;
          len = I.len;
        });
      }

  module _ (l : lo < i) {c : ℕ} {v : View} (x : CodeIs w (i - 1) c) (h : ViewIs T R c v) where
    -- the layer, and those below it
    abbrev taken-by : ℕ → View → Taken × List ℕ
    taken-by = gather_by T R hi (entries - hi) (seg w hi (top - hi)) (λ os. gather_c T R st hi (entries - hi) (seg w₀ lo (i - 1 - lo)) os)

    here : taken-by c v ≡ gather_c T R st hi (entries - hi) (seg w₀ lo (hi - lo)) []
    unfolding gather_c
    here =
        let u = I.upto in
        let e : c ≡ code_at w₀ (i - 1) = x.is ∙ same_code w₀ w I.same (i - 1) (omega arith) in
        ap (taken-by c) h.is ∙ ap (λ (d : ℕ). taken-by d (view_at T R d)) e
        ∙ sym (ap (λ (cs : List ℕ). gather_c T R st hi (entries - hi) cs (seg w hi (top - hi))) (seg-last w₀ lo i l)) ∙ I.is

    pub gather-other : {r : Taken} → v ≡ None → r ≡ of_other_c c hi top → GatherIs T R lo hi st w₀ w r
    gather-other {r} e f = taken (ap (taken-by c) (sym e) ∙ here) (f ∙ ap (of_other_c c hi) (sym ends_at)) refl

    pub gather-more : {m : Members} {w' : List ℕ} {t : ℕ} → v ≡ Some m → PushIs top c w w' t → GatherInv T R lo hi st w₀ w' (i - 1) t
    gather-more {m} {w'} {t} q y =
        let u = I.upto in
        let g = push-grows I.low I.high I.work y in
        record {
          is = ap (gather_c T R st hi (entries - hi) (seg w₀ lo (i - 1 - lo))) g.list ∙ ap (taken-by c) (sym q) ∙ here;
          from = omega arith;
          upto = omega arith;
          low = g.low;
          high = g.high;
          same = λ j o. g.same j o ∙ I.same j o;
          len = g.len ∙ I.len;
          work = omega (arith, g.len, I.work);
        }

  pub gather-end : {r : Taken} → i ≤ lo → r ≡ of_end_c st hi top → GatherIs T R lo hi st w₀ w r
  unfolding gather_c
  gather-end {r} l f =
      let u = I.from in
      let e : i ≡ lo = omega arith in
      taken (sym (ap (λ (cs : List ℕ). gather_c T R st hi (entries - hi) cs (seg w hi (top - hi))) (ap (λ (j : ℕ). seg w₀ lo (j - lo)) e ∙ seg-none w₀ lo)) ∙ I.is)
      (f ∙ ap (of_end_c st hi) (sym ends_at)) refl

pub ruleset gathers = (gather-start, gather-low, gather-high, gather-upto, gather-work, gather-other, gather-more, gather-end)

-- The walk along a group: laws for `take`, one for each return.
use mathlib.Core.Path.{◌≡◌, refl, sym, ap, ◌∙◌}
use mathlib.Core.List.{List, []}
use Prim.Native.Nat.{ℕ, suc, ◌+◌, ◌-◌, ◌≤◌, ◌<◌}
use native.Mathlib.Omega.{arith}
use lib.ListN.{length}
use borrow.Author.Tests.{lt-ltb, le-ltb, eq-eqb}
use Rattle.eval_stack.specs.Model.{entries, link_at, seg}
use Rattle.eval_stack.specs.Clauses.{LinkIs, Same}
use Rattle.eval_stack.specs.Pushes.{same_code, same-link, seg-none}
use Rattle.eval_layers.specs.declared.Taken.{Taken}
use Rattle.eval_groups.specs.Model.{chain_at, chain_c}
use Rattle.eval_groups.specs.Chains.{chain_same}
use Rattle.eval_groups.specs.Select.Model.{take_c}
use Rattle.eval_groups.specs.Select.Contracts.{Descended, DescentIs, TakeIs}
use Rattle.eval_groups.specs.declared.select.Descent.{Descent}

-- what is left of the walk, from q down, gives what all gives
pub record TakeInv (T R : List ℕ) (first top : ℕ) (w₀ w : List ℕ) (q t : ℕ) : Type 0 where
  pub is : take_c T R top (entries - top) (chain_at w q) (seg w top (t - top)) ≡ take_c T R top (entries - top) (chain_c w₀ top (link_at w₀ first)) []
  pub same : Same top w₀ w
  pub low : top ≤ t
  pub high : t ≤ entries
  pub inside : q < top
  pub len : length w ≡ length w₀

module _ (T R : List ℕ) {first top : ℕ} {w : List ℕ} {q : ℕ} (r : LinkIs w first q) (fits : top ≤ entries) where
  pub take_out : top ≤ q → TakeIs T R first top w w Taken.Nothing
  unfolding take_c chain_c
  take_out h =
      let e : chain_c w top (link_at w first) ≡ [] = rw (chain_c, sym r.is, le-ltb q top h) refl in
      let z : top + 0 ≡ top = omega arith in
      record { is = rw (e, z, eq-eqb top top refl) (record { is = refl; objects = refl; high = omega arith; same = λ i o. refl; len = refl }) }

  pub take-start : q < top → TakeInv T R first top w w q top
  unfolding take_c chain_c
  take-start h =
      let e : chain_c w top (link_at w first) ≡ chain_at w q = rw (chain_c, sym r.is, lt-ltb q top h) refl in
      record {
        is = ap (take_c T R top (entries - top) (chain_at w q)) (seg-none w top) ∙ sym (ap (λ (l : List ℕ). take_c T R top (entries - top) l []) e);
        same = λ i o. refl;
        low = omega arith;
        high = fits;
        inside = h;
        len = refl;
      }

module _ {T R : List ℕ} {first top : ℕ} {w₀ w : List ℕ} {q t : ℕ} (I : TakeInv T R first top w₀ w q t) {w' : List ℕ} {d : Descent}
    (h : DescentIs T R top w t q w' d) where
  pub take-stop : {x : Taken} → d ≡ Descent.End x → TakeIs T R first top w₀ w' x
  take-stop {x} f =
      let g : Descended T R top w t q w' (Descent.End x) = rw f at h.is in
      let e : (x, g.0) ≡ take_c T R top (entries - top) (chain_c w₀ top (link_at w₀ first)) [] = sym g.1 ∙ I.is in
      record {
        is = rw (← e) (record { is = refl; objects = g.2; high = g.3; same = λ i o. h.same i o ∙ I.same i o; len = h.len ∙ I.len });
      }

  module _ {u n : ℕ} (f : d ≡ Descent.More u n) where
    gone : Descended T R top w t q w' (Descent.More u n)
    gone = rw f at h.is

    pub take_less : n < q
    take_less = gone.1

    pub take_again : TakeInv T R first top w₀ w' n u
    take_again =
        let i : q < top = I.inside in
        let l : n < q = gone.1 in
        let c : chain_at w' n ≡ chain_at w n =
        chain_same w w' top (λ p m. same_code w w' h.same p m) (λ p m. same-link w w' h.same p) (suc n) n (omega arith) in
        record {
          is = ap (λ (x : List ℕ). take_c T R top (entries - top) x (seg w' top (u - top))) c ∙ sym gone.0 ∙ I.is;
          same = λ j o. h.same j o ∙ I.same j o;
          low = gone.2;
          high = gone.3;
          inside = omega arith;
          len = h.len ∙ I.len;
        }

pub ruleset takes = (take_out, take-start, take-stop, take_less, take_again)

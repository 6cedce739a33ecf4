-- One key deeper.
use Rattle.std.specs.Prelude.{Some, None}
use mathlib.Core.Path.{◌≡◌, refl, sym, ap, ◌∙◌}
use mathlib.Core.List.{List, []}
use Prim.Native.Nat.{ℕ, ◌+◌, ◌-◌, ◌≤◌, ◌<◌}
use native.Mathlib.Omega.{arith}
use Rattle.eval_nodes.specs.Model.{View, view_at, members_of}
use Rattle.eval_nodes.specs.Clauses.{ViewIs}
use Rattle.eval_nodes.specs.declared.Members.{Members}
use Rattle.eval_stack.specs.Model.{entries, Work, code_at, seg}
use Rattle.eval_stack.specs.Clauses.{CodeIs}
use Rattle.eval_stack.specs.Pushes.{seg-more, seg-none, same_code}
use Rattle.eval_layers.specs.Model.{Stuck, Walk, push_members_c, inside_by, deeper_c}
use Rattle.eval_layers.specs.Clauses.{walked, WalkedIs, DeeperIs}
use Rattle.eval_layers.specs.declared.Walked.{Walked}

-- all from base on is dropped
empties : {base : ℕ} {w : List ℕ} (st : Stuck) {m : Walk} → base ≤ entries → m ≡ ([], st) → WalkedIs base w w (record { top = base; stuck = st }) m
empties {base} {w} st h e = record {
  is = (λ i. (seg-none w base i, st)) ∙ sym e;
  same = λ i o. refl;
  low = omega arith;
  high = h;
  len = refl;
}

-- ---- one layer

module _ {T R : List ℕ} {base : ℕ} {w : List ℕ} (walk : Walked) (k : ℕ) {c : ℕ} {v : View} (h : ViewIs T R c v) where
  pub inside-other : base ≤ walk.top → walk.top ≤ entries → v ≡ None
      → WalkedIs base w w (record { top = base; stuck = None }) (inside_by T R k (entries - base) (walked w base walk) (view_at T R c))
  inside-other low high e = empties None (omega arith) (ap (inside_by T R k (entries - base) (walked w base walk)) (sym h.is ∙ e))

  pub inside-many : {m : Members} {w' : List ℕ} {r : Walked} → v ≡ Some m
      → WalkedIs base w w' r (push_members_c T R k (entries - base) (members_of T R m.first m.end) (walked w base walk))
      → WalkedIs base w w' r (inside_by T R k (entries - base) (walked w base walk) (view_at T R c))
  inside-many t g = record {
    is = g.is ∙ sym (ap (inside_by T R k (entries - base) (walked w base walk)) (sym h.is ∙ t));
    same = g.same;
    low = g.low;
    high = g.high;
    len = g.len;
  }

pub ruleset insides = (inside-other, inside-many)

-- ---- all layers, lowest first

pub record DeepInv (T R : List ℕ) (lo hi : ℕ) (st : Stuck) (base k : ℕ) (w₀ w : List ℕ) (i : ℕ) (walk : Walked) : Type 0 where
  pub is : WalkedIs base w₀ w walk (deeper_c T R k (entries - base) (seg w₀ lo (i - lo)) st)
  pub from : lo ≤ i
  pub upto : i ≤ hi
  pub work : Work w

pub deep-start : {T R : List ℕ} {lo hi : ℕ} {st : Stuck} {base k : ℕ} {w : List ℕ} → lo ≤ hi → base ≤ entries → Work w
    → DeepInv T R lo hi st base k w w lo (record { top = base; stuck = st })
unfolding deeper_c
deep-start {T} {R} {lo} {hi} {st} {base} {k} {w} h z q = record {
  is = empties st z (rw (seg-none w lo, deeper_c) refl);
  from = omega arith;
  upto = h;
  work = q;
}

module _ {T R : List ℕ} {lo hi : ℕ} {st : Stuck} {base k : ℕ} {w₀ w : List ℕ} {i : ℕ} {walk : Walked}
    (I : DeepInv T R lo hi st base k w₀ w i walk) where
  pub deep-low : base ≤ walk.top
  deep-low = I.is.low

  pub deep-high : walk.top ≤ entries
  deep-high = I.is.high

  pub deep-work : Work w
  deep-work = I.work

  pub deep-again : {c : ℕ} {w' : List ℕ} {r : Walked} → i < hi → hi ≤ base → CodeIs w i c
      → WalkedIs base w w' r (inside_by T R k (entries - base) (walked w base walk) (view_at T R c))
      → DeepInv T R lo hi st base k w₀ w' (i + 1) r
  unfolding deeper_c
  deep-again {c} {w'} {r} z y x g =
      let f : lo ≤ i = I.from in
      let m = deeper_c T R k (entries - base) (seg w₀ lo (i - lo)) st in
      record {
        is = record {
          is =
              g.is
              ∙ ap (λ (d : ℕ). inside_by T R k (entries - base) (walked w base walk) (view_at T R d)) x.is
              ∙ ap (λ (u : Walk). inside_by T R k (entries - base) u (view_at T R (code_at w i))) I.is.is
              ∙ ap (λ (c : ℕ). inside_by T R k (entries - base) m (view_at T R c)) (same_code w₀ w I.is.same i (omega arith))
              ∙ sym (ap (λ (x : List ℕ). deeper_c T R k (entries - base) x st) (seg-more w₀ lo i f));
          same = λ j o. g.same j o ∙ I.is.same j o;
          low = g.low;
          high = g.high;
          len = g.len ∙ I.is.len;
        };
        from = omega arith;
        upto = omega arith;
        work = omega (arith, g.len, I.work);
      }

  pub deep-done : hi ≤ i → DeeperIs T R lo hi st base k w₀ w walk
  deep-done z =
      let u : i ≤ hi = I.upto in
      let e : i ≡ hi = omega arith in
      record {
        is = record {
          is = I.is.is ∙ ap (λ (x : ℕ). deeper_c T R k (entries - base) (seg w₀ lo (x - lo)) st) e;
          same = I.is.same;
          low = I.is.low;
          high = I.is.high;
          len = I.is.len;
        };
      }

pub ruleset deeps = (deep-start, deep-low, deep-high, deep-work, deep-again, deep-done)

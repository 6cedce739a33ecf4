-- One law for each answer of the functions on a path's elements.
use mathlib.Core.Path.{◌≡◌, refl, ap, subst, ◌∙◌}
use mathlib.Core.List.{List}
use Prim.Native.Nat.{ℕ, ◌+◌, ◌*◌, ◌-◌, ◌≤◌, ◌<◌}
use native.Mathlib.Omega.{arith}
use lib.ListN.{length, get_or, set, length-set}
use lib.Seq.{get_or-set_same, get_or-set_other}
use borrow.Author.Tests.{eq-eqb, ne_eqb, lt-ltb, le-ltb}
use Rattle.sheet_records.specs.Kinds.Contracts.{PairIs}
use Rattle.doc_items.specs.Room.{number_bound}
use Rattle.eval_keys.specs.Texts.{by_equal}
use Rattle.eval_keys.specs.Clauses.{FindIs}
use Rattle.eval_substitutions.specs.Keys.Model.{ends_at, begins_at, text_span, element_at, element_len}
use Rattle.eval_substitutions.specs.Keys.Contracts.{BeginsIs, SpanIs, PathKeyIs, PathKeysIs}
use Rattle.eval_substitutions.specs.declared.keys.Route.{Route}

-- ---- where an element begins and how long it is

module _ {X : List ℕ} {ends i : ℕ} where
  pub begins-first : i ≡ 0 → BeginsIs X ends i 0
  unfolding begins_at
  begins-first e = record { is = rw (eq-eqb i 0 e, begins_at) refl; small = omega arith }

  pub begins-later : {r : ℕ} → (i ≡ 0 → ⊥) → PairIs X (ends + 2 * (i - 1)) r → BeginsIs X ends i r
  unfolding begins_at
  begins-later e t = record { is = t.is ∙ rw (ne_eqb i 0 e, begins_at) refl; small = t.small }

pub ruleset beginnings = (begins-first, begins-later)

module _ {from to : ℕ} where
  pub span-back : to < from → SpanIs from to 0
  unfolding text_span
  span-back l =
      let z : to - from ≡ 0 = omega arith in
      record { is = rw (text_span, z) refl; small = omega arith }

  pub span-short : from ≤ to → to - from < number_bound → SpanIs from to (to - from)
  unfolding text_span
  span-short l h = record { is = rw (text_span, lt-ltb (to - from) number_bound h) refl; small = h }

  pub span-long : from ≤ to → number_bound ≤ to - from → SpanIs from to 0
  unfolding text_span
  span-long l h = record { is = rw (text_span, le-ltb (to - from) number_bound h) refl; small = omega arith }

pub ruleset spans = (span-back, span-short, span-long)

-- ---- the number of an element

module _ {X T : List ℕ} (x : Route) {i f t n r : ℕ} where
  pub element-found : BeginsIs X (ends_at x) i f → PairIs X (ends_at x + 2 * i) t → SpanIs f t n → FindIs X T (x.at.0 + f) n r → PathKeyIs X T x i r
  unfolding element_at element_len
  element-found a b s h =
      let e : x.at.0 + f ≡ element_at X x i = ap (λ (m : ℕ). x.at.0 + m) a.is in
      let g : n ≡ element_len X x i = s.is ∙ ap (λ (m : ℕ). text_span m t) a.is ∙ ap (text_span (begins_at X (ends_at x) i)) b.is in
      record { found = subst (λ (m : ℕ). FindIs X T (element_at X x i) m r) g (subst (λ (p : ℕ). FindIs X T p n r) e h) }

-- ---- of all

pub record KeysInv (X T : List ℕ) (x : Route) (K₀ K : List ℕ) (i : ℕ) : Type 0 where
  pub found : (j : ℕ) → j < i → PathKeyIs X T x j (get_or K j 0)
  pub upto : i ≤ x.count
  pub len : length K ≡ length K₀

pub keys-start : {X T : List ℕ} {x : Route} {K : List ℕ} → KeysInv X T x K K 0
keys-start = record { found = λ j l. absurd (omega arith); upto = omega arith; len = refl }

module _ {X T : List ℕ} {x : Route} {K₀ K : List ℕ} {i : ℕ} (I : KeysInv X T x K₀ K i) where
  pub keys-inside : i < x.count → x.count ≤ length K₀ → i < length K
  keys-inside l h = omega (arith, I.len)

  pub keys-small : {r : ℕ} → PathKeyIs X T x i r → r < number_bound
  keys-small h = h.found.small

  pub keys-more : {r : ℕ} → i < x.count → x.count ≤ length K₀ → PathKeyIs X T x i r → KeysInv X T x K₀ (set K i r) (i + 1)
  keys-more {r} l h y = record {
    found = λ j m. by_equal (PathKeyIs X T x j (get_or (set K i r) j 0)) j i
        (λ e. let s : get_or (set K i r) i 0 ≡ r = get_or-set_same K i r 0 (omega (arith, I.len)) in rw (e, s) y)
        (λ e. rw (get_or-set_other K i j r 0 e) (I.found j (omega arith)));
    upto = omega arith;
    len = length-set K i r ∙ I.len;
  }

  pub keys-end : x.count ≤ i → PathKeysIs X T x K₀ K
  keys-end l = record { found = λ j m. I.found j (omega arith); len = I.len }

pub ruleset keys = (keys-start, keys-inside, keys-small, keys-more, keys-end)

-- The first entries of the groups, in order, have the keys by first appearance.
use Rattle.std.specs.Prelude.{◌≡◌, Bool, leb, eqb, length}
use Rattle.std.proofs.Math.Path.{refl, ap}
use Rattle.std.proofs.Common.{sym, ◌∙◌}
use Rattle.std.proofs.Math.Bool.{true, false, cond}
use mathlib.Core.List.{List, [], ◌∷◌, ◌++◌, reverse_aux}
use Prim.Native.Nat.{ℕ, zero, suc, ◌+◌, ◌≤◌, ◌<◌}
use native.Mathlib.Omega.{arith}
use borrow.Author.Tests.{le-leb, lt-leb, eq-eqb, ne_eqb, eqb-true}
use Rattle.eval_keys.specs.Texts.{by_equal}
use Rattle.eval_stack.specs.Model.{code_at, link_at, seg}
use Rattle.eval_groups.specs.Links.{None, Link, first, later, Links}
use Rattle.eval_groups.specs.Groups.{keys_at, Chained}

-- ---- "each key's value is taken in order of first appearance", on key numbers: as the rules' hasKey, add_key, field_keys

unfoldable pub has_number : ℕ → List ℕ → Bool
has_number k [] = false
has_number k (j ∷ ks) = cond (eqb k j) true (has_number k ks)

unfoldable pub add_number : ℕ → List ℕ → List ℕ
unfolding has_number
add_number k ks = cond (has_number k ks) ks (ks ++ (k ∷ []))

unfoldable pub numbers_in : (ℕ → ℕ) → List ℕ → List ℕ → List ℕ
unfolding add_number
numbers_in key [] ks = ks
numbers_in key (c ∷ cs) ks = numbers_in key cs (add_number (key c) ks)

-- the keys of the first entries among the n from p on: those whose link does not fall
unfoldable pub first_keys : (ℕ → ℕ) → List ℕ → ℕ → ℕ → List ℕ
first_keys key w p zero = []
first_keys key w p (suc n) = cond (leb p (link_at w p)) (keys_at key w p ∷ first_keys key w (p + 1) n) (first_keys key w (p + 1) n)

module _ (key : ℕ → ℕ) (w : List ℕ) where
  pub firsts-one : (p n : ℕ) → p ≤ link_at w p → first_keys key w p (suc n) ≡ keys_at key w p ∷ first_keys key w (p + 1) n
  unfolding first_keys
  firsts-one p n h = rw (first_keys, le-leb p (link_at w p) h) refl

  pub firsts-pass : (p n : ℕ) → link_at w p < p → first_keys key w p (suc n) ≡ first_keys key w (p + 1) n
  unfolding first_keys
  firsts-pass p n h = rw (first_keys, lt-leb p (link_at w p) h) refl

  -- the last entry
  firsts-last : (p n : ℕ) → first_keys key w p (suc n)
      ≡ cond (leb (p + n) (link_at w (p + n))) (first_keys key w p n ++ (keys_at key w (p + n) ∷ [])) (first_keys key w p n)
  unfolding first_keys
  firsts-last p zero = let z : p ≡ p + 0 = omega arith in ap (λ (q : ℕ). cond (leb q (link_at w q)) (keys_at key w q ∷ []) []) z
  firsts-last p (suc n) =
      let z : p + 1 + n ≡ p + suc n = omega arith in
      go (leb p (link_at w p)) (rw z at (firsts-last (p + 1) n))
    where
      put : (t : Bool) (k j : ℕ) (ks : List ℕ) → k ∷ cond t (ks ++ (j ∷ [])) ks ≡ cond t (k ∷ (ks ++ (j ∷ []))) (k ∷ ks)
      put true k j ks = refl
      put false k j ks = refl

      go : (t : Bool) → first_keys key w (p + 1) (suc n)
          ≡ cond (leb (p + suc n) (link_at w (p + suc n))) (first_keys key w (p + 1) n ++ (keys_at key w (p + suc n) ∷ [])) (first_keys key w (p + 1) n)
          → cond t (keys_at key w p ∷ first_keys key w (p + 1) (suc n)) (first_keys key w (p + 1) (suc n))
          ≡ cond (leb (p + suc n) (link_at w (p + suc n)))
          (cond t (keys_at key w p ∷ first_keys key w (p + 1) n) (first_keys key w (p + 1) n) ++ (keys_at key w (p + suc n) ∷ []))
          (cond t (keys_at key w p ∷ first_keys key w (p + 1) n) (first_keys key w (p + 1) n))
      go true e =
          ap (λ (ks : List ℕ). keys_at key w p ∷ ks) e
          ∙ put (leb (p + suc n) (link_at w (p + suc n))) (keys_at key w p) (keys_at key w (p + suc n)) (first_keys key w (p + 1) n)
      go false e = e

-- other content elsewhere
pub firsts_same : (key : ℕ → ℕ) (w w' : List ℕ) (p n : ℕ) → ((j : ℕ) → p ≤ j → j < p + n → code_at w' j ≡ code_at w j)
    → ((j : ℕ) → p ≤ j → j < p + n → link_at w' j ≡ link_at w j) → first_keys key w' p n ≡ first_keys key w p n
unfolding first_keys
firsts_same key w w' p zero codes links = refl
firsts_same key w w' p (suc n) codes links =
    let here : p < p + suc n = omega arith in
    let low : p ≤ p = omega arith in
    rw (
      codes p low here,
      links p low here,
      firsts_same key w w' (p + 1) n (λ j a b. codes j (omega arith) (omega arith))
          (λ j a b. links j (omega arith) (omega arith)),
    ) refl

-- ---- keys of a list whose last is first

unfoldable numbers_up : (ℕ → ℕ) → List ℕ → List ℕ
unfolding add_number
numbers_up key [] = []
numbers_up key (c ∷ cs) = add_number (key c) (numbers_up key cs)

keys-turned : (key : ℕ → ℕ) (xs ys : List ℕ) → numbers_up key (reverse_aux xs ys) ≡ numbers_in key xs (numbers_up key ys)
unfolding numbers_up numbers_in
keys-turned key [] ys = refl
keys-turned key (c ∷ xs) ys = keys-turned key xs (c ∷ ys)

has_last : (k j : ℕ) (ks : List ℕ) → has_number k (ks ++ (j ∷ [])) ≡ cond (eqb k j) true (has_number k ks)
unfolding has_number
has_last k j [] = refl
has_last k j (i ∷ ks) = go (eqb k i) (eqb k j) (has_last k j ks)
  where
    go : (t u : Bool) → has_number k (ks ++ (j ∷ [])) ≡ cond u true (has_number k ks)
        → cond t true (has_number k (ks ++ (j ∷ []))) ≡ cond u true (cond t true (has_number k ks))
    go true true h = refl
    go true false h = refl
    go false u h = h

has-add : (k j : ℕ) (ks : List ℕ) → has_number k (add_number j ks) ≡ cond (eqb k j) true (has_number k ks)
unfolding add_number
has-add k j ks = go (has_number j ks) refl
  where
    old : (t : Bool) → eqb k j ≡ t → has_number j ks ≡ true → has_number k ks ≡ cond t true (has_number k ks)
    old true f e = ap (λ (i : ℕ). has_number i ks) (eqb-true k j f) ∙ e
    old false f e = refl

    go : (t : Bool) → has_number j ks ≡ t → has_number k (cond t ks (ks ++ (j ∷ []))) ≡ cond (eqb k j) true (has_number k ks)
    go true e = old (eqb k j) refl e
    go false e = has_last k j ks

module _ (key : ℕ → ℕ) (w : List ℕ) (base k : ℕ) where
  has_more : (n : ℕ) → has_number k (numbers_up key (seg w base (suc n)))
      ≡ cond (eqb k (keys_at key w (base + n))) true (has_number k (numbers_up key (seg w base n)))
  unfolding numbers_up
  has_more n = has-add k (keys_at key w (base + n)) (numbers_up key (seg w base n))

  has-not : (n : ℕ) → None (keys_at key w) k base (base + n) → has_number k (numbers_up key (seg w base n)) ≡ false
  unfolding numbers_up has_number
  has-not zero h = refl
  has-not (suc n) h =
      has_more n
      ∙ ap (λ (t : Bool). cond t true (has_number k (numbers_up key (seg w base n))))
      (ne_eqb k (keys_at key w (base + n)) (λ e. h (base + n) (omega arith) (omega arith) (sym e)))
      ∙ has-not n (λ j a b. h j a (omega arith))

  has_one : (n j : ℕ) → base ≤ j → j < base + n → keys_at key w j ≡ k → has_number k (numbers_up key (seg w base n)) ≡ true
  has_one zero j l h e = absurd (omega arith)
  has_one (suc n) j l h e =
      has_more n
      ∙ by_equal (cond (eqb k (keys_at key w (base + n))) true (has_number k (numbers_up key (seg w base n))) ≡ true) j (base + n)
      (λ x. ap (λ (t : Bool). cond t true (has_number k (numbers_up key (seg w base n))))
      (eq-eqb k (keys_at key w (base + n)) (sym (sym (ap (keys_at key w) x) ∙ e))))
      (λ x. always (eqb k (keys_at key w (base + n))) (has_number k (numbers_up key (seg w base n))) (has_one n j l (omega arith) e))
    where
      always : (t u : Bool) → u ≡ true → cond t true u ≡ true
      always true u h = refl
      always false u h = h

module _ (key : ℕ → ℕ) (w : List ℕ) (base top : ℕ) (L : Links (keys_at key w) (link_at w) base top) where
  firsts-are : (n : ℕ) → base + n ≤ top → first_keys key w base n ≡ numbers_up key (seg w base n)
  unfolding first_keys numbers_up add_number
  firsts-are zero h = refl
  firsts-are (suc n) h = go (firsts-are n (omega arith)) (L.at (base + n) (omega arith) (omega arith))
    where
      go : first_keys key w base n ≡ numbers_up key (seg w base n) → Link (keys_at key w) (link_at w) base top (base + n)
          → first_keys key w base (suc n) ≡ numbers_up key (seg w base (suc n))
      go ih (first o a b s m) =
          firsts-last key w base n
          ∙ rw (le-leb (base + n) (link_at w (base + n)) a, has-not key w base (keys_at key w (base + n)) n o)
          (ap (λ (ks : List ℕ). ks ++ (keys_at key w (base + n) ∷ [])) ih)
      go ih (later a b s m) =
          firsts-last key w base n
          ∙ rw (lt-leb (base + n) (link_at w (base + n)) b, has_one key w base (keys_at key w (base + n)) n (link_at w (base + n)) a b s) ih

-- The first entries in order have the keys of the codes by first appearance.
pub firsts-in-order : (key : ℕ → ℕ) {base top : ℕ} {xs w : List ℕ} → Chained key base top xs w → first_keys key w base (length xs) ≡ numbers_in key xs []
unfolding numbers_up
firsts-in-order key {base} {top} {xs} {w} C =
    let n : top ≡ base + length xs = C.size in
    firsts-are key w base top C.links (length xs) (omega arith) ∙ ap (numbers_up key) C.entries ∙ keys-turned key xs []

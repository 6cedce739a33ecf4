-- Bytes that are compared one behind the other.
use Rattle.std.specs.Prelude.{◌≡◌, refl, ◌↔◌, ℕ, suc, ◌+◌, ◌≤◌, Bool, true, false, cond, List, [], ◌∷◌, ◌++◌, length, get_or, take, drop, eqb}
use Rattle.std.proofs.Common.{sym, ap, ◌∙◌, arith, drop-cons, eqb-true, eq-eqb}
use Rattle.answers.specs.Theory.Sound.{clash}
use Rattle.sheet_layout.specs.Model.{eq_at}

pub eq_at-append : (s : List ℕ) (i : ℕ) (a b : List ℕ) → eq_at s i (a ++ b) ≡ cond (eq_at s i a) (eq_at s (i + length a) b) false
unfolding eq_at
eq_at-append s i [] b = let e : i ≡ i + 0 = omega arith in ap (λ (x : ℕ). eq_at s x b) e
eq_at-append s i (x ∷ a) b = go (eqb (get_or s i 0) x) (eq_at-append s (suc i) a b)
  where
    go : (t : Bool) → eq_at s (suc i) (a ++ b) ≡ cond (eq_at s (suc i) a) (eq_at s (suc i + length a) b) false
        → cond t (eq_at s (suc i) (a ++ b)) false ≡ cond (cond t (eq_at s (suc i) a) false) (eq_at s (i + suc (length a)) b) false
    go true ih = let e : suc i + length a ≡ i + suc (length a) = omega arith in
        ih ∙ ap (λ (y : ℕ). cond (eq_at s (suc i) a) (eq_at s y b) false) e
    go false ih = refl

-- a comparison that ends well says that the bytes stand there
pub eq_at-stands : (s : List ℕ) (i : ℕ) (xs : List ℕ) → i + length xs ≤ length s → (eq_at s i xs ≡ true) ↔ (take (length xs) (drop i s) ≡ xs)
unfolding eq_at
eq_at-stands s i [] h = (λ e. refl, λ e. refl)
eq_at-stands s i (x ∷ xs) h =
    let d : drop i s ≡ get_or s i 0 ∷ drop (suc i) s = drop-cons s i 0 (omega arith) in
    let ih = eq_at-stands s (suc i) xs (omega arith) in (
      λ e. ap (take (suc (length xs))) d ∙ to (eqb (get_or s i 0) x) refl e ih.0,
      λ e. from (sym (ap (take (suc (length xs))) d) ∙ e) ih.1,
    )
  where
    to : (t : Bool) → eqb (get_or s i 0) x ≡ t → cond t (eq_at s (suc i) xs) false ≡ true → (eq_at s (suc i) xs ≡ true → take (length xs) (drop (suc i) s) ≡ xs)
        → get_or s i 0 ∷ take (length xs) (drop (suc i) s) ≡ x ∷ xs
    to true q e ih = cc (eqb-true (get_or s i 0) x q, ih e)
    to false q e ih = clash (cc)

    from : get_or s i 0 ∷ take (length xs) (drop (suc i) s) ≡ x ∷ xs → (take (length xs) (drop (suc i) s) ≡ xs → eq_at s (suc i) xs ≡ true)
        → cond (eqb (get_or s i 0) x) (eq_at s (suc i) xs) false ≡ true
    from e ih =
        let a : get_or s i 0 ≡ x = cc in
        let b : take (length xs) (drop (suc i) s) ≡ xs = cc in
        rw (eq-eqb (get_or s i 0) x a) (ih b)

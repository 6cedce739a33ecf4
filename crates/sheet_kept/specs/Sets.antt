-- Bytes that are set in a list one behind the other: what was there before and behind stays.
use Rattle.std.specs.Prelude.{◌≡◌, refl, ℕ, suc, ◌+◌, ◌≤◌, ◌<◌, List, [], ◌∷◌, ◌++◌, length, set, take, drop}
use Rattle.std.proofs.Common.{sym, ap, ◌∙◌, append_assoc, arith, take-append-drop, drop-set-lt, length-take-le, drop_at}
use Rattle.std.proofs.lemmas.List.Edits.{sets, sets-eq}
use Rattle.std.proofs.lemmas.List.{set_comm, take-set-le, drop-set-add}
use Rattle.std.proofs.Math.Seq.{take-append_seam, drop-append_seam}

pub sets-append : (l : List ℕ) (i : ℕ) (a b : List ℕ) → sets l i (a ++ b) ≡ sets (sets l i a) (i + length a) b
sets-append l i [] b = let e : i ≡ i + 0 = omega arith in ap (λ (x : ℕ). sets l x b) e
sets-append l i (x ∷ a) b =
    let e : suc i + length a ≡ i + suc (length a) = omega arith in
    sets-append (set l i x) (suc i) a b ∙ ap (λ (y : ℕ). sets (sets (set l i x) (suc i) a) y b) e

pub take-sets : (n : ℕ) (l : List ℕ) (i : ℕ) (xs : List ℕ) → n ≤ i → take n (sets l i xs) ≡ take n l
take-sets n l i [] h = refl
take-sets n l i (x ∷ xs) h = take-sets n (set l i x) (suc i) xs (omega arith) ∙ take-set-le n l i x h

pub drop-sets : (n : ℕ) (l : List ℕ) (i : ℕ) (xs : List ℕ) → drop n (sets l (n + i) xs) ≡ sets (drop n l) i xs
drop-sets n l i [] = refl
drop-sets n l i (x ∷ xs) =
    let e : suc (n + i) ≡ n + suc i = omega arith in
    ap (λ (j : ℕ). drop n (sets (set l (n + i) x) j xs)) e ∙ drop-sets n (set l (n + i) x) (suc i) xs ∙ ap (λ (y : List ℕ). sets y (suc i) xs) (drop-set-add n l i x)

set-sets : (l : List ℕ) (j v i : ℕ) (vs : List ℕ) → j < i → set (sets l i vs) j v ≡ sets (set l j v) i vs
set-sets l j v i [] h = refl
set-sets l j v i (a ∷ vs) h =
    let z : suc j ≤ suc i = omega arith in
    set-sets (set l i a) j v (suc i) vs (omega arith)
    ∙ ap (λ (x : List ℕ). sets x (suc i) vs) (set_comm l i j a v (omega arith))

pub sets-sets : (l : List ℕ) (j : ℕ) (us : List ℕ) (i : ℕ) (vs : List ℕ) → j + length us ≤ i → sets (sets l i vs) j us ≡ sets (sets l j us) i vs
sets-sets l j [] i vs h = refl
sets-sets l j (u ∷ us) i vs h =
    ap (λ (x : List ℕ). sets x (suc j) us) (set-sets l j u i vs (omega arith)) ∙ sets-sets (set l j u) (suc j) us i vs (omega arith)

pub drop-below : (n : ℕ) (l : List ℕ) (i : ℕ) (zs : List ℕ) → i + length zs ≤ n → drop n (sets l i zs) ≡ drop n l
drop-below n l i [] h = refl
drop-below n l i (z ∷ zs) h = drop-below n (set l i z) (suc i) zs (omega arith) ∙ drop-set-lt n l i z (omega arith)

pub sets_behind : (xs r : List ℕ) (k : ℕ) (zs : List ℕ) → sets (xs ++ r) (length xs + k) zs ≡ xs ++ sets r k zs
sets_behind xs r k zs =
    sym (take-append-drop (length xs) (sets (xs ++ r) (length xs + k) zs))
    ∙ ap (λ (l : List ℕ). l ++ drop (length xs) (sets (xs ++ r) (length xs + k) zs)) (take-sets (length xs) (xs ++ r) (length xs + k) zs (omega arith) ∙ take-append_seam xs r)
    ∙ ap (λ (l : List ℕ). xs ++ l) (drop-sets (length xs) (xs ++ r) k zs ∙ ap (λ (l : List ℕ). sets l k zs) (drop-append_seam xs r))

-- bytes that were set stand there
pub set-stands : (l : List ℕ) (p : ℕ) (xs : List ℕ) → p + length xs ≤ length l → drop p (sets l p xs) ≡ xs ++ drop (p + length xs) l
set-stands l p xs h =
    let e : length (take p l) ≡ p = length-take-le p l (omega arith) in
    ap (drop p) (sets-eq xs l p h ∙ append_assoc (take p l) xs (drop (p + length xs) l)) ∙ drop_at (take p l) (xs ++ drop (p + length xs) l) p e

pub take-front : (l xs : List ℕ) → length xs ≤ length l → take (length xs) (sets l 0 xs) ≡ xs
take-front l xs h = ap (take (length xs)) (sets-eq xs l 0 (omega arith)) ∙ take-append_seam xs (drop (0 + length xs) l)

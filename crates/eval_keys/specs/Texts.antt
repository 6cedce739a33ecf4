-- Texts by offset and length, and their buckets.
use Rattle.std.specs.Prelude.{◌≡◌, refl, Bool, true, false, [], ◌∷◌, ℕ, zero, suc, ◌+◌, ◌-◌, ◌*◌, ◌/◌, ◌%◌, ◌≤◌, ◌<◌, ltb, eqb, length}
use Rattle.std.proofs.Common.{ap, ◌∙◌, arith, ltb-true, ltb-false, eqb-true, eq-eqb, ne_eqb}
use Rattle.std.proofs.lemmas.Bool.{eqb-false}
use Rattle.answers.specs.Theory.Sound.{clash}
use Rattle.rules.specs.Bytes.{Text, same}
use Rattle.theory.specs.Layout.{same-eq, same_refl}

-- ---- cases

pub by_equal : (P : Type 0) (a b : ℕ) → (a ≡ b → P) → ((a ≡ b → ⊥) → P) → P
by_equal P a b f g = go (eqb a b) refl
  where
    go : (t : Bool) → eqb a b ≡ t → P
    go true e = f (eqb-true a b e)
    go false e = g (eqb-false a b e)

pub by_less : (P : Type 0) (a b : ℕ) → (a < b → P) → (b ≤ a → P) → P
by_less P a b f g = go (ltb a b) refl
  where
    go : (t : Bool) → ltb a b ≡ t → P
    go true e = f (ltb-true a b e)
    go false e = g (ltb-false a b e)

-- no test passes and fails
pub both : {A : Type 0} {t : Bool} → t ≡ true → t ≡ false → A
both {A} {t} e f = clash (cc)

-- ---- equal texts

pub same-is : (s t : Text) → s ≡ t → same s t ≡ true
same-is s t e = rw e (same_refl t)

pub same_not : (s t : Text) → (s ≡ t → ⊥) → same s t ≡ false
same_not s t n = go (same s t) refl
  where
    go : (b : Bool) → same s t ≡ b → b ≡ false
    go true e = absurd (n (same-eq s t e))
    go false e = refl

pub same_false : (s t : Text) → same s t ≡ false → s ≡ t → ⊥
same_false s t e q = both (same-is s t q) e

pub same_more : (a b : ℕ) (s t : Text) → a ≡ b → same (a ∷ s) (b ∷ t) ≡ same s t
unfolding same
same_more a b s t e = rw (same, eq-eqb a b e) refl

pub same-less : (a b : ℕ) (s t : Text) → (a ≡ b → ⊥) → same (a ∷ s) (b ∷ t) ≡ false
unfolding same
same-less a b s t n = rw (same, ne_eqb a b n) refl

-- ---- texts

-- the n bytes from an offset on; h gives the bytes
unfoldable pub text_of : (ℕ → ℕ) → ℕ → ℕ → Text
text_of h o zero = []
text_of h o (suc n) = h o ∷ text_of h (o + 1) n

pub text-length : (h : ℕ → ℕ) (o n : ℕ) → length (text_of h o n) ≡ n
unfolding text_of
text-length h o zero = refl
text-length h o (suc n) = ap suc (text-length h (o + 1) n)

-- the rest of a text from its byte i on
pub text-step : (h : ℕ → ℕ) (a i len : ℕ) → i < len → text_of h (a + i) (len - i) ≡ h (a + i) ∷ text_of h (a + (i + 1)) (len - (i + 1))
unfolding text_of
text-step h a i len l =
    let e : len - i ≡ suc (len - (i + 1)) = omega arith in
    let f : a + i + 1 ≡ a + (i + 1) = omega arith in
    ap (text_of h (a + i)) e ∙ ap (λ (o : ℕ). h (a + i) ∷ text_of h o (len - (i + 1))) f

-- a text hangs on its own bytes alone
pub text_same : (h h' : ℕ → ℕ) (o n : ℕ) → ((p : ℕ) → o ≤ p → p < o + n → h' p ≡ h p) → text_of h' o n ≡ text_of h o n
unfolding text_of
text_same h h' o zero e = refl
text_same h h' o (suc n) e =
    let a : h' o ≡ h o = e o (omega arith) (omega arith) in
    ap (λ (c : ℕ). c ∷ text_of h' (o + 1) n) a
    ∙ ap (λ (s : Text). h o ∷ s) (text_same h h' (o + 1) n (λ p l u. e p (omega arith) (omega arith)))

-- ---- buckets

abbrev pub bucket_count : ℕ
bucket_count = 1024

abbrev pub hash_bound : ℕ
hash_bound = 1048576

-- what the bytes of a text come to, one behind the other
unfoldable pub hash_from : ℕ → Text → ℕ
hash_from h [] = h
hash_from h (b ∷ s) = hash_from ((h * 31 + b) % hash_bound) s

abbrev pub bucket_by : ℕ → ℕ
bucket_by h = (h + h / bucket_count) % bucket_count

-- by all bytes of the text
unfoldable pub bucket_of : Text → ℕ
unfolding hash_from
bucket_of s = bucket_by (hash_from 0 s)

pub bucket-small : (s : Text) → bucket_of s < bucket_count
unfolding bucket_of
bucket-small s = omega arith

-- The two sums of the code, before the dot and behind it, come to the rules' length: digits times unit, divided by a power of ten.
use Rattle.std.specs.Prelude.{◌≡◌, Bool, true, false, ℕ, ◌+◌, ◌-◌, ◌*◌, ◌/◌, ◌%◌, ◌^◌, ◌≤◌, ◌<◌, min, leb, eqb, length}
use Rattle.std.proofs.Math.Path.{refl, sym, ap}
use Rattle.std.proofs.Common.{◌∙◌, pow-suc, add-mul, mul-div_cancel, mul-le-mul_right}
use mathlib.Core.List.{[], ◌∷◌, ◌++◌}
use Rattle.std.proofs.Math.Option.{Option, none, some}
use Rattle.std.proofs.Math.Nat.{one-le-pow, mul-mod_left, dvd_of_mod-eq-zero, div-mul_cancel, eq_of_mul-eq-mul_right, mul-sub}
use native.Mathlib.Omega.{arith}
use borrow.Author.Tests.{eq-eqb, ne_eqb, eqb-true, eqb-false, le-leb, lt-leb, leb-true, leb-false}
use Rattle.text_chars.specs.Clash.{clash}
use Rattle.rules.specs.Bytes.{Text}
use Rattle.rules.specs.Sizes.{max_micrometres}
use Rattle.rules.specs.Refusals.{nowhere}
use Rattle.rules.specs.Micrometres.{Decimal, of_micrometres, no_length, digits_value, in_micrometres}
use Rattle.text_lengths.specs.Micrometres.Contracts.{tenth, fraction_c, too_many}

-- ---- powers of ten

abbrev pub scale : Text → ℕ
scale bs = 10 ^ length bs

pub scale-some : (bs : Text) → 1 ≤ scale bs
scale-some bs = one-le-pow (length bs) 10 (omega arith)

scale-more : (b : ℕ) (bs : Text) → scale (b ∷ bs) ≡ scale bs * 10
scale-more b bs = pow-suc 10 (length bs)

swapped : (a t : ℕ) → a * t * 10 ≡ a * 10 * t
swapped a t = omega arith

scale-append : (xs bs : Text) → scale (xs ++ bs) ≡ scale xs * scale bs
scale-append [] bs = omega arith
scale-append (x ∷ xs) bs =
    scale-more x (xs ++ bs) ∙ ap (λ (n : ℕ). n * 10) (scale-append xs bs) ∙ swapped (scale xs) (scale bs)
    ∙ ap (λ (n : ℕ). n * scale bs) (sym (scale-more x xs))

-- digits before other digits count so many times more
joined : (d a t v w : ℕ) → d * (a * t) + (v * t + w) ≡ (d * a + v) * t + w
joined d a t v w = omega arith

pub value-append : (xs bs : Text) → digits_value (xs ++ bs) ≡ digits_value xs * scale bs + digits_value bs
unfolding digits_value
value-append [] bs = omega arith
value-append (x ∷ xs) bs =
    let e = scale-append xs bs in
    let f = value-append xs bs in
    ap (λ (n : ℕ). (x - 48) * n + digits_value (xs ++ bs)) e
    ∙ ap (λ (n : ℕ). (x - 48) * (scale xs * scale bs) + n) f
    ∙ joined (x - 48) (scale xs) (scale bs) (digits_value xs) (digits_value bs)

-- ---- behind the dot

module _ (n : ℕ) where
  pub tenth-whole : n % 10 ≡ 0 → tenth n ≡ some (n / 10)
  unfolding tenth
  tenth-whole e = rw (eq-eqb (n % 10) 0 e, tenth)

  pub tenth-broken : (n % 10 ≡ 0 → ⊥) → tenth n ≡ none
  unfolding tenth
  tenth-broken h = rw (ne_eqb (n % 10) 0 h, tenth)

tenth-exact : (n x : ℕ) → tenth n ≡ some x → n ≡ x * 10
unfolding tenth
tenth-exact n x e = go (eqb (n % 10) 0) refl
  where
    go : (t : Bool) → eqb (n % 10) 0 ≡ t → n ≡ x * 10
    go true f = let z : n % 10 ≡ 0 = eqb-true _ _ f in let q : n / 10 ≡ x = cc (tenth-whole n z) in omega arith
    go false f = clash (cc (tenth-broken n (eqb-false _ _ f)))

tenth-none : (n : ℕ) → tenth n ≡ none → (y : ℕ) → n ≡ y * 10 → ⊥
tenth-none n e y f = let z : n % 10 ≡ 0 = omega arith in absurd (clash {A = ⊥} (cc (tenth-whole n z)))

regrouped : (x t : ℕ) → x * (t * 10) ≡ x * 10 * t
regrouped x t = omega arith

-- each digit's own with what is behind it
one_more : (d unit t v rest : ℕ) → v * unit ≡ rest * t → (d * t + v) * unit ≡ (d * unit + rest) * t
one_more d unit t v rest e = omega arith

apart : (d unit t v y : ℕ) → (d * t + v) * unit ≡ y * (t * 10) → d * unit * t + v * unit ≡ y * 10 * t
apart d unit t v y e = omega arith

spread : (w t f unit : ℕ) → (w * t + f) * unit ≡ w * unit * t + f * unit
spread w t f unit = omega arith

less : (a b c t : ℕ) → a * t + b ≡ c * t → b ≡ (c - a) * t
less a b c t e = omega (arith, mul-sub t c a)

module _ (unit : ℕ) where
  pub fraction-exact : (bs : Text) (x : ℕ) → fraction_c unit bs ≡ some x → digits_value bs * unit ≡ x * scale bs
  unfolding fraction_c digits_value
  fraction-exact [] x e = let z : 0 ≡ x = cc in omega arith
  fraction-exact (b ∷ bs) x e = go (fraction_c unit bs) refl (fraction-exact bs)
    where
      go : (o : Option ℕ) → fraction_c unit bs ≡ o → ((y : ℕ) → fraction_c unit bs ≡ some y → digits_value bs * unit ≡ y * scale bs)
          → digits_value (b ∷ bs) * unit ≡ x * scale (b ∷ bs)
      go none f before = clash (cc (rw (f, fraction_c) at e))
      go (some rest) f before =
          let g : tenth ((b - 48) * unit + rest) ≡ some x = rw (f, fraction_c) at e in
          one_more (b - 48) unit (scale bs) (digits_value bs) rest (before rest f)
          ∙ ap (λ (n : ℕ). n * scale bs) (tenth-exact ((b - 48) * unit + rest) x g)
          ∙ sym (ap (λ (n : ℕ). x * n) (scale-more b bs) ∙ regrouped x (scale bs))

  pub fraction-broken : (bs : Text) → fraction_c unit bs ≡ none → (y : ℕ) → digits_value bs * unit ≡ y * scale bs → ⊥
  unfolding fraction_c digits_value
  fraction-broken [] e y h = clash (cc)
  fraction-broken (b ∷ bs) e y h = go (fraction_c unit bs) refl (fraction-broken bs)
    where
      tenfold : digits_value (b ∷ bs) * unit ≡ y * (scale bs * 10)
      tenfold = h ∙ ap (λ (n : ℕ). y * n) (scale-more b bs)

      go : (o : Option ℕ) → fraction_c unit bs ≡ o → (fraction_c unit bs ≡ none → (z : ℕ) → digits_value bs * unit ≡ z * scale bs → ⊥) → ⊥
      go none f before =
          before f (y * 10 - (b - 48) * unit)
          (less ((b - 48) * unit) (digits_value bs * unit) (y * 10) (scale bs) (apart (b - 48) unit (scale bs) (digits_value bs) y tenfold))
      go (some rest) f before =
          let g : tenth ((b - 48) * unit + rest) ≡ none = rw (f, fraction_c) at e in
          let m = one_more (b - 48) unit (scale bs) (digits_value bs) rest (fraction-exact bs rest f) in
          tenth-none ((b - 48) * unit + rest) g y
          (eq_of_mul-eq-mul_right (scale bs) (scale-some bs) ((b - 48) * unit + rest) (y * 10) (sym m ∙ tenfold ∙ regrouped y (scale bs)))

-- ---- both together

module _ (unit : ℕ) (d : Decimal) where
  abbrev product : ℕ
  product = digits_value (d.whole ++ d.fraction) * unit

  abbrev tens : ℕ
  tens = scale d.fraction

  parted : product ≡ digits_value d.whole * unit * tens + digits_value d.fraction * unit
  parted =
      ap (λ (n : ℕ). n * unit) (value-append d.whole d.fraction)
      ∙ spread (digits_value d.whole) tens (digits_value d.fraction) unit

  pub not-whole : fraction_c unit d.fraction ≡ none → no_length (nowhere 23) ≡ in_micrometres unit d
  unfolding in_micrometres
  not-whole e = sym (rw (ne_eqb (product % tens) 0 left_over, in_micrometres))
    where
      left_over : product % tens ≡ 0 → ⊥
      left_over z =
          let y = product / tens in
          let h : y * tens ≡ product = div-mul_cancel tens (dvd_of_mod-eq-zero tens z) in
          fraction-broken unit d.fraction e (y - digits_value d.whole * unit)
          (less (digits_value d.whole * unit) (digits_value d.fraction * unit) y tens (sym parted ∙ sym h))

  module _ (rest : ℕ) (e : fraction_c unit d.fraction ≡ some rest) where
    abbrev total : ℕ
    total = digits_value d.whole * unit + rest

    is_whole : product ≡ total * tens
    is_whole =
        let f = fraction-exact unit d.fraction rest e in
        parted ∙ ap (λ (n : ℕ). digits_value d.whole * unit * tens + n) f ∙ sym (add-mul (digits_value d.whole * unit) rest tens)

    none_left : product % tens ≡ 0
    none_left = ap (λ (n : ℕ). n % tens) is_whole ∙ mul-mod_left total tens

    quotient : product / tens ≡ total
    quotient = ap (λ (n : ℕ). n / tens) is_whole ∙ mul-div_cancel total (scale-some d.fraction)

    pub too_long : max_micrometres < total → no_length (nowhere 24) ≡ in_micrometres unit d
    unfolding in_micrometres
    too_long h = sym (rw (eq-eqb (product % tens) 0 none_left, quotient, lt-leb total max_micrometres h, in_micrometres))

    pub fine : total ≤ max_micrometres → of_micrometres total ≡ in_micrometres unit d
    unfolding in_micrometres
    fine h = sym (rw (eq-eqb (product % tens) 0 none_left, quotient, le-leb total max_micrometres h, in_micrometres) (ap (λ (n : ℕ). of_micrometres n) quotient))

-- ---- before the dot

-- what is over the limit stays over it
capped : (p t w : ℕ) → 1 ≤ t → min too_many (p * t + w) ≡ min too_many (min too_many p * t + w)
capped p t w h = go (leb p too_many) refl
  where
    over : (t : ℕ) → too_many < p → too_many * t ≤ p * t
    over t l = mul-le-mul_right t (omega arith)

    go : (b : Bool) → leb p too_many ≡ b → min too_many (p * t + w) ≡ min too_many (min too_many p * t + w)
    go true e = let z : min too_many p ≡ p = omega (arith, leb-true p too_many e) in rw z
    go false e =
        let l = leb-false p too_many e in
        let z : min too_many p ≡ too_many = omega arith in
        rw z (omega (arith, over t l))

along : (sum d unit t v : ℕ) → sum * (t * 10) + (d * t + v) * unit ≡ (sum * 10 + d * unit) * t + v * unit
along sum d unit t v = omega arith

-- what digits come to behind others that came to a sum
abbrev pub summed : (unit sum : ℕ) → Text → ℕ
summed unit sum bs = min too_many (sum * scale bs + digits_value bs * unit)

pub summed-step : (unit sum b : ℕ) (bs : Text) → summed unit sum (b ∷ bs) ≡ summed unit (min too_many (sum * 10 + (b - 48) * unit)) bs
unfolding digits_value
summed-step unit sum b bs =
    ap (λ (n : ℕ). min too_many (sum * n + digits_value (b ∷ bs) * unit)) (scale-more b bs)
    ∙ ap (λ (n : ℕ). min too_many n) (along sum (b - 48) unit (scale bs) (digits_value bs))
    ∙ capped (sum * 10 + (b - 48) * unit) (scale bs) (digits_value bs * unit) (scale-some bs)

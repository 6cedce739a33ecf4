-- One law for each answer of the functions on the texts of a profile's settings.
use mathlib.Core.Path.{◌≡◌, sym, ◌∙◌, ap}
use mathlib.Core.Bool.{Bool, true, false}
use mathlib.Core.List.{[], ◌∷◌}
use mathlib.Core.Option.{none, some}
use Prim.Native.Nat.{ℕ, ◌*◌, ◌^◌, ◌≤◌, ◌<◌, min}
use native.Mathlib.Nat.{mul-le-mul}
use native.Mathlib.Omega.{arith}
use lib.ListN.{length, take}
use lib.Seq.{slice, take_all}
use borrow.Author.Tests.{eq-eqb, ne_eqb, le-leb, lt-leb}
use Rattle.rules.specs.Sizes.{max_micrometres}
use Rattle.rules.specs.Bytes.{Text, same}
use Rattle.rules.specs.Numbers.{after_int}
use Rattle.rules.specs.Micrometres as lengths
use Rattle.rules.specs.Micrometres.{no_length, digits_value, length_of}
use Rattle.theory.specs.Micrometres.{form_numbers, Answered, exactly, refusal, text-answered}
use Rattle.text_chars.specs.declared.Cursor.{Cursor}
use Rattle.text_numbers.specs.Clauses.{NumberIs}
use Rattle.std.specs.Prelude.{Option as Maybe, Some, None, Result, Ok, Err}
use Rattle.text_lengths.specs.Micrometres.Contracts.{too_many, WholeIs, MeasuredIs}
use Rattle.text_chars.specs.declared.Refusal.{Refusal}
use Rattle.rules_profile.specs.Profile.{thousandth, max_bare, edition_of, step_of, bare_length, written_length}
use Rattle.text_profiles.specs.Clauses.{max_length, edition_as, LengthIs}
use Rattle.text_profiles.specs.declared.Edition.{Edition}

-- ---- one of two texts

module _ (s : Text) where
  pub edition-first : {t : Bool} → t ≡ same s (49 ∷ []) → t ≡ true → edition_as (Some Edition.First) ≡ edition_of (some s)
  unfolding edition_of
  edition-first h e = sym (rw (sym h ∙ e, edition_of))

  module _ {t : Bool} (h : t ≡ same s (49 ∷ [])) (e : t ≡ false) {u : Bool} (k : u ≡ same s (50 ∷ [])) where
    pub edition-second : u ≡ true → edition_as (Some Edition.Second) ≡ edition_of (some s)
    unfolding edition_of
    edition-second f = sym (rw (sym h ∙ e, sym k ∙ f, edition_of))

    pub edition-unnamed : u ≡ false → edition_as None ≡ edition_of (some s)
    unfolding edition_of
    edition-unnamed f = sym (rw (sym h ∙ e, sym k ∙ f, edition_of))

  pub step-hundredth : {t : Bool} → t ≡ same s (109 ∷ 109 ∷ []) → t ≡ true
      → LengthIs (step_of (some s)) thousandth (Some 100)
  unfolding step_of
  step-hundredth h e = record { is = sym (rw (sym h ∙ e, step_of)); at_most = omega arith }

  module _ {t : Bool} (h : t ≡ same s (109 ∷ 109 ∷ [])) (e : t ≡ false) {u : Bool} (k : u ≡ same s (105 ∷ 110 ∷ [])) where
    pub step-thousandth : u ≡ true → LengthIs (step_of (some s)) thousandth (Some 254)
    unfolding step_of
    step-thousandth f = record { is = sym (rw (sym h ∙ e, sym k ∙ f, step_of)); at_most = omega arith }

    pub step_other : u ≡ false → LengthIs (step_of (some s)) thousandth None
    unfolding step_of
    step_other f = record { is = sym (rw (sym h ∙ e, sym k ∙ f, step_of)); at_most = tt }

pub ruleset editions = (edition-first, edition-second, edition-unnamed)

pub ruleset steps = (step-hundredth, step-thousandth, step_other)

-- ---- a bare length

product_small : {n step : ℕ} → step ≤ thousandth → n ≤ max_bare → n * step ≤ max_length
product_small {n} {step} b l = omega (arith, mul-le-mul l b)

pub product-fits : {n step : ℕ} → step ≤ thousandth → n ≤ max_bare → n * step < 2 ^ 32
product-fits b l = omega (arith, product_small b l)

module _ (s : Text) (step : ℕ) {r : Maybe Cursor} (k : NumberIs s 0 (after_int s 0) r) where
  pub bare-other : r ≡ None → LengthIs (bare_length step (some s)) max_length None
  unfolding bare_length
  bare-other e = let z : none ≡ after_int s 0 = rw e at k.is in record { is = sym (rw (sym z, bare_length)); at_most = tt }

  module _ {c : Cursor} (e : r ≡ Some c) where
    digits-end : after_int s 0 ≡ some c.at.0
    digits-end = let z : some c.at.0 ≡ after_int s 0 = rw e at k.is in sym z

    pub bare-more : (c.at.0 ≡ length s → ⊥) → LengthIs (bare_length step (some s)) max_length None
    unfolding bare_length
    bare-more h = record { is = sym (rw (digits-end, ne_eqb c.at.0 (length s) h, bare_length)); at_most = tt }

    module _ (h : c.at.0 ≡ length s) {n : ℕ} (w : WholeIs s 0 c.at.0 1 n) where
      counted : n ≡ min too_many (digits_value s)
      counted =
          let all : slice 0 c.at.0 s ≡ s = ap (λ (e : ℕ). take e s) h ∙ take_all (length s) s (omega arith) in
          let once : digits_value s * 1 ≡ digits_value s = omega arith in
          w.is ∙ ap (λ (t : Text). min too_many (digits_value t * 1)) all ∙ ap (λ (v : ℕ). min too_many v) once

      pub bare-long : max_bare < n → LengthIs (bare_length step (some s)) max_length None
      unfolding bare_length
      bare-long l =
          let z = counted in
          let over : max_bare < digits_value s = omega arith in
          record {
            is = sym (rw (digits-end, eq-eqb c.at.0 (length s) h, lt-leb (digits_value s) max_bare over, bare_length));
            at_most = tt;
          }

      pub bare-counts : step ≤ thousandth → n ≤ max_bare → LengthIs (bare_length step (some s)) max_length (Some (n * step))
      unfolding bare_length
      bare-counts b l =
          let z = counted in
          let exact : digits_value s ≡ n = omega arith in
          record {
            is = sym (rw (digits-end, eq-eqb c.at.0 (length s) h, le-leb (digits_value s) max_bare (omega arith), bare_length)
                (ap (λ (v : ℕ). some (v * step)) exact));
            at_most = product_small b l;
          }

pub ruleset bares = (bare-other, bare-more, bare-long, bare-counts)

-- ---- a length with its unit

length-small : (s : Text) (m : lengths.Measured) → Answered form_numbers s m → m.micrometres ≤ max_micrometres
unfolding no_length
length-small s m (exactly z e) = e.within-limit
length-small s m (refusal n h q) = rw q (omega arith)

module _ (s : Text) {m : Result ℕ Refusal} (k : MeasuredIs (length_of true s) m) where
  module _ {n : ℕ} (e : m ≡ Ok n) where
    answered : length_of true s ≡ record { number = 0; micrometres = n }
    answered = let z : record { number = 0; micrometres = n } ≡ length_of true s = rw e at k.is in sym z

    micrometres-small : n ≤ max_micrometres
    micrometres-small =
        let l = length-small s (length_of true s) (text-answered s true) in
        omega (arith, l, ap (λ (x : lengths.Measured). x.micrometres) answered)

    pub written-fits : n * 10 < 2 ^ 32
    written-fits = omega (arith, micrometres-small)

    pub written-exact : LengthIs (written_length (some s)) max_length (Some (n * 10))
    unfolding written_length
    written-exact = record {
      is = sym (rw (answered, written_length) (ap (λ (x : lengths.Measured). some (x.micrometres * 10)) answered));
      at_most = omega (arith, micrometres-small);
    }

  pub written-refused : {x : Refusal} → m ≡ Err x → LengthIs (written_length (some s)) max_length None
  unfolding written_length
  written-refused {x} e =
      let z : record { number = x.number; micrometres = 0 } ≡ length_of true s = rw e at k.is in
      let numbered : (1 ≤ x.number) × (x.place.0 ≡ 0) = rw e at k.numbered in
      record { is = sym (rw (sym z, ne_eqb x.number 0 (λ f. absurd (omega arith)), written_length)); at_most = tt }

pub ruleset writtens = (written-exact, written-refused)

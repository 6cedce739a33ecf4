-- One law for each answer of the functions on a length's text.
use mathlib.Core.Path.{◌≡◌, refl, sym, ◌∙◌, ap}
use mathlib.Core.Bool.{Bool, true, false}
use mathlib.Core.List.{List}
use mathlib.Core.Option.{Option, none, some}
use Prim.Native.Nat.{ℕ, ◌≤◌}
use native.Mathlib.Omega.{arith}
use lib.ListN.{length}
use borrow.Author.Tests.{eq-eqb, ne_eqb}
use Rattle.rules.specs.Utf8.{ill_formed}
use Rattle.rules.specs.Micrometres.{inch, no_length, decimal_of, after_space, unit_at, in_micrometres, with_unit, with_rest, length_of}
use Rattle.text_chars.specs.Clash.{clash}
use Rattle.text_chars.specs.Cursor.{ill_at}
use Rattle.text_chars.specs.declared.Cursor.{Cursor}
use Rattle.text_chars.specs.declared.DocAt.{DocAt}
use Rattle.std.specs.Prelude.{Some, None, Option as Maybe, Result, Err, is_some}
use Rattle.text_scan.specs.Scan.{EndIs}
use Rattle.text_lengths.specs.Decimals.Contracts.{decimal_in, DecimalIs, unit_as, UnitIs}
use Rattle.text_lengths.specs.declared.decimals.Decimal.{Decimal}
use Rattle.text_lengths.specs.Micrometres.Contracts.{MeasuredIs}
use Rattle.text_chars.specs.Cursor.{doc, refusal}
use Rattle.text_chars.specs.declared.Refusal.{Refusal}

-- ---- behind the number

unit-none : (o : Option ℕ) → None ≡ unit_as o → o ≡ none
unit-none none e = refl
unit-none (some n) e = clash (cc)

unit-some : (o : Option ℕ) (n : ℕ) → Some n ≡ unit_as o → o ≡ some n
unit-some none n e = clash (cc)
unit-some (some m) n e = cc

pub unit-short : {o : Option ℕ} {u : Maybe ℕ} {n : ℕ} → UnitIs o u → u ≡ Some n → n ≤ inch
unit-short h e = rw e at h.short

module _ (s : List ℕ) (string : Bool) (d : Decimal) where
  pub rest-bare : d.end.0 ≡ length s → {z : Refusal} → z ≡ refusal 21 (doc 0) → MeasuredIs (with_rest string s (decimal_in s d)) (Err z)
  unfolding with_rest no_length
  rest-bare e z = rw z (record { is = rw (eq-eqb d.end.0 (length s) e, with_rest); numbered = (omega arith, refl) })

  module _ (more : d.end.0 ≡ length s → ⊥) where
    pub rest-number : string ≡ false → {z : Refusal} → z ≡ refusal 20 (doc 0) → MeasuredIs (with_rest string s (decimal_in s d)) (Err z)
    unfolding with_rest no_length
    rest-number f z = rw z (record { is = rw (ne_eqb d.end.0 (length s) more, f, with_rest); numbered = (omega arith, refl) })

    module _ (f : string ≡ true) {c : Cursor} (k : EndIs s d.end.0 (after_space s d.end.0) c) {u : Maybe ℕ}
        (h : UnitIs (unit_at s c.at.0) u) where
      with-unit : (o : Option ℕ) → unit_at s c.at.0 ≡ o → with_rest string s (decimal_in s d) ≡ with_unit (decimal_in s d) o
      unfolding with_rest
      with-unit o e =
          let z : unit_at s (after_space s d.end.0) ≡ o = ap (unit_at s) (sym k.is) ∙ e in
          rw (ne_eqb d.end.0 (length s) more, f, z, with_rest)

      pub rest-missing : u ≡ None → {z : Refusal} → z ≡ refusal 20 (doc 0) → MeasuredIs (with_rest string s (decimal_in s d)) (Err z)
      unfolding with_unit no_length
      rest-missing e z = rw z (record { is = sym (with-unit none (unit-none _ (sym e ∙ h.is))); numbered = (omega arith, refl) })

      module _ {unit : ℕ} (e : u ≡ Some unit) where
        has-unit : with_rest string s (decimal_in s d) ≡ with_unit (decimal_in s d) (some unit)
        has-unit = with-unit (some unit) (unit-some _ unit (sym e ∙ h.is))

        pub rest-minus : d.minus ≡ true → {z : Refusal} → z ≡ refusal 22 (doc 0) → MeasuredIs (with_rest string s (decimal_in s d)) (Err z)
        unfolding with_unit no_length
        rest-minus m z = rw z (record { is = sym (has-unit ∙ rw (m, with_unit)); numbered = (omega arith, refl) })

        pub rest-length : (r : Result ℕ Refusal) → d.minus ≡ false → MeasuredIs (in_micrometres unit (decimal_in s d)) r
            → MeasuredIs (with_rest string s (decimal_in s d)) r
        unfolding with_unit
        rest-length r m i = record { is = i.is ∙ sym (has-unit ∙ rw (m, with_unit)); numbered = i.numbered }

pub ruleset unit-needs = (arith, unit-short)

pub ruleset rests = (rest-bare, rest-number, rest-missing, rest-minus, rest-length)

-- ---- the whole text

ill-some : (o : Option ℕ) → is_some (ill_at o) ≡ true → (p : ℕ) × (o ≡ some p)
ill-some none e = clash (cc)
ill-some (some p) e = (p, refl)

ill-none : (o : Option ℕ) → is_some (ill_at o) ≡ false → o ≡ none
ill-none none e = refl
ill-none (some p) e = clash (cc)

module _ (s : List ℕ) (string : Bool) {i : Maybe DocAt} (g : i ≡ ill_at (ill_formed s)) {f : Bool} (h : f ≡ is_some i) where
  pub length-ill : f ≡ true → {z : Refusal} → z ≡ refusal 20 (doc 0) → MeasuredIs (length_of string s) (Err z)
  unfolding length_of no_length
  length-ill e z =
      let (p, o) = ill-some (ill_formed s) (sym (h ∙ ap is_some g) ∙ e) in
      rw z (record { is = rw (o, length_of); numbered = (omega arith, refl) })

  module _ (w : f ≡ false) {r : Maybe Decimal} (k : DecimalIs s r) where
    well : ill_formed s ≡ none
    well = ill-none (ill_formed s) (sym (h ∙ ap is_some g) ∙ w)

    pub length-other : r ≡ None → {z : Refusal} → z ≡ refusal 20 (doc 0) → MeasuredIs (length_of string s) (Err z)
    unfolding length_of no_length
    length-other e z =
        let o : none ≡ decimal_of s = rw e at k.is in
        rw z (record { is = rw (well, sym o, length_of); numbered = (omega arith, refl) })

    pub length-number : {d : Decimal} (m : Result ℕ Refusal) → r ≡ Some d → MeasuredIs (with_rest string s (decimal_in s d)) m
        → MeasuredIs (length_of string s) m
    unfolding length_of
    length-number {d} m e q =
        let z : some (decimal_in s d) ≡ decimal_of s = rw e at k.is in
        record { is = q.is ∙ sym (rw (well, sym z, length_of)); numbered = q.numbered }

pub placed-order : {s : List ℕ} {r : Maybe Decimal} {d : Decimal} → DecimalIs s r → r ≡ Some d → d.point.0 ≤ d.end.0
placed-order k e = let p = rw e at k.placed in p.0

pub placed-inside : (s : List ℕ) {r : Maybe Decimal} {d : Decimal} → DecimalIs s r → r ≡ Some d → d.end.0 ≤ length s
placed-inside s k e = let p = rw e at k.placed in p.1

pub ruleset texts = (length-ill, length-other, length-number)

pub ruleset places = (arith, placed-order, placed-inside)

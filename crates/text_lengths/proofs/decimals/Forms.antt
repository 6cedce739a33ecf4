-- One law for each answer of the functions on a length's form.
use mathlib.Core.Path.{◌≡◌, refl, sym, ◌∙◌, ap}
use mathlib.Core.Bool.{Bool, true, false}
use mathlib.Core.List.{List}
use mathlib.Core.Option.{none, some}
use Prim.Native.Nat.{ℕ, ◌+◌, ◌-◌, ◌≤◌, ◌<◌}
use native.Mathlib.Omega.{arith}
use lib.ListN.{length}
use lib.Dec.{eqb}
use borrow.Author.Tests.{eq-eqb, ne_eqb}
use Rattle.rules.specs.Bytes.{byte_at}
use Rattle.rules.specs.Characters.{character_at, is_space}
use Rattle.rules.specs.Numbers.{after_int, after_fraction}
use Rattle.rules.specs.Micrometres.{first_digit, decimal_to, decimal_of, after_space, unit_of, unit_at}
use Rattle.theory_text.specs.Places.{space-moves}
use Rattle.theory.specs.Walks as by
use Rattle.text_chars.specs.Cursor.{ByteIs}
use Rattle.text_chars.specs.declared.Cursor.{Cursor}
use Rattle.text_scan.specs.Scan.{SeenIs, EndIs}
use Rattle.text_scan.specs.Looks.{is_byte, not_byte, ascii-next}
use Rattle.text_scan.specs.Walks.{Walk, Going, going_start, going_on, going_done, going_less}
use Rattle.text_chars.specs.declared.Step.{Step}
use Rattle.text_numbers.specs.Clauses.{NumberIs}
use Rattle.std.specs.Prelude.{Option as Maybe, Some, None}
use Rattle.text_lengths.specs.Decimals.Contracts.{decimal_from, DecimalFrom, DecimalIs, UnitIs}
use Rattle.text_lengths.specs.declared.decimals.Decimal.{Decimal}

-- ---- the number

module _ {s : List ℕ} {first : Cursor} {r : Maybe Cursor} (k : NumberIs s first.at.0 (after_int s first.at.0) r) where
  pub from-other : {minus : Bool} → r ≡ None → DecimalFrom s minus first.at.0 None
  unfolding decimal_from
  from-other {minus} e =
      let o : none ≡ after_int s first.at.0 = rw e at k.is in
      record { is = rw (sym o, decimal_from); placed = tt }

  module _ {point : Cursor} (e : r ≡ Some point) where
    pub point-inside : point.at.0 ≤ length s
    point-inside = let m : (first.at.0 < point.at.0) × (point.at.0 ≤ length s) = rw e at k.moved in m.1

    pub from-number : {minus : Bool} {end : Cursor} → EndIs s point.at.0 (after_fraction s point.at.0) end
        → DecimalFrom s minus first.at.0
        (Some (record { minus = minus; first = first.at; point = point.at; end = end.at }))
    unfolding decimal_from
    from-number {minus} {end} f =
        let o : some point.at.0 ≡ after_int s first.at.0 = rw e at k.is in
        record { is = rw (sym o, f.is, decimal_from); placed = (f.forward, f.inside) }

-- the rules' number is the one from behind the minus, if there is one
of-from : (s : List ℕ) (minus : Bool) (first : ℕ) → eqb (byte_at s 0) 45 ≡ minus → first_digit s ≡ first → decimal_from s minus first ≡ decimal_of s
unfolding decimal_from decimal_of decimal_to
of-from s minus first e f = rw (← e, ← f)

module _ {s : List ℕ} {seen : Step} (k : SeenIs s 0 seen) {r : Maybe Decimal} where
  pub of-minus : seen.ch ≡ 45 → DecimalFrom s true seen.next.at.0 r → DecimalIs s r
  of-minus e d =
      let b : eqb (byte_at s 0) 45 ≡ true = is_byte k 45 (omega arith) e in
      let f : first_digit s ≡ seen.next.at.0 = rw (b, first_digit) (sym (ascii-next k (omega arith))) in
      record { is = d.is ∙ of-from s true seen.next.at.0 b f; placed = d.placed }

  pub of_plain : (seen.ch ≡ 45 → ⊥) → DecimalFrom s false 0 r → DecimalIs s r
  of_plain e d =
      let b : eqb (byte_at s 0) 45 ≡ false = not_byte k 45 (omega arith) e in
      let f : first_digit s ≡ 0 = rw (b, first_digit) in
      record { is = d.is ∙ of-from s false 0 b f; placed = d.placed }

pub ruleset numbers = (arith, from-other, point-inside, from-number)

pub ruleset starts = (of-minus, of_plain)

-- ---- whitespace

space_goes : List ℕ → ℕ → Bool
space_goes s p = is_space (character_at s p)

space-walk : Walk after_space space_goes
unfolding space_goes
space-walk = record { on = λ s p e. by.space-on s p e; off = λ s p e. by.space-off s p e; moves = λ s p e. (space-moves s p e).1 }

module _ {s : List ℕ} {p : Cursor} {r : Step} (k : SeenIs s p.at.0 r) {f : Bool} (e : f ≡ is_space r.ch) where
  space-says : {b : Bool} → f ≡ b → space_goes s p.at.0 ≡ b
  unfolding space_goes
  space-says h = ap is_space (sym k.is) ∙ sym e ∙ h

  pub space-on : {at : ℕ} → Going after_space s at p → f ≡ true → Going after_space s at r.next
  space-on g h = going_on space-walk g k (space-says h)

  pub space-less : f ≡ true → length s - r.next.at.0 < length s - p.at.0
  space-less h = going_less space-walk k (space-says h)

  pub space-done : {at : ℕ} → Going after_space s at p → f ≡ false → EndIs s at (after_space s at) p
  space-done g h = going_done space-walk g (space-says h)

pub ruleset space-loop = (going_start, space-on, space-less, space-done)

-- ---- the unit

module _ (first second : ℕ) where
  pub unit-mm : first ≡ 109 → second ≡ 109 → UnitIs (unit_of first second) (Some 1000)
  unfolding unit_of
  unit-mm e f = rw (e, f) (record { is = refl; short = omega arith })

  pub unit-um : first ≡ 117 → second ≡ 109 → UnitIs (unit_of first second) (Some 1)
  unfolding unit_of
  unit-um e f = rw (e, f) (record { is = refl; short = omega arith })

  pub unit-in : first ≡ 105 → second ≡ 110 → UnitIs (unit_of first second) (Some 25400)
  unfolding unit_of
  unit-in e f = rw (e, f) (record { is = refl; short = omega arith })

  pub unit-no-mm : first ≡ 109 → (second ≡ 109 → ⊥) → UnitIs (unit_of first second) None
  unfolding unit_of
  unit-no-mm e n = rw e (record { is = rw (ne_eqb second 109 n, unit_of); short = tt })

  pub unit-no-um : first ≡ 117 → (second ≡ 109 → ⊥) → UnitIs (unit_of first second) None
  unfolding unit_of
  unit-no-um e n = rw e (record { is = rw (ne_eqb second 109 n, unit_of); short = tt })

  pub unit-no-in : first ≡ 105 → (second ≡ 110 → ⊥) → UnitIs (unit_of first second) None
  unfolding unit_of
  unit-no-in e n = rw e (record { is = rw (ne_eqb second 110 n, unit_of); short = tt })

  pub unit-none : (first ≡ 109 → ⊥) → (first ≡ 117 → ⊥) → (first ≡ 105 → ⊥) → UnitIs (unit_of first second) None
  unfolding unit_of
  unit-none m u i = record { is = rw (ne_eqb first 109 m, ne_eqb first 117 u, ne_eqb first 105 i, unit_of); short = tt }

pub ruleset units = (unit-mm, unit-um, unit-in, unit-no-mm, unit-no-um, unit-no-in, unit-none)

module _ (s : List ℕ) (at : ℕ) where
  pub unit_ends : {a b : ℕ} {r : Maybe ℕ} → length s ≡ at + 2 → ByteIs s at a → ByteIs s (at + 1) b → UnitIs (unit_of a b) r
      → UnitIs (unit_at s at) r
  unfolding unit_at
  unit_ends e a b k =
      let z : unit_at s at ≡ unit_of (byte_at s at) (byte_at s (at + 1)) = rw (eq-eqb (length s) (at + 2) e, unit_at) in
      record { is = k.is ∙ rw (a.is, b.is, z); short = k.short }

  pub unit-elsewhere : (length s ≡ at + 2 → ⊥) → UnitIs (unit_at s at) None
  unfolding unit_at
  unit-elsewhere n = record { is = rw (ne_eqb (length s) (at + 2) n, unit_at); short = tt }

pub ruleset unit-ends-with = (unit_ends, unit-elsewhere)

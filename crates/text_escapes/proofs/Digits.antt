-- Hexadecimal digits, one by one and four in a row, and surrogates: one law for each answer.
use mathlib.Core.Path.{◌≡◌, refl, sym, ap, ◌∙◌}
use mathlib.Core.Bool.{Bool, true, false}
use mathlib.Core.List.{List}
use mathlib.Core.Option.{Option, none, some}
use Rattle.std.specs.Prelude.{Some, None, Ok, Err}
use Rattle.std.specs.Prelude.{Option as Maybe}
use Prim.Native.Nat.{ℕ, suc, ◌+◌, ◌-◌, ◌*◌, ◌^◌, ◌≤◌, ◌<◌, max}
use native.Mathlib.Nat.{le_refl, le_trans, pow-succ', mul_assoc, mul-le-mul_left, mul-le-mul_right, pow-le-pow_right}
use native.Mathlib.Omega.{arith}
use mir.Syntax.{w32}
use mir.Val.{Fits}
use lib.Dec.{leb, ltb}
use lib.ListN.{length}
use borrow.Author.Tests.{le-leb, lt-leb, ltb-true, ltb-false}
use Rattle.rules.specs.Bytes.{byte_at}
use Rattle.rules.specs.Refusals.{placed, refused}
use Rattle.rules.specs.Strings.{hex_digit, hex_from, is_high, is_low}
use Rattle.text_chars.specs.Cursor.{doc, refusal, StepIs}
use Rattle.text_chars.specs.Seen.{Seen, seen, at-end, same_seen}
use Rattle.text_chars.specs.Clash.{clash}
use Rattle.text_chars.specs.declared.DocAt.{DocAt}
use Rattle.text_chars.specs.declared.Cursor.{Cursor}
use Rattle.text_chars.specs.declared.Step.{Step}
use Rattle.text_escapes.specs.Units.{maybe, HexIs, code_unit, UnitIs}
use Rattle.text_escapes.specs.Ranges.{in-range, below-range, above-range}

-- ---- the value of a digit

module _ {ch : ℕ} where
  pub hex-none : hex_digit ch ≡ none → HexIs ch None
  hex-none e = record { is = rw e; small = tt }

  pub hex-below : ch < 48 → HexIs ch None
  unfolding hex_digit
  hex-below h = hex-none (rw (below-range 48 57 ch h, below-range 65 70 ch (omega arith), below-range 97 102 ch (omega arith), hex_digit))

  pub hex-decimal : 48 ≤ ch → ch ≤ 57 → HexIs ch (Some (ch - 48))
  unfolding hex_digit
  hex-decimal h k = record { is = rw (in-range 48 57 ch h k, hex_digit); small = omega arith }

  pub hex-between : 57 < ch → ch < 65 → HexIs ch None
  unfolding hex_digit
  hex-between h k = hex-none (rw (above-range 48 57 ch h, below-range 65 70 ch k, below-range 97 102 ch (omega arith), hex_digit))

  pub hex-capital : 65 ≤ ch → ch ≤ 70 → HexIs ch (Some (ch - 55))
  unfolding hex_digit
  hex-capital h k = record { is = rw (above-range 48 57 ch (omega arith), in-range 65 70 ch h k, hex_digit); small = omega arith }

  pub hex-before : 70 < ch → ch < 97 → HexIs ch None
  unfolding hex_digit
  hex-before h k = hex-none (rw (above-range 48 57 ch (omega arith), above-range 65 70 ch h, below-range 97 102 ch k, hex_digit))

  pub hex-small : 97 ≤ ch → ch ≤ 102 → HexIs ch (Some (ch - 87))
  unfolding hex_digit
  hex-small h k = record {
    is = rw (above-range 48 57 ch (omega arith), above-range 65 70 ch (omega arith), in-range 97 102 ch h k, hex_digit);
    small = omega arith;
  }

  pub past-digits : 102 < ch → hex_digit ch ≡ none
  unfolding hex_digit
  past-digits h = rw (above-range 48 57 ch (omega arith), above-range 65 70 ch (omega arith), above-range 97 102 ch h, hex_digit)

  pub hex-above : 102 < ch → HexIs ch None
  hex-above h = hex-none (past-digits h)

pub ruleset hexes = (hex-below, hex-decimal, hex-between, hex-capital, hex-before, hex-small, hex-above)

-- the digit at a place, by the character there
pub digit-seen : {s : List ℕ} {at ch p : ℕ} → Seen s at ch p → hex_digit (byte_at s at) ≡ hex_digit ch
digit-seen z = same_seen hex_digit none (λ b h. past-digits (omega arith)) z

-- ---- four digits

-- So many digits are read, and this is their value.
pub record HexLoop (s : List ℕ) (first at₀ at unit n : ℕ) : Type 0 where
  pub is : hex_from 4 s first 0 at₀ ≡ hex_from (4 - n) s first unit at
  pub gone : at ≡ at₀ + n
  pub inside : at ≤ max at₀ (length s)
  pub low : (unit + 1) * 16 ^ (4 - n) ≤ 65536
  pub small : unit < 65536

pub maybe-some : (o : Option ℕ) {d : ℕ} → maybe o ≡ Some d → o ≡ some d
maybe-some none e = clash (cc)
maybe-some (some x) e = cc

pub maybe-none : (o : Option ℕ) → maybe o ≡ None → o ≡ none
maybe-none none e = refl
maybe-none (some x) e = clash (cc)

-- what a value may come to bounds it
bounded : (v n : ℕ) → (v + 1) * 16 ^ n ≤ 65536 → v < 65536
bounded v n h =
    let p : 1 ≤ 16 ^ n = pow-le-pow_right {n = 16} (omega arith) {i = 0} {j = n} (omega arith) in
    let m : (v + 1) * 1 ≤ (v + 1) * 16 ^ n = mul-le-mul_left (v + 1) p in
    omega arith

digit-ascii : {ch d : ℕ} → hex_digit ch ≡ some d → ch < 128
digit-ascii {ch} {d} e = go (ltb ch 128) refl
  where
    go : (t : Bool) → ltb ch 128 ≡ t → ch < 128
    go true f = ltb-true ch 128 f
    go false f = let b = ltb-false ch 128 f in clash (cc (past-digits {ch = ch} (omega arith)))

pub digits-start : {s : List ℕ} {first at : ℕ} → HexLoop s first at at 0 0
digits-start = record { is = refl; gone = omega arith; inside = omega arith; low = le_refl 65536; small = omega arith }

module _ {s : List ℕ} {first at₀ at unit n : ℕ} (I : HexLoop s first at₀ at unit n) where
  pub digits-done : {c : Cursor} → c.at.0 ≡ at → n ≤ 4 → 4 ≤ n → UnitIs s first at₀ (Ok (code_unit unit c))
  unfolding hex_from
  digits-done {c} e l h =
      let z : 4 - n ≡ 0 = omega arith in
      record { is = I.is ∙ rw (z, e); far = (I.small, omega (arith, I.gone), omega (arith, I.gone, I.inside)) }

  module _ (more : n < 4) where
    left_is : 4 - n ≡ suc (4 - (n + 1))
    left_is = omega arith

    turn : hex_from 4 s first 0 at₀ ≡ hex_from (suc (4 - (n + 1))) s first unit at
    turn = I.is ∙ ap (λ (m : ℕ). hex_from m s first unit at) left_is

    module _ {r : Maybe Step} (h : StepIs s at r) where
      pub digits-cut : r ≡ None → UnitIs s first at₀ (Err (refusal 4 (doc (length s))))
      unfolding hex_from
      digits-cut e = record { is = turn ∙ rw (le-leb (length s) at (at-end h e), hex_from); far = tt }

      module _ {t : Step} (e : r ≡ Some t) {q : Maybe ℕ} (k : HexIs t.ch q) where
        bad : q ≡ None → hex_from 4 s first 0 at₀ ≡ refused (placed 5 first)
        unfolding hex_from
        bad i =
            let z = seen h e in
            turn ∙ rw (lt-leb (length s) at z.within, digit-seen z ∙ maybe-none (hex_digit t.ch) (sym k.is ∙ i), hex_from)

        pub digits-bad : {place : DocAt} → place.0 ≡ first → q ≡ None → UnitIs s first at₀ (Err (refusal 5 place))
        digits-bad {place} f i = record { is = bad i ∙ ap (λ (m : ℕ). refused (placed 5 m)) (sym f); far = tt }

        module _ {d : ℕ} (i : q ≡ Some d) where
          digit : hex_digit t.ch ≡ some d
          digit = maybe-some (hex_digit t.ch) (sym k.is ∙ i)

          below : d < 16
          below = rw i at k.small

          -- each digit takes one power of 16 off what the value may yet come to
          lower : (unit * 16 + d + 1) * 16 ^ (4 - (n + 1)) ≤ 65536
          lower =
              let b : d < 16 = below in
              let m : unit * 16 + d + 1 ≤ (unit + 1) * 16 = omega arith in
              let p : (unit + 1) * 16 ^ (4 - n) ≡ (unit + 1) * 16 * 16 ^ (4 - (n + 1)) =
              ap (λ (j : ℕ). (unit + 1) * 16 ^ j) left_is ∙ ap (λ (j : ℕ). (unit + 1) * j) (pow-succ' 16 (4 - (n + 1)))
              ∙ sym (mul_assoc (unit + 1) 16 (16 ^ (4 - (n + 1)))) in
              le_trans (mul-le-mul_right (16 ^ (4 - (n + 1))) m) (omega (arith, I.low, p))

          pub digits-turn : HexLoop s first at₀ t.next.at.0 (unit * 16 + d) (n + 1)
          unfolding hex_from
          digits-turn =
              let z = seen h e in
              let o : t.next.at.0 ≡ at + 1 = z.one (digit-ascii digit) in
              record {
                is = turn ∙ rw (lt-leb (length s) at z.within, digit-seen z ∙ digit, hex_from, o);
                gone = omega (arith, I.gone);
                inside = omega (arith, z.inside);
                low = lower;
                small = omega (arith, bounded (unit * 16 + d) (4 - (n + 1)) lower);
              }

          pub digits-fit : Fits w32 (unit * 16 + d)
          digits-fit = record { fits = omega (arith, I.small, below) }

pub ruleset digits = (arith, digits-start, digits-done, digits-cut, digits-bad, digits-turn, digits-fit)

-- ---- surrogates

pub high-below : {unit : ℕ} → unit < 55296 → false ≡ is_high unit
high-below {unit} h = rw (lt-leb 55296 unit h)

pub high-else : {unit : ℕ} → 55296 ≤ unit → leb unit 56319 ≡ is_high unit
high-else {unit} h = rw (le-leb 55296 unit h)

pub low_below : {unit : ℕ} → unit < 56320 → false ≡ is_low unit
low_below {unit} h = rw (lt-leb 56320 unit h)

pub low-else : {unit : ℕ} → 56320 ≤ unit → leb unit 57343 ≡ is_low unit
low-else {unit} h = rw (le-leb 56320 unit h)

pub ruleset highs = (high-below, high-else)

pub ruleset lows = (low_below, low-else)

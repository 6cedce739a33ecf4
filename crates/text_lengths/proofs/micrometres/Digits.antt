-- One law for each answer of the functions on a length's digits.
use mathlib.Core.Path.{◌≡◌, refl, sym, ◌∙◌, ap}
use mathlib.Core.Bool.{Bool, true, false}
use mathlib.Core.List.{List, [], ◌∷◌}
use mathlib.Core.Option.{Option, none, some}
use Prim.Native.Nat.{ℕ, zero, suc, ◌+◌, ◌-◌, ◌*◌, ◌/◌, ◌%◌, ◌^◌, ◌≤◌, ◌<◌, min}
use native.Mathlib.Nat.{mul-le-mul}
use native.Mathlib.Omega.{arith}
use lib.ListN.{length, take, length-take, drop_of_length-le}
use lib.Dec.{leb}
use lib.Seq.{slice, slice_empty, slice-cons}
use borrow.Author.Tests.{leb-true, leb-false}
use Rattle.rules.specs.Bytes.{Text, byte_at}
use Rattle.rules.specs.Sizes.{max_micrometres}
use Rattle.rules.specs.Micrometres.{inch, digits_value, in_micrometres, no_length}
use Rattle.text_chars.specs.Cursor.{ByteIs}
use Rattle.text_chars.specs.Clash.{clash}
use Rattle.text_lengths.specs.Decimals.Contracts.{decimal_in}
use Rattle.text_lengths.specs.declared.decimals.Decimal.{Decimal}
use Rattle.text_lengths.specs.Micrometres.Contracts.{too_many, DigitsTo, WholeIs, tenth, fraction_c, fraction_as, max_fraction, FractionIs, MeasuredIs}
use Rattle.text_lengths.specs.Micrometres.Exact.{tenth-whole, tenth-broken, not-whole, too_long, fine, summed, summed-step}
use Rattle.std.specs.Prelude.{Option as Maybe, Some, None, Ok, Err}
use Rattle.text_chars.specs.Cursor.{doc, refusal}
use Rattle.text_chars.specs.declared.Refusal.{Refusal}

-- ---- one digit

module _ {b : ℕ} where
  pub digit_low : b < 48 → 0 ≡ b - 48
  digit_low h = omega arith

  pub digit-else : 48 ≤ b → b - 48 ≡ b - 48
  digit-else h = refl

  pub cap-over : too_many < b → too_many ≡ min too_many b
  cap-over h = omega arith

  pub cap-under : b ≤ too_many → b ≡ min too_many b
  cap-under h = omega arith

pub ruleset digits = (digit_low, digit-else)

pub ruleset caps = (cap-over, cap-under)

-- a digit's micrometres are few
few : (d unit : ℕ) → d ≤ 208 → unit ≤ inch → d * unit ≤ 5283200
few d unit h k = mul-le-mul h k

digit-small : {s : List ℕ} {at b d : ℕ} → ByteIs s at b → at < length s → d ≡ b - 48 → d ≤ 208
digit-small k h e = omega (arith, k.small h)

-- ---- parts of a text

past_end : (s : List ℕ) (from to : ℕ) → to ≤ from → slice from to s ≡ []
past_end s from to h = drop_of_length-le (take to s) {i = from} (omega (arith, length-take to s))

-- the first byte of a part, and the rest of it
first : (s : List ℕ) (at to : ℕ) → at < to → to ≤ length s → slice at to s ≡ byte_at s at ∷ slice (at + 1) to s
first s at to h k = slice-cons at to s 256 h k ∙ ap (λ (n : ℕ). byte_at s at ∷ slice n to s) one
  where
    one : suc at ≡ at + 1
    one = omega arith

-- ---- before the dot

-- what the loop keeps: the digits so far and those to come are all of them
pub record Summing (s : List ℕ) (from to unit at sum : ℕ) : Type 0 where
  pub still : summed unit 0 (slice from to s) ≡ summed unit sum (slice at to s)
  pub small : sum ≤ too_many

pub sum-start : (s : List ℕ) (from to unit : ℕ) → Summing s from to unit from 0
sum-start s from to unit = record { still = refl; small = omega arith }

module _ {s : List ℕ} {from to unit at sum : ℕ} (g : Summing s from to unit at sum) where
  module _ (lent : DigitsTo s to unit) (more : at < to) {b d : ℕ} (k : ByteIs s at b) (e : d ≡ b - 48) where
    pub sum-digit-fits : d * unit < 2 ^ 32
    sum-digit-fits = let l : d * unit ≤ 5283200 = few d unit (digit-small k (omega arith) e) lent.2 in omega arith

    pub sum_fits : sum * 10 + d * unit < 2 ^ 32
    sum_fits = let l : d * unit ≤ 5283200 = few d unit (digit-small k (omega arith) e) lent.2 in omega (arith, g.small)

    pub sum-on : {n : ℕ} → n ≡ min too_many (sum * 10 + d * unit) → Summing s from to unit (at + 1) n
    sum-on {n} f =
        let digit : d ≡ byte_at s at - 48 = e ∙ ap (λ (x : ℕ). x - 48) k.is in
        let step : summed unit sum (slice at to s) ≡ summed unit n (slice (at + 1) to s) =
        ap (λ (l : Text). summed unit sum l) (first s at to more lent.1)
        ∙ summed-step unit sum (byte_at s at) (slice (at + 1) to s)
        ∙ ap (λ (x : ℕ). summed unit x (slice (at + 1) to s)) (sym (f ∙ ap (λ (x : ℕ). min too_many (sum * 10 + x * unit)) digit)) in
        record { still = g.still ∙ step; small = omega arith }

  pub sum_done : to ≤ at → WholeIs s from to unit sum
  unfolding digits_value
  sum_done h =
      let z : summed unit sum (slice at to s) ≡ min too_many (sum * 1 + 0 * unit) = ap (λ (l : Text). summed unit sum l) (past_end s at to h) in
      record { is = omega (arith, g.still, z, g.small) }

pub ruleset sums = (sum-start, sum-on, sum_done)

pub ruleset sum-needs = (sum-digit-fits, sum_fits)

-- ---- behind the dot

-- what the loop keeps: what the digits from here on come to
pub record Dividing (s : List ℕ) (from to unit at rest : ℕ) : Type 0 where
  pub still : fraction_c unit (slice at to s) ≡ some rest
  pub above : min from to ≤ at
  pub inside : at ≤ to
  pub small : rest ≤ max_fraction

pub divide-start : (s : List ℕ) (from to unit : ℕ) → Dividing s from to unit to 0
unfolding fraction_c
divide-start s from to unit = record {
  still = ap (λ (l : Text). fraction_c unit l) (slice_empty to s);
  above = omega arith;
  inside = omega arith;
  small = omega arith;
}

-- where a part is broken, the digits before it are too
broken-before : (s : List ℕ) (to unit n from at : ℕ) → from + n ≡ at → at ≤ to → to ≤ length s → fraction_c unit (slice at to s) ≡ none
    → fraction_c unit (slice from to s) ≡ none
unfolding fraction_c
broken-before s to unit zero from at e h k b = let z : from ≡ at = omega arith in rw z b
broken-before s to unit (suc n) from at e h k b =
    let rest = broken-before s to unit n (from + 1) at (omega arith) h k b in
    rw (first s from to (omega arith) k, rest, fraction_c)

module _ {s : List ℕ} {from to unit at rest : ℕ} (g : Dividing s from to unit at rest) where
  module _ (lent : DigitsTo s to unit) (more : from < at) {b d : ℕ} (k : ByteIs s (at - 1) b) (e : d ≡ b - 48) where
    abbrev tenfold : ℕ
    tenfold = d * unit + rest

    own : d * unit ≤ 5283200
    own = few d unit (digit-small k (omega (arith, g.inside)) e) lent.2

    pub divide-digit-fits : d * unit < 2 ^ 32
    divide-digit-fits = omega (arith, own)

    pub divide-fits : d * unit + rest < 2 ^ 32
    divide-fits = omega (arith, own, g.small)

    here : fraction_c unit (slice (at - 1) to s) ≡ tenth tenfold
    unfolding fraction_c
    here =
        let digit : d ≡ byte_at s (at - 1) - 48 = e ∙ ap (λ (x : ℕ). x - 48) k.is in
        let back : at - 1 + 1 ≡ at = omega arith in
        let part : slice (at - 1) to s ≡ byte_at s (at - 1) ∷ slice at to s =
        first s (at - 1) to (omega (arith, g.inside)) lent.1 ∙ ap (λ (n : ℕ). byte_at s (at - 1) ∷ slice n to s) back in
        rw (part, g.still, digit, fraction_c)

    pub divide-on : tenfold % 10 ≤ 0 → Dividing s from to unit (at - 1) (tenfold / 10)
    divide-on z = record {
      still = here ∙ tenth-whole tenfold (omega arith);
      above = omega arith;
      inside = omega (arith, g.inside);
      small = omega (arith, own, g.small);
    }

    pub divide-broken : 0 < tenfold % 10 → FractionIs s from to unit None
    divide-broken z =
        let n : fraction_c unit (slice (at - 1) to s) ≡ none = here ∙ tenth-broken tenfold (λ h. absurd (omega arith)) in
        let all = broken-before s to unit (at - 1 - from) from (at - 1) (omega arith) (omega (arith, g.inside)) lent.1 n in
        record { is = rw all; small = tt }

  pub divide-done : at ≤ from → FractionIs s from to unit (Some rest)
  divide-done h = record { is = rw (go (leb from to) refl); small = g.small }
    where
      go : (t : Bool) → leb from to ≡ t → fraction_c unit (slice from to s) ≡ some rest
      go true e = let z : from ≡ at = omega (arith, g.above, leb-true from to e) in rw z g.still
      go false e =
          let l = leb-false from to e in
          let z : at ≡ to = omega (arith, g.above, g.inside) in
          rw (past_end s from to (omega arith)) (rw (← past_end s at to (omega arith)) g.still)

pub ruleset divides = (divide-start, divide-on, divide-broken, divide-done)

pub ruleset divide-needs = (divide-digit-fits, divide-fits)

-- ---- both together

fraction-none : (o : Option ℕ) → None ≡ fraction_as o → o ≡ none
fraction-none none e = refl
fraction-none (some n) e = clash (cc)

fraction-some : (o : Option ℕ) (n : ℕ) → Some n ≡ fraction_as o → o ≡ some n
fraction-some none n e = clash (cc)
fraction-some (some m) n e = cc

pub in-fits : {s : List ℕ} {unit from to first point rest w : ℕ} {f : Maybe ℕ} → FractionIs s from to unit f → f ≡ Some rest
    → WholeIs s first point unit w → w + rest < 2 ^ 32
in-fits {rest = rest} k e h = let l : rest ≤ max_fraction = rw e at k.small in omega (arith, h.is)

module _ {s : List ℕ} {unit : ℕ} (d : Decimal) {f : Maybe ℕ} (k : FractionIs s (d.point.0 + 1) d.end.0 unit f) where
  pub in-broken : f ≡ None → {z : Refusal} → z ≡ refusal 23 (doc 0) → MeasuredIs (in_micrometres unit (decimal_in s d)) (Err z)
  unfolding no_length
  in-broken e z = rw z (record { is = not-whole unit (decimal_in s d) (fraction-none _ (sym e ∙ k.is)); numbered = (omega arith, refl) })

  module _ {rest : ℕ} (e : f ≡ Some rest) {w : ℕ} (h : WholeIs s d.first.0 d.point.0 unit w) where
    behind : fraction_c unit (decimal_in s d).fraction ≡ some rest
    behind = fraction-some _ rest (sym e ∙ k.is)

    pub in-too-long : max_micrometres < w + rest → {z : Refusal} → z ≡ refusal 24 (doc 0)
        → MeasuredIs (in_micrometres unit (decimal_in s d)) (Err z)
    unfolding no_length
    in-too-long l z = rw z (record { is = too_long unit (decimal_in s d) rest behind (omega (arith, h.is)); numbered = (omega arith, refl) })

    pub in-fine : w + rest ≤ max_micrometres → MeasuredIs (in_micrometres unit (decimal_in s d)) (Ok (w + rest))
    in-fine l =
        let all : w ≡ digits_value (decimal_in s d).whole * unit = omega (arith, h.is) in
        record { is = rw all (fine unit (decimal_in s d) rest behind (omega arith)); numbered = tt }

pub ruleset ins = (in-broken, in-too-long, in-fine)

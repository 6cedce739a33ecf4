-- Tests of a range, and what they tell of a code unit.
use Rattle.std.specs.Prelude.{◌≡◌, refl, Bool, true, false, ◌&&◌, ℕ, ◌≤◌, ◌<◌, leb}
use Rattle.std.proofs.Common.{sym, ◌∙◌, le-leb, leb-true}
use Rattle.std.proofs.lemmas.Bool.{lt-leb}
use Rattle.rules.specs.Bytes.{within}
use Rattle.rules.specs.Strings.{is_high, is_low}
use Rattle.text_chars.specs.Clash.{clash}

and-false : (t : Bool) → (t && false) ≡ false
and-false true = refl
and-false false = refl

module _ (low high b : ℕ) where
  pub in-range : low ≤ b → b ≤ high → within low high b ≡ true
  in-range h k = rw (le-leb low b h, le-leb b high k)

  pub below-range : b < low → within low high b ≡ false
  below-range h = rw (lt-leb low b h)

  pub above-range : high < b → within low high b ≡ false
  above-range h = rw (lt-leb b high h) (and-false (leb low b))

  pub range-least : within low high b ≡ true → low ≤ b
  range-least = go (leb low b) refl
    where
      go : (t : Bool) → leb low b ≡ t → (t && leb b high) ≡ true → low ≤ b
      go true e f = leb-true low b e
      go false e f = clash (cc)

  pub range-most : within low high b ≡ true → b ≤ high
  range-most = go (leb low b) refl
    where
      go : (t : Bool) → leb low b ≡ t → (t && leb b high) ≡ true → b ≤ high
      go true e f = leb-true b high f
      go false e f = clash (cc)

-- ---- surrogates

pub high-least : (unit : ℕ) {f : Bool} → f ≡ is_high unit → f ≡ true → 55296 ≤ unit
high-least unit i e = range-least 55296 56319 unit (sym i ∙ e)

pub high-most : (unit : ℕ) {f : Bool} → f ≡ is_high unit → f ≡ true → unit ≤ 56319
high-most unit i e = range-most 55296 56319 unit (sym i ∙ e)

pub low-least : (unit : ℕ) {f : Bool} → f ≡ is_low unit → f ≡ true → 56320 ≤ unit
low-least unit i e = range-least 56320 57343 unit (sym i ∙ e)

pub low-most : (unit : ℕ) {f : Bool} → f ≡ is_low unit → f ≡ true → unit ≤ 57343
low-most unit i e = range-most 56320 57343 unit (sym i ∙ e)

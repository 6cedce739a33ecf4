-- One law for each answer of the functions that tell where a refusal is, and that its 64 bits do not overflow.
use mathlib.Core.Path.{◌≡◌, refl, sym, ◌∙◌}
use mathlib.Core.Bool.{Bool, true, false}
use mathlib.Core.List.{List}
use Prim.Native.Nat.{ℕ, ◌+◌, ◌*◌, ◌/◌, ◌%◌, ◌≤◌, ◌<◌, ◌^◌}
use native.Mathlib.Omega.{arith}
use lib.Dec.{leb}
use lib.ListN.{length}
use borrow.Author.Tests.{lt-leb, le-leb}
use Rattle.rules.specs.Sizes.{max_document}
use Rattle.rules.specs.Refusals.{offset_of}
use Rattle.rules.specs.Positions.{has_place, line_of, column_of}
use Rattle.theory_text.specs.Positions.{line-bound, column-bound}
use Rattle.text_chars.specs.Positions.{PositionIs}
use Rattle.text_chars.specs.declared.Position.{Position}
use Rattle.job_results.specs.Places.{PlaceAsked, PlaceIs, packed_refusal, RefusalFits, PackedRefusalIs}
use Rattle.job_results.specs.declared.Place.{Place}

-- ---- which refusals have a place

module _ {number : ℕ} where
  pub no-place-low : number < 2 → false ≡ has_place number
  unfolding has_place
  no-place-low h = rw (lt-leb 2 number h, has_place)

  pub place-upto : 2 ≤ number → leb number 12 ≡ has_place number
  unfolding has_place
  place-upto h = rw (le-leb 2 number h, has_place)

pub ruleset has-places = (no-place-low, place-upto)

-- ---- where a refusal is

module _ {s : List ℕ} {number : ℕ} {f : Bool} (e : f ≡ has_place number) where
  pub position-asked : PlaceAsked s number → f ≡ true → length s ≤ max_document
  position-asked h t = h.short (sym e ∙ t)

  pub at_position : (place : ℕ) {here : Position} → PositionIs s (place % 65536) here → f ≡ true
      → PlaceIs s number place
      (record { document = place / 65536; offset = record { 0 = place % 65536 }; line = here.line; column = here.column })
  unfolding line_of column_of
  at_position place h t =
      let q : has_place number ≡ true = sym e ∙ t in
      record { document = refl; offset = refl; line = rw (q, line_of) h.line; column = rw (q, column_of) h.column }

  pub at_none : (place : ℕ) → f ≡ false
      → PlaceIs s number place (record { document = place / 65536; offset = record { 0 = place % 65536 }; line = 0; column = 0 })
  unfolding line_of column_of
  at_none place t =
      let q : has_place number ≡ false = sym e ∙ t in
      record { document = refl; offset = refl; line = rw (q, line_of); column = rw (q, column_of) }

pub ruleset places = (position-asked, at_position, at_none)

-- ---- its 64 bits

pub refusal-asked : {s : List ℕ} {number place : ℕ} → RefusalFits s number place → PlaceAsked s number
refusal-asked h = h.asked

line-fits : {s : List ℕ} {number : ℕ} (place : ℕ) → PlaceAsked s number → line_of s number place < 65536
unfolding line_of
line-fits {s} {number} place h = go (has_place number) refl
  where
    go : (t : Bool) → has_place number ≡ t → line_of s number place < 65536
    go true e = rw (e, line_of) (omega (arith, h.short e, line-bound s (offset_of place)))
    go false e = rw (e, line_of) (omega arith)

column_fits : {s : List ℕ} {number : ℕ} (place : ℕ) → PlaceAsked s number → column_of s number place < 65536
unfolding column_of
column_fits {s} {number} place h = go (has_place number) refl
  where
    go : (t : Bool) → has_place number ≡ t → column_of s number place < 65536
    go true e = rw (e, column_of) (omega (arith, h.short e, column-bound s (offset_of place)))
    go false e = rw (e, column_of) (omega arith)

module _ {s : List ℕ} {number place : ℕ} {at : Place} (F : RefusalFits s number place) (P : PlaceIs s number place at) where
  offset-small : at.offset.0 < 65536
  offset-small = omega (arith, P.offset)

  document-small : at.document < 16
  document-small = omega (arith, P.document, F.document-fits)

  line_small : at.line < 65536
  line_small = omega (arith, P.line, line-fits place F.asked)

  column-small : at.column < 65536
  column-small = omega (arith, P.column, column_fits place F.asked)

  pub offset-product : at.offset.0 * 64 < 2 ^ 64
  offset-product = omega (arith, offset-small)

  pub offset-sum : number + at.offset.0 * 64 < 2 ^ 64
  offset-sum = omega (arith, offset-small, F.number_fits)

  pub document-product : at.document * 4194304 < 2 ^ 64
  document-product = omega (arith, document-small)

  pub document-sum : number + at.offset.0 * 64 + at.document * 4194304 < 2 ^ 64
  document-sum = omega (arith, offset-small, F.number_fits, document-small)

  pub line-product : at.line * 67108864 < 2 ^ 64
  line-product = omega (arith, line_small)

  pub line-sum : number + at.offset.0 * 64 + at.document * 4194304 + at.line * 67108864 < 2 ^ 64
  line-sum = omega (arith, offset-small, F.number_fits, document-small, line_small)

  pub column-product : at.column * 4398046511104 < 2 ^ 64
  column-product = omega (arith, column-small)

  pub column-sum : number + at.offset.0 * 64 + at.document * 4194304 + at.line * 67108864 + at.column * 4398046511104 < 2 ^ 64
  column-sum = omega (arith, offset-small, F.number_fits, document-small, line_small, column-small)

pub refusal-packs : {s : List ℕ} {number place : ℕ} {at : Place} → PlaceIs s number place at
    → PackedRefusalIs s number place
    (number + at.offset.0 * 64 + at.document * 4194304 + at.line * 67108864 + at.column * 4398046511104)
unfolding packed_refusal
refusal-packs P = record { is = rw (P.offset, P.document, P.line, P.column, packed_refusal) }

pub ruleset products = (offset-product, document-product, line-product, column-product)

pub ruleset sums = (offset-sum, document-sum, line-sum, column-sum)

pub ruleset refusal-rooms = (refusal-asked, products, sums)

-- The rules' segments and elements, one piece at a time.
use mathlib.Core.Path.{◌≡◌, refl, ◌∙◌, ap}
use mathlib.Core.Bool.{Bool, true, false, cond, ◌&&◌}
use mathlib.Core.List.{List, [], ◌∷◌, ◌++◌}
use Prim.Native.Nat.{ℕ, zero, suc, ◌-◌, ◌≤◌, ◌<◌}
use native.Mathlib.Omega.{arith}
use lib.Dec.{ltb, eqb}
use lib.ListN.{length, take, length-take, drop_of_length-le}
use lib.Seq.{slice}
use borrow.Author.Tests.{ltb-false}
use Rattle.rules.specs.Bytes.{byte_at}
use Rattle.rules.specs.Refusals.{Refusal, placed, Scan, ok, refused, and_then}
use Rattle.rules.specs.Characters.{after_inline}
use Rattle.rules.specs.Pieces.{Token, starts_simple, simple_at}
use Rattle.rules.specs.Paths.{Segment, segment_of, gap_segment, segments_from, Element, grown, split_text, split_from}
use Rattle.theory_text.specs.Choices.{same_test}
use Rattle.theory_text.specs.Places.{inline-reached}
use Rattle.theory.specs.Scanning.{Scans, oks, scan-refuses, simple-inside, simple-scans}
use Rattle.text_elements.specs.Segments.Pieces.{remaining, split_to, segment_to, piece_to}
use Rattle.text_elements.specs.Segments.Keeping.{split-is}

then_same : {A B : Type 0} {P : A → ℕ → Type 0} {m : Scan A} {k l : A → ℕ → Scan B} → Scans P m
    → ((a : A) (end : ℕ) → P a end → k a end ≡ l a end) → and_then m k ≡ and_then m l
then_same (oks h) f = f _ _ h
then_same (scan-refuses h) f = refl

-- ---- more fuel than enough changes nothing

pub segments-stable : (key : Bool) (s : List ℕ) (n m from at : ℕ) → length s - at < n → length s - at < m
    → segments_from n key s from at ≡ segments_from m key s from at
unfolding segments_from
segments-stable key s zero m from at h k = absurd (omega arith)
segments-stable key s (suc n) zero from at h k = absurd (omega arith)
segments-stable key s (suc n) (suc m) from at h k =
    same_test (key && eqb (byte_at s at) 36) (λ e. refl) (λ e.
    same_test (starts_simple s at)
    (λ f. let i = simple-inside s at f in
    then_same (simple-scans s at f) (λ t end l.
    let r = (inline-reached s end).0 in
    ap (λ z. and_then z (λ rest after. ok (gap_segment s from at ++ (segment_of at t ∷ rest)) after))
    (segments-stable key s n m end (after_inline s end) (omega arith) (omega arith))))
    (λ f. refl))

-- ---- the segments, by what stands at the place

module _ (key : Bool) (s : List ℕ) (from at : ℕ) where
  pub segments-dollar : (key && eqb (byte_at s at) 36) ≡ true → segments_from (suc (length s)) key s from at ≡ refused (placed 7 at)
  unfolding segments_from
  segments-dollar e = rw (e, segments_from)

  module _ (e : (key && eqb (byte_at s at) 36) ≡ false) where
    pub segments-end : starts_simple s at ≡ false → segments_from (suc (length s)) key s from at ≡ ok [] at
    unfolding segments_from
    segments-end f = rw (e, f, segments_from)

    pub segments-begin : starts_simple s at ≡ true → segments_from (suc (length s)) key s from at
        ≡ and_then (simple_at s at) (λ t end.
        and_then (segments_from (length s) key s end (after_inline s end)) (λ rest after. ok (gap_segment s from at ++ (segment_of at t ∷ rest)) after))
    unfolding segments_from
    segments-begin f = rw (e, f, segments_from)

    pub segments-fail : starts_simple s at ≡ true → (x : Refusal) → simple_at s at ≡ refused x → segments_from (suc (length s)) key s from at ≡ refused x
    segments-fail f x p = segments-begin f ∙ rw p

    pub segments-more : starts_simple s at ≡ true → (t : Token) (end : ℕ) → at < end → simple_at s at ≡ ok t end
        → segments_from (suc (length s)) key s from at
        ≡ and_then (segments_from (suc (length s)) key s end (after_inline s end)) (λ rest after. ok (gap_segment s from at ++ (segment_of at t ∷ rest)) after)
    segments-more f t end l p =
        let i = simple-inside s at f in
        let r = (inline-reached s end).0 in
        segments-begin f ∙ rw p (ap (λ z. and_then z (λ rest after. ok (gap_segment s from at ++ (segment_of at t ∷ rest)) after))
        (segments-stable key s (length s) (suc (length s)) end (after_inline s end) (omega arith) (omega arith)))

-- ---- the elements behind one segment more

pub segment-is : (es : List Element) (e : Element) (g : Segment) (gs : List Segment)
    → es ++ split_from e (g ∷ gs) ≡ (segment_to es e g).0 ++ split_from (segment_to es e g).1 gs
unfolding segment_to split_from
segment-is es e g gs = go g.in_quotes
  where
    go : (b : Bool)
        → es ++ (elim b [ true ↦ split_from (grown e g.text true) gs | false ↦ split_text e g.place g.text (λ e'. split_from e' gs) ])
        ≡ (cond b (es, grown e g.text true) (split_to es e g.place g.text)).0
        ++ split_from (cond b (es, grown e g.text true) (split_to es e g.place g.text)).1 gs
    go true = refl
    go false = split-is es e g.place g.text (λ e'. split_from e' gs)

-- the whitespace between pieces
pub gap_is : (s : List ℕ) (from at : ℕ) (es : List Element) (e : Element) (gs : List Segment)
    → es ++ split_from e (gap_segment s from at ++ gs)
    ≡ (split_to es e from (slice from at s)).0 ++ split_from (split_to es e from (slice from at s)).1 gs
unfolding gap_segment split_to split_from
gap_is s from at es e gs = go (ltb from at) refl
  where
    go : (b : Bool) → ltb from at ≡ b
        → es ++ split_from e ((elim b as (λ _. List Segment) [ true ↦ record { place = from; text = slice from at s; in_quotes = false } ∷ [] | false ↦ [] ]) ++ gs)
        ≡ (split_to es e from (slice from at s)).0 ++ split_from (split_to es e from (slice from at s)).1 gs
    go true l = split-is es e from (slice from at s) (λ e'. split_from e' gs)
    go false l =
        let short : length (take at s) ≤ from = omega (arith, length-take at s, ltb-false from at l) in
        let none : slice from at s ≡ [] = drop_of_length-le (take at s) short in
        rw none

module _ (key : Bool) (s : List ℕ) (from at : ℕ) (e₀ : (key && eqb (byte_at s at) 36) ≡ false) (es : List Element) (e : Element) where
  pub remaining-more : starts_simple s at ≡ true → (t : Token) (end : ℕ) → at < end → simple_at s at ≡ ok t end
      → remaining key s from at es e
      ≡ remaining key s end (after_inline s end) (piece_to s from at (segment_of at t) es e).0 (piece_to s from at (segment_of at t) es e).1
  unfolding remaining piece_to
  remaining-more f t end l p =
      rw (segments-more key s from at e₀ f t end l p) (go (segments_from (suc (length s)) key s end (after_inline s end)))
    where
      g : Segment
      g = segment_of at t

      x : List Element × Element
      x = split_to es e from (slice from at s)

      go : (m : Scan (List Segment))
          → and_then (and_then m (λ rest after. ok (gap_segment s from at ++ (g ∷ rest)) after)) (λ gs end'. ok (es ++ split_from e gs) end')
          ≡ and_then m (λ gs end'. ok ((segment_to x.0 x.1 g).0 ++ split_from (segment_to x.0 x.1 g).1 gs) end')
      go (refused y) = refl
      go (ok rest after) = ap (λ z. ok z after) (gap_is s from at es e (g ∷ rest) ∙ segment-is x.0 x.1 g rest)

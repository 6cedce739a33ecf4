-- No reader of a path text goes past its end, so the place of a refusal is a place in the text, or its length.
use Rattle.std.specs.Prelude.{◌≡◌, refl, Bool, true, ◌&&◌, ◌||◌, leb, ltb, take}
use Prim.Native.Nat.{ℕ, zero, suc, ◌+◌, ◌*◌, ◌≤◌, ◌<◌}
use Rattle.std.proofs.Math.Bool.{false}
use mathlib.Core.List.{List, [], ◌∷◌}
use Rattle.std.proofs.Math.Option.{Option, none, some}
use native.Mathlib.Omega.{arith}
use Rattle.std.proofs.Math.Dec.{eqb}
use Rattle.std.proofs.Math.ListN.{length, get_elem?, length-take, length-drop}
use Rattle.std.proofs.Math.Seq.{slice}
use borrow.Author.Tests.{leb-false, ltb-true}
use Rattle.answers.specs.Theory.Sound.{clash}
use Rattle.rules.specs.Sizes.{max_path}
use Rattle.rules.specs.Bytes.{Text, byte_at, skip}
use Rattle.rules.specs.Refusals.{Refusal, place_of, Scan, ok, refused, and_then}
use Rattle.rules.specs.Utf8.{well_formed_end, ill_formed}
use Rattle.rules.specs.Characters.{next_place, after_inline}
use Rattle.rules.specs.Numbers.{is_digit, after_digits, after_int, after_fraction, after_sign, after_exponent, after_number}
use Rattle.rules.specs.Strings.{hex_digit, hex_from, expect, is_high, is_low, mate_of, unicode_escape, letter_escape, escape_at}
use Rattle.rules.specs.Strings.{prepend, body_from, three_quotes, quotes_run, after_quotes, triple_at, quoted_at}
use Rattle.rules.specs.Pieces.{unquoted_end, starts_simple, word_true, word_false, word_null, starts_with, unquoted_at, number_at, simple_at}
use Rattle.rules.specs.Paths.{segments_from, segments_at, Element, elements_of, any_empty, judge, judged, path_text}
use Rattle.theory_text.specs.Choices.{by-test, by-option}
use Rattle.theory_text.specs.Places.{byte_inside, digit-moves, quote-moves}
use Rattle.theory.specs.Layout.{same-eq}
use Rattle.theory.specs.Lengths.{Within, elements-within}

-- a `skip` whose steps do not go past a bound does not either
pub skip-stays : (test : ℕ → Bool) (step : ℕ → ℕ) (bound : ℕ) → ((p : ℕ) → test p ≡ true → step p ≤ bound) → (n at : ℕ) → at ≤ bound
    → skip test step n at ≤ bound
unfolding skip
skip-stays test step bound f zero at h = h
skip-stays test step bound f (suc n) at h =
    by-test (λ r. r ≤ bound) (test at) (λ e. skip-stays test step bound f n (step at) (f at e)) (λ e. h)

module _ (s : List ℕ) where
  -- what is read ends inside the text, and so does a refusal's place; both may be the length
  abbrev pub Stays : {A : Type 0} → Scan A → Type 0
  Stays (ok a end) = end ≤ length s
  Stays (refused x) = place_of x ≤ length s

  then-stays : {A B : Type 0} (m : Scan A) (k : A → ℕ → Scan B) → Stays m → ((a : A) (end : ℕ) → end ≤ length s → Stays (k a end))
      → Stays (and_then m k)
  then-stays (ok a end) k h f = f a end h
  then-stays (refused x) k h f = h

  -- the same where it counts what was read before
  after-stays : {A B : Type 0} (m : Scan A) (k : A → ℕ → Scan B) → Stays m
      → ((a : A) (end : ℕ) → m ≡ ok a end → end ≤ length s → Stays (k a end)) → Stays (and_then m k)
  after-stays (ok a end) k h f = f a end refl h
  after-stays (refused x) k h f = h

  pub next-stays : (at : ℕ) → next_place s at ≤ length s
  unfolding next_place
  next-stays at = omega arith

  -- ---- strings

  hex-stays : (n first so_far at : ℕ) → first ≤ length s → at ≤ length s → Stays (hex_from n s first so_far at)
  unfolding hex_from
  hex-stays zero first so_far at f h = h
  hex-stays (suc n) first so_far at f h =
      by-test Stays (leb (length s) at) (λ e. omega arith) (λ e.
      by-option Stays (hex_digit (byte_at s at)) (λ g. f) (λ d g.
      hex-stays n first (so_far * 16 + d) (at + 1) f (omega (arith, leb-false (length s) at e))))

  expect-stays : (b first at : ℕ) → first ≤ length s → Stays (expect b s first at)
  unfolding expect
  expect-stays b first at f =
      by-test Stays (leb (length s) at) (λ e. omega arith) (λ e.
      by-test Stays (eqb (byte_at s at) b) (λ g. omega (arith, leb-false (length s) at e)) (λ g. f))

  mate-stays : (first high at : ℕ) → first ≤ length s → Stays (mate_of s first high at)
  unfolding mate_of
  mate-stays first high at f =
      then-stays (expect 92 s first at) _ (expect-stays 92 first at f) (λ b p h.
      then-stays (expect 117 s first p) _ (expect-stays 117 first p f) (λ c q k.
      then-stays (hex_from 4 s first 0 q) _ (hex-stays 4 first 0 q f k) (λ low end l.
      by-test Stays (is_low low) (λ e. l) (λ e. f))))

  unicode-stays : (first at : ℕ) → first ≤ length s → at ≤ length s → Stays (unicode_escape s first at)
  unfolding unicode_escape
  unicode-stays first at f h =
      then-stays (hex_from 4 s first 0 at) _ (hex-stays 4 first 0 at f h) (λ unit p k.
      by-test Stays (is_low unit) (λ e. f) (λ e. by-test Stays (is_high unit) (λ g. mate-stays first unit p f) (λ g. k)))

  escape-stays : (at : ℕ) → at ≤ length s → Stays (escape_at s at)
  unfolding escape_at
  escape-stays at h =
      by-test Stays (leb (length s) (at + 1)) (λ e. omega arith) (λ e.
      let i = leb-false (length s) (at + 1) e in
      by-option Stays (letter_escape (byte_at s (at + 1)))
      (λ f. by-test Stays (eqb (byte_at s (at + 1)) 117) (λ g. unicode-stays at (at + 2) h (omega arith)) (λ g. h)) (λ b f. omega arith))

  prepend-stays : (t : Text) (m : Scan Text) → Stays m → Stays (prepend t m)
  prepend-stays t (ok u end) h = h
  prepend-stays t (refused x) h = h

  body-stays : (n at : ℕ) → Stays (body_from n s at)
  unfolding body_from
  body-stays zero at = omega arith
  body-stays (suc n) at =
      by-test Stays (leb (length s) at) (λ e. omega arith) (λ e.
      let i = leb-false (length s) at e in
      let h : at ≤ length s = omega arith in
      by-test Stays (eqb (byte_at s at) 34) (λ f. omega arith) (λ f.
      by-test Stays (ltb (byte_at s at) 32) (λ g. h) (λ g.
      by-test Stays (eqb (byte_at s at) 92)
      (λ k. then-stays (escape_at s at) _ (escape-stays at h) (λ t p l. prepend-stays t (body_from n s p) (body-stays n p)))
      (λ k. prepend-stays _ (body_from n s (next_place s at)) (body-stays n (next_place s at))))))

  quotes-stay : (at : ℕ) → at ≤ length s → after_quotes s at ≤ length s
  unfolding after_quotes
  quotes-stay at h = skip-stays _ _ (length s) (λ p e. omega (arith, (quote-moves s p e).0)) (length s) at h

  triple-stays : (at : ℕ) → Stays (triple_at s at)
  unfolding triple_at
  triple-stays at =
      let run = quotes_run s (at + 3) in
      by-test Stays (ltb run (length s)) (λ e. quotes-stay run (omega (arith, ltb-true run (length s) e))) (λ e. omega arith)

  quoted-stays : (at : ℕ) → Stays (quoted_at s at)
  unfolding quoted_at
  quoted-stays at = by-test Stays (three_quotes s at) (λ e. triple-stays at) (λ e. body-stays (suc (length s)) (at + 1))

  -- ---- numbers

  -- an end, if there is one, is inside
  abbrev EndStays : Option ℕ → Type 0
  EndStays none = Unit {0}
  EndStays (some p) = p ≤ length s

  digits-stay : (at : ℕ) → at ≤ length s → after_digits s at ≤ length s
  unfolding after_digits
  digits-stay at h = skip-stays _ _ (length s) (λ p e. omega (arith, (digit-moves s p e).0)) (length s) at h

  int-stays : (at : ℕ) → EndStays (after_int s at)
  unfolding after_int
  int-stays at =
      by-test EndStays (eqb (byte_at s at) 48) (λ e. omega (arith, byte_inside s at 48 (omega arith) e)) (λ e.
      by-test EndStays (is_digit (byte_at s at)) (λ f. digits-stay (at + 1) (omega (arith, (digit-moves s at f).0))) (λ f. tt))

  fraction-stays : (at : ℕ) → at ≤ length s → after_fraction s at ≤ length s
  unfolding after_fraction
  fraction-stays at h =
      by-test (λ r. r ≤ length s) (eqb (byte_at s at) 46)
      (λ e. by-test (λ r. r ≤ length s) (is_digit (byte_at s (at + 1)))
      (λ f. digits-stay (at + 1) (omega (arith, (digit-moves s (at + 1) f).0))) (λ f. h))
      (λ e. h)

  exponent-stays : (at : ℕ) → at ≤ length s → after_exponent s at ≤ length s
  unfolding after_exponent
  exponent-stays at h =
      let digits = after_sign s (at + 1) in
      by-test (λ r. r ≤ length s) (eqb (byte_at s at) 69 || eqb (byte_at s at) 101)
      (λ e. by-test (λ r. r ≤ length s) (is_digit (byte_at s digits))
      (λ f. digits-stay digits (omega (arith, (digit-moves s digits f).0))) (λ f. h))
      (λ e. h)

  number-end-stays : (at : ℕ) → EndStays (after_number s at)
  unfolding after_number
  number-end-stays at = go _
    where
      go : (start : ℕ) → EndStays (elim (after_int s start) [ none ↦ none | some p ↦ some (after_exponent s (after_fraction s p)) ])
      go start =
          by-option EndStays (after_int s start) (λ e. tt) (λ p e.
          let h : p ≤ length s = rw e at (int-stays start) in
          exponent-stays (after_fraction s p) (fraction-stays p h))

  number-stays : (at : ℕ) → at ≤ length s → Stays (number_at s at)
  unfolding number_at
  number-stays at h = by-option Stays (after_number s at) (λ e. h) (λ end e. rw e at (number-end-stays at))

  -- ---- unquoted text, simple pieces

  -- a word that stands in the text ends in it
  word-stays : (word : Text) (at : ℕ) → at ≤ length s → starts_with word s at ≡ true → at + length word ≤ length s
  unfolding starts_with
  word-stays word at h e =
      let to = at + length word in
      let l : length (slice at to s) ≡ length word = rw (same-eq (slice at to s) word e) in
      omega (arith, length-drop at (take to s), length-take to s)

  unquoted-stays : (at : ℕ) → at ≤ length s → Stays (unquoted_at s at)
  unfolding unquoted_at unquoted_end
  unquoted-stays at h =
      by-test Stays (starts_with word_true s at) (λ e. word-stays word_true at h e) (λ e.
      by-test Stays (starts_with word_false s at) (λ f. word-stays word_false at h f) (λ f.
      by-test Stays (starts_with word_null s at) (λ g. word-stays word_null at h g) (λ g.
      skip-stays _ _ (length s) (λ p k. next-stays p) (length s) at h)))

  pub simple-stays : (at : ℕ) → at ≤ length s → Stays (simple_at s at)
  unfolding simple_at
  simple-stays at h =
      by-test Stays (eqb (byte_at s at) 34)
      (λ e. then-stays (quoted_at s at) _ (quoted-stays at) (λ t end k. k))
      (λ e. by-test Stays (is_digit (byte_at s at) || eqb (byte_at s at) 45) (λ f. number-stays at h) (λ f. unquoted-stays at h))

  -- ---- paths

  pub inline-stays : (at : ℕ) → at ≤ length s → after_inline s at ≤ length s
  unfolding after_inline
  inline-stays at h = skip-stays _ _ (length s) (λ p e. next-stays p) (length s) at h

  module _ (key : Bool) where
    segments-stay : (n from at : ℕ) → at ≤ length s → Stays (segments_from n key s from at)
    unfolding segments_from
    segments-stay zero from at h = omega arith
    segments-stay (suc n) from at h =
        by-test Stays (key && eqb (byte_at s at) 36) (λ e. h) (λ e.
        by-test Stays (starts_simple s at)
        (λ f. then-stays (simple_at s at) _ (simple-stays at h) (λ t end k.
        then-stays (segments_from n key s end (after_inline s end)) _ (segments-stay n end (after_inline s end) (inline-stays end k))
        (λ rest after l. l)))
        (λ f. h))

    pub segments-at-stay : (at : ℕ) → at ≤ length s → Stays (segments_at key s at)
    unfolding segments_at
    segments-at-stay at h = segments-stay (suc (length s)) at at h

  -- an element that is too many stands where elements do
  pub element-within : (at end : ℕ) (es : List Element) (i : ℕ) (x : Element) → Within at end es → get_elem? es i ≡ some x → x.place ≤ end
  element-within at end [] i x w e = clash (cc)
  element-within at end (y ∷ es) zero x w e = let q : y ≡ x = cc in rw (← q) w.1
  element-within at end (y ∷ es) (suc i) x w e = element-within at end es i x w.2 e

  judged-stays : {A : Type 0} (at allowed : ℕ) (es : List Element) (a : A) (end : ℕ) → end ≤ length s → Within at end es
      → Stays (judged (judge 0 allowed es) a end)
  unfolding judge
  judged-stays at allowed [] a end h w = omega arith
  judged-stays at allowed (e ∷ es) a end h w =
      by-test (λ o. Stays (judged o a end)) (any_empty (e ∷ es)) (λ f. omega arith) (λ f.
      by-option (λ o. Stays (judged o a end)) (get_elem? (e ∷ es) allowed)
      (λ g. h) (λ x g. omega (arith, element-within at end (e ∷ es) allowed x w g)))

  path-stays : Stays (path_text s)
  unfolding path_text
  path-stays =
      let start = after_inline s 0 in
      after-stays (segments_at false s start) _ (segments-at-stay false start (inline-stays 0 (omega arith))) (λ gs end e h.
      by-test Stays (ltb end (length s)) (λ f. h) (λ f.
      judged-stays start max_path (elements_of gs) _ end h (elements-within s false start gs end e)))

  -- a refusal of a path text has its place in the text, or at its end
  pub path-places : (x : Refusal) → path_text s ≡ refused x → place_of x ≤ length s
  path-places x e = rw e at path-stays

  -- ill-formed bytes begin inside the text
  pub ill-formed-place : (place : ℕ) → ill_formed s ≡ some place → place < length s
  unfolding ill_formed
  ill-formed-place place =
      by-test (λ o. o ≡ some place → place < length s) (ltb (well_formed_end s) (length s))
      (λ e f. let q : well_formed_end s ≡ place = cc in omega (arith, ltb-true (well_formed_end s) (length s) e)) (λ e f. clash (cc))

-- "(6 is not given there)": the numbers that reading a look-up's path text gives.
use Rattle.std.specs.Prelude.{◌≡◌, ◌||◌, leb, ltb, length}
use Rattle.std.proofs.Math.Path.{refl}
use Rattle.std.proofs.Common.{ap, ◌∙◌, inl, inr}
use Prim.Native.Nat.{ℕ, zero, suc, ◌+◌, ◌*◌}
use Rattle.std.proofs.Math.Bool.{false}
use mathlib.Core.List.{List, [], ◌∷◌}
use Rattle.std.proofs.Math.Dec.{eqb}
use Rattle.std.proofs.Math.ListN.{get_elem?}
use Rattle.answers.specs.Ask.{mem}
use Rattle.answers.specs.Theory.Sound.{clash, mem-cases}
use Rattle.rules.specs.Sizes.{max_path}
use Rattle.rules.specs.Bytes.{Text, byte_at}
use Rattle.rules.specs.Refusals.{Refusal, spent_fuel, number_of, Scan, ok, refused, and_then}
use Rattle.rules.specs.Characters.{next_place, after_inline}
use Rattle.rules.specs.Numbers.{is_digit, after_number}
use Rattle.rules.specs.Strings.{hex_digit, hex_from, expect, mate_of, unicode_escape, letter_escape, escape_at}
use Rattle.rules.specs.Strings.{prepend, body_from, three_quotes, is_low, is_high, quotes_run, quoted_at}
use Rattle.rules.specs.Pieces.{starts_simple, word_true, word_false, word_null, starts_with, unquoted_at, simple_at}
use Rattle.rules.specs.Paths.{segments_from, segments_at, Element, elements_of, any_empty, judge, judged, path_text}
use Rattle.theory_text.specs.Choices.{by-test, by-option}
use Rattle.theory.specs.Scanning.{Among, reading_numbers}
use Rattle.theory.specs.PathsEnd.{path-numbers}

abbrev pub path_numbers : List ℕ
path_numbers = 3 ∷ 4 ∷ 5 ∷ 7 ∷ 8 ∷ []

-- a refusal is by one of these; the number of fuel that runs out is not shut out here, but in module PathsEnd
abbrev Refuses : {A : Type 0} → Scan A → Type 0
Refuses (ok a end) = Unit {0}
Refuses (refused x) = Among (spent_fuel ∷ path_numbers) x

then-refuses : {A B : Type 0} (m : Scan A) (k : A → ℕ → Scan B) → Refuses m → ((a : A) (end : ℕ) → Refuses (k a end)) → Refuses (and_then m k)
then-refuses (ok a end) k h f = f a end
then-refuses (refused x) k h f = h

module _ (s : List ℕ) where
  hex-refuses : (n first so_far at : ℕ) → Refuses (hex_from n s first so_far at)
  unfolding hex_from
  hex-refuses zero first so_far at = tt
  hex-refuses (suc n) first so_far at =
      by-test Refuses (leb (length s) at) (λ e. refl) (λ e.
      by-option Refuses (hex_digit (byte_at s at)) (λ f. refl) (λ d f. hex-refuses n first (so_far * 16 + d) (at + 1)))

  expect-refuses : (b first at : ℕ) → Refuses (expect b s first at)
  unfolding expect
  expect-refuses b first at =
      by-test Refuses (leb (length s) at) (λ e. refl) (λ e. by-test Refuses (eqb (byte_at s at) b) (λ f. tt) (λ f. refl))

  mate-refuses : (first high at : ℕ) → Refuses (mate_of s first high at)
  unfolding mate_of
  mate-refuses first high at =
      then-refuses (expect 92 s first at) _ (expect-refuses 92 first at) (λ b p.
      then-refuses (expect 117 s first p) _ (expect-refuses 117 first p) (λ c q.
      then-refuses (hex_from 4 s first 0 q) _ (hex-refuses 4 first 0 q) (λ low end. by-test Refuses (is_low low) (λ e. tt) (λ e. refl))))

  unicode-refuses : (first at : ℕ) → Refuses (unicode_escape s first at)
  unfolding unicode_escape
  unicode-refuses first at =
      then-refuses (hex_from 4 s first 0 at) _ (hex-refuses 4 first 0 at) (λ unit p.
      by-test Refuses (is_low unit) (λ e. refl) (λ e. by-test Refuses (is_high unit) (λ f. mate-refuses first unit p) (λ f. tt)))

  escape-refuses : (at : ℕ) → Refuses (escape_at s at)
  unfolding escape_at
  escape-refuses at =
      by-test Refuses (leb (length s) (at + 1)) (λ e. refl) (λ e.
      by-option Refuses (letter_escape (byte_at s (at + 1)))
      (λ f. by-test Refuses (eqb (byte_at s (at + 1)) 117) (λ g. unicode-refuses at (at + 2)) (λ g. refl)) (λ b f. tt))

  prepend-refuses : (t : Text) (m : Scan Text) → Refuses m → Refuses (prepend t m)
  prepend-refuses t (ok u end) h = tt
  prepend-refuses t (refused x) h = h

  body-refuses : (n at : ℕ) → Refuses (body_from n s at)
  unfolding body_from
  body-refuses zero at = refl
  body-refuses (suc n) at =
      by-test Refuses (leb (length s) at) (λ e. refl) (λ e.
      by-test Refuses (eqb (byte_at s at) 34) (λ f. tt) (λ f.
      by-test Refuses (ltb (byte_at s at) 32) (λ g. refl) (λ g.
      by-test Refuses (eqb (byte_at s at) 92)
      (λ k. then-refuses (escape_at s at) _ (escape-refuses at) (λ t p. prepend-refuses t (body_from n s p) (body-refuses n p)))
      (λ k. prepend-refuses _ (body_from n s (next_place s at)) (body-refuses n (next_place s at))))))

  quoted-refuses : (at : ℕ) → Refuses (quoted_at s at)
  unfolding quoted_at
  quoted-refuses at =
      by-test Refuses (three_quotes s at)
      (λ e. by-test Refuses (ltb (quotes_run s (at + 3)) (length s)) (λ f. tt) (λ f. refl)) (λ e. body-refuses (suc (length s)) (at + 1))

  unquoted-refuses : (at : ℕ) → Refuses (unquoted_at s at)
  unfolding unquoted_at
  unquoted-refuses at =
      by-test Refuses (starts_with word_true s at) (λ e. tt) (λ e.
      by-test Refuses (starts_with word_false s at) (λ f. tt) (λ f. by-test Refuses (starts_with word_null s at) (λ g. tt) (λ g. tt)))

  simple-refuses : (at : ℕ) → Refuses (simple_at s at)
  unfolding simple_at
  simple-refuses at =
      by-test Refuses (eqb (byte_at s at) 34)
      (λ e. then-refuses (quoted_at s at) _ (quoted-refuses at) (λ t end. tt))
      (λ e. by-test Refuses (is_digit (byte_at s at) || eqb (byte_at s at) 45)
      (λ f. by-option Refuses (after_number s at) (λ g. refl) (λ end g. tt)) (λ f. unquoted-refuses at))

  -- outside a key no piece is refused for what it says
  segments-refuse : (n from at : ℕ) → Refuses (segments_from n false s from at)
  unfolding segments_from
  segments-refuse zero from at = refl
  segments-refuse (suc n) from at =
      by-test Refuses (starts_simple s at)
      (λ e. then-refuses (simple_at s at) _ (simple-refuses at) (λ t end.
      then-refuses (segments_from n false s end (after_inline s end)) _ (segments-refuse n end (after_inline s end)) (λ rest after. tt)))
      (λ e. tt)

  judged-refuses : {A : Type 0} (seven allowed : ℕ) (es : List Element) (a : A) (end : ℕ) → Refuses (judged (judge seven allowed es) a end)
  unfolding judge
  judged-refuses seven allowed [] a end = refl
  judged-refuses seven allowed (e ∷ es) a end =
      by-test (λ o. Refuses (judged o a end)) (any_empty (e ∷ es)) (λ f. refl) (λ f.
      by-option (λ o. Refuses (judged o a end)) (get_elem? (e ∷ es) allowed) (λ g. tt) (λ x g. refl))

  path-refuses : Refuses (path_text s)
  unfolding path_text segments_at
  path-refuses =
      then-refuses (segments_at false s (after_inline s 0)) _ (segments-refuse (suc (length s)) (after_inline s 0) (after_inline s 0)) (λ gs end.
      by-test Refuses (ltb end (length s)) (λ e. refl) (λ e. judged-refuses 0 max_path (elements_of gs) _ end))

  -- a path text is refused by 3, 4, 5, 7 or 8: never by 6 or 11, and its reading does not run out of fuel
  pub path-text-numbers : (x : Refusal) → path_text s ≡ refused x → Among path_numbers x
  path-text-numbers x e =
      elim (mem-cases spent_fuel path_numbers (number_of x) (rw e at path-refuses)) [
        | inl z ↦ clash (cc (ap (λ i. mem i reading_numbers) z ∙ path-numbers s x e))
        | inr h ↦ h
      ]

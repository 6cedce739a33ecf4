-- The parts that read strings, numbers, simple pieces and paths go forward, and what they refuse has one of the numbers of reading: none of
-- them runs out of fuel.
use Rattle.std.specs.Prelude.{◌≡◌, refl, true, false, ◌||◌, List, [], ◌∷◌, leb, ltb, length}
use Prim.Native.Nat.{ℕ, zero, suc, ◌+◌, ◌-◌, ◌*◌, ◌≤◌, ◌<◌}
use Rattle.std.proofs.Math.Option.{Option, none, some}
use Rattle.std.proofs.Common.{inl, inr, arith}
use Rattle.std.proofs.Math.Dec.{eqb}
use borrow.Author.Tests.{leb-false, not-true}
use Rattle.answers.specs.Ask.{mem}
use Rattle.answers.specs.Theory.Sound.{clash, All, mem-cases}
use Rattle.rules.specs.Bytes.{Text, byte_at}
use Rattle.rules.specs.Refusals.{Refusal, number_of, Scan, ok, refused, and_then}
use Rattle.rules.specs.Characters.{next_place}
use Rattle.rules.specs.Numbers.{is_digit, after_int, after_fraction, after_sign, after_exponent, after_number}
use Rattle.rules.specs.Strings.{hex_digit, hex_from, expect, mate_of, unicode_escape, letter_escape, escape_at, prepend, body_from, three_quotes, is_low, is_high, quotes_run, triple_at, quoted_at}
use Rattle.rules.specs.Pieces.{stops_unquoted, starts_simple, word_true, word_false, word_null, starts_with, unquoted_at, number_at, simple_at}
use Rattle.theory_text.specs.Choices.{by-test, by-option}
use Rattle.theory_text.specs.Places.{next-forward, byte_past, stops-past, inside, digits-reached, run-reached, quotes-reached, unquoted-forward}

-- a refusal's number is one of these
abbrev pub Among : List ℕ → Refusal → Type 0
Among ns x = mem (number_of x) ns ≡ true

pub among-some : (ns : List ℕ) → mem 0 ns ≡ false → (x : Refusal) → Among ns x → 1 ≤ number_of x
among-some ns h x m = go (number_of x) m
  where
    go : (n : ℕ) → mem n ns ≡ true → 1 ≤ n
    go zero e = clash (cc)
    go (suc n) e = omega arith

-- numbers among which are all of some list
pub among-all : (ns ms : List ℕ) → All (λ n. mem n ms ≡ true) ns → (q : ℕ) → mem q ns ≡ true → mem q ms ≡ true
among-all [] ms h q e = clash (cc)
among-all (n ∷ ns) ms h q e = elim (mem-cases n ns q e) [ inl z ↦ rw (← z) h.0 | inr k ↦ among-all ns ms h.1 q k ]

-- the numbers that reading a text gives
abbrev pub reading_numbers : List ℕ
reading_numbers = 3 ∷ 4 ∷ 5 ∷ 6 ∷ 7 ∷ 8 ∷ 11 ∷ []

abbrev pub Numbered : Refusal → Type 0
Numbered x = Among reading_numbers x

-- what is read has Q, or is refused by a number of reading
pub data Scans {A : Type 0} (Q : A → ℕ → Type 0) : Scan A → Type 0 where
  oks : {a : A} {end : ℕ} → Q a end → Scans Q (ok a end)
  scan-refuses : {x : Refusal} → Numbered x → Scans Q (refused x)

-- it ends at a place or behind it
abbrev pub From : {A : Type 0} → ℕ → A → ℕ → Type 0
From at a end = at ≤ end

pub to : {A : Type 0} {at end : ℕ} {a : A} → at ≤ end → Scans (From at) (ok a end)
to h = oks h

pub then-scans : {A B : Type 0} {P : A → ℕ → Type 0} {Q : B → ℕ → Type 0} {m : Scan A} {k : A → ℕ → Scan B}
    → Scans P m → ((a : A) (end : ℕ) → P a end → Scans Q (k a end)) → Scans Q (and_then m k)
then-scans (oks h) f = f _ _ h
then-scans (scan-refuses h) f = scan-refuses h

pub scan-refused : {A : Type 0} {Q : A → ℕ → Type 0} {x : Refusal} → Scans Q (refused x) → Numbered x
scan-refused (scan-refuses h) = h

pub scans-from : {A : Type 0} {p q : ℕ} {m : Scan A} → p ≤ q → Scans (From q) m → Scans (From p) m
scans-from h (oks k) = to (omega arith)
scans-from h (scan-refuses k) = scan-refuses k

-- ---- strings

module _ (s : List ℕ) where
  hex-scans : (n first so_far at : ℕ) → Scans (From at) (hex_from n s first so_far at)
  unfolding hex_from
  hex-scans zero first so_far at = to (omega arith)
  hex-scans (suc n) first so_far at =
      by-test (Scans (From at)) (leb (length s) at) (λ e. scan-refuses refl) (λ e.
      by-option (Scans (From at)) (hex_digit (byte_at s at)) (λ f. scan-refuses refl) (λ d f.
      scans-from (omega arith) (hex-scans n first (so_far * 16 + d) (at + 1))))

  expect-scans : (b first at : ℕ) → Scans (From at) (expect b s first at)
  unfolding expect
  expect-scans b first at =
      by-test (Scans (From at)) (leb (length s) at) (λ e. scan-refuses refl) (λ e.
      by-test (Scans (From at)) (eqb (byte_at s at) b) (λ f. to (omega arith)) (λ f. scan-refuses refl))

  mate-scans : (first high at : ℕ) → Scans (From at) (mate_of s first high at)
  unfolding mate_of
  mate-scans first high at =
      then-scans (expect-scans 92 first at) (λ b p h.
      then-scans (expect-scans 117 first p) (λ c q k.
      then-scans (hex-scans 4 first 0 q) (λ low end l.
      by-test (Scans (From at)) (is_low low) (λ e. to (omega arith)) (λ e. scan-refuses refl))))

  unicode-scans : (first at : ℕ) → Scans (From at) (unicode_escape s first at)
  unfolding unicode_escape
  unicode-scans first at =
      then-scans (hex-scans 4 first 0 at) (λ unit p h.
      by-test (Scans (From at)) (is_low unit) (λ e. scan-refuses refl) (λ e.
      by-test (Scans (From at)) (is_high unit) (λ f. scans-from h (mate-scans first unit p)) (λ f. to h)))

  escape-scans : (at : ℕ) → Scans (From (suc at)) (escape_at s at)
  unfolding escape_at
  escape-scans at =
      by-test (Scans (From (suc at))) (leb (length s) (at + 1)) (λ e. scan-refuses refl) (λ e.
      by-option (Scans (From (suc at))) (letter_escape (byte_at s (at + 1)))
      (λ f. by-test (Scans (From (suc at))) (eqb (byte_at s (at + 1)) 117)
      (λ g. scans-from (omega arith) (unicode-scans at (at + 2))) (λ g. scan-refuses refl))
      (λ b f. to (omega arith)))

  prepend-scans : {at : ℕ} (t : Text) {m : Scan Text} → Scans (From at) m → Scans (From at) (prepend t m)
  prepend-scans t (oks h) = to h
  prepend-scans t (scan-refuses h) = scan-refuses h

  -- the fuel is enough: a body that goes on stands inside the text
  body-scans : (n at : ℕ) → length s - at < n → Scans (From at) (body_from n s at)
  unfolding body_from
  body-scans zero at h = absurd (omega arith)
  body-scans (suc n) at h =
      by-test (Scans (From at)) (leb (length s) at) (λ e. scan-refuses refl) (λ e.
      let i = leb-false (length s) at e in
      by-test (Scans (From at)) (eqb (byte_at s at) 34) (λ f. to (omega arith)) (λ f.
      by-test (Scans (From at)) (ltb (byte_at s at) 32) (λ g. scan-refuses refl) (λ g.
      by-test (Scans (From at)) (eqb (byte_at s at) 92)
      (λ k. then-scans (escape-scans at) (λ t p l. prepend-scans t (scans-from (omega arith) (body-scans n p (omega arith)))))
      (λ k. let l = next-forward s at i in prepend-scans _ (scans-from (omega arith) (body-scans n (next_place s at) (omega arith)))))))

  triple-scans : (at : ℕ) → Scans (From (suc at)) (triple_at s at)
  unfolding triple_at
  triple-scans at =
      let run = quotes_run s (at + 3) in
      by-test (Scans (From (suc at))) (ltb run (length s))
      (λ e. to (omega (arith, (run-reached s (at + 3)).0, (quotes-reached s run).0))) (λ e. scan-refuses refl)

  quoted-scans : (at : ℕ) → Scans (From (suc at)) (quoted_at s at)
  unfolding quoted_at
  quoted-scans at =
      by-test (Scans (From (suc at))) (three_quotes s at)
      (λ e. triple-scans at) (λ e. scans-from (omega arith) (body-scans (suc (length s)) (at + 1) (omega arith)))

-- ---- numbers and simple pieces

-- an end, if there is one, is behind a place
abbrev Later : ℕ → Option ℕ → Type 0
Later at none = Unit {0}
Later at (some end) = at < end

module _ (s : List ℕ) where
  int-later : (at : ℕ) → Later at (after_int s at)
  unfolding after_int
  int-later at =
      by-test (Later at) (eqb (byte_at s at) 48) (λ e. omega arith) (λ e.
      by-test (Later at) (is_digit (byte_at s at)) (λ f. omega (arith, (digits-reached s (at + 1)).0)) (λ f. tt))

  fraction-forward : (at : ℕ) → at ≤ after_fraction s at
  unfolding after_fraction
  fraction-forward at =
      by-test (λ r. at ≤ r) (eqb (byte_at s at) 46)
      (λ e. by-test (λ r. at ≤ r) (is_digit (byte_at s (at + 1))) (λ f. omega (arith, (digits-reached s (at + 1)).0)) (λ f. omega arith))
      (λ e. omega arith)

  sign-forward : (at : ℕ) → at ≤ after_sign s at
  unfolding after_sign
  sign-forward at = by-test (λ r. at ≤ r) (eqb (byte_at s at) 43 || eqb (byte_at s at) 45) (λ e. omega arith) (λ e. omega arith)

  exponent-forward : (at : ℕ) → at ≤ after_exponent s at
  unfolding after_exponent
  exponent-forward at =
      let digits = after_sign s (at + 1) in
      by-test (λ r. at ≤ r) (eqb (byte_at s at) 69 || eqb (byte_at s at) 101)
      (λ e. by-test (λ r. at ≤ r) (is_digit (byte_at s digits))
      (λ f. omega (arith, sign-forward (at + 1), (digits-reached s digits).0)) (λ f. omega arith))
      (λ e. omega arith)

  number-later : (at : ℕ) → Later at (after_number s at)
  unfolding after_number
  number-later at = go _ (by-test (λ r. at ≤ r) (eqb (byte_at s at) 45) (λ e. omega arith) (λ e. omega arith))
    where
      go : (start : ℕ) → at ≤ start → Later at (elim (after_int s start) [ none ↦ none | some p ↦ some (after_exponent s (after_fraction s p)) ])
      go start h =
          by-option (Later at) (after_int s start) (λ e. tt) (λ p e.
          let i = rw e at (int-later start) in
          omega (arith, fraction-forward p, exponent-forward (after_fraction s p)))

  number-scans : (at : ℕ) → Scans (From (suc at)) (number_at s at)
  unfolding number_at
  number-scans at = by-option (Scans (From (suc at))) (after_number s at) (λ e. scan-refuses refl) (λ end e. to (rw e at (number-later at)))

  unquoted-scans : (at : ℕ) → stops_unquoted s at ≡ false → Scans (From (suc at)) (unquoted_at s at)
  unfolding unquoted_at
  unquoted-scans at h =
      by-test (Scans (From (suc at))) (starts_with word_true s at) (λ e. to (omega arith)) (λ e.
      by-test (Scans (From (suc at))) (starts_with word_false s at) (λ f. to (omega arith)) (λ f.
      by-test (Scans (From (suc at))) (starts_with word_null s at) (λ g. to (omega arith)) (λ g. to (unquoted-forward s at h))))

  pub simple-inside : (at : ℕ) → starts_simple s at ≡ true → at < length s
  unfolding starts_simple
  simple-inside at = inside s at (λ past. rw (byte_past s at past, stops-past s at past, starts_simple))

  pub simple-scans : (at : ℕ) → starts_simple s at ≡ true → Scans (From (suc at)) (simple_at s at)
  unfolding simple_at starts_simple
  simple-scans at h =
      by-test (Scans (From (suc at))) (eqb (byte_at s at) 34)
      (λ e. then-scans (quoted-scans s at) (λ t end k. to k))
      (λ e. by-test (Scans (From (suc at))) (is_digit (byte_at s at) || eqb (byte_at s at) 45)
      (λ f. number-scans at) (λ f. unquoted-scans at (not-true _ (rw (e, starts_simple) at h))))

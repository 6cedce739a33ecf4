-- Each part of reading that is a `skip`: it never goes back, and it ends where its test fails. Nothing passes past the end of the text.
use Rattle.std.specs.Prelude.{◌≡◌, Bool, ◌&&◌, ◌||◌, List, ◌⊎◌, leb, ltb, length}
use Rattle.std.proofs.Math.Path.{refl}
use Prim.Native.Nat.{ℕ, zero, suc, ◌+◌, ◌-◌, ◌≤◌, ◌<◌, min}
use Rattle.std.proofs.Math.Bool.{true, false, not}
use Rattle.std.proofs.Math.Logic.{inl, inr}
use Rattle.std.proofs.Common.{arith, leb-true, leb-false, ltb-true, lt-ltb, le-ltb, eqb-true, ne_eqb}
use Rattle.std.proofs.Math.Dec.{eqb}
use Rattle.std.proofs.Math.ListN.{get_or-eq_default}
use Rattle.answers.specs.Theory.Sound.{clash}
use Rattle.rules.specs.Bytes.{byte_at}
use Rattle.rules.specs.Utf8.{sequence_at, well_formed_end}
use Rattle.rules.specs.Characters.{no_character, width_of, next_place, character_at, is_newline, is_space, is_inline, starts_comment, after_inline, line_end, Gap, gap_from, gap_at}
use Rattle.rules.specs.Numbers.{is_digit, after_digits}
use Rattle.rules.specs.Strings.{three_quotes, quotes_run, after_quotes}
use Rattle.rules.specs.Pieces.{stops_unquoted, unquoted_end}
use Rattle.theory_text.specs.Choices.{by-test, same_test}
use Rattle.theory_text.specs.Skips.{Reached, skip-moves, skip-reaches}

pub next-forward : (s : List ℕ) (at : ℕ) → at < length s → at < next_place s at
unfolding next_place width_of
next-forward s at h =
    let b = byte_at s at in
    by-test (λ w. at < min (at + w) (length s)) (ltb b 128) (λ e. omega arith) (λ e.
    by-test (λ w. at < min (at + w) (length s)) (ltb b 224) (λ e. omega arith) (λ e.
    by-test (λ w. at < min (at + w) (length s)) (ltb b 240) (λ e. omega arith) (λ e. omega arith)))

-- ---- past the end

module _ (s : List ℕ) (p : ℕ) (past : length s ≤ p) where
  pub byte_past : byte_at s p ≡ 256
  byte_past = get_or-eq_default s 256 past

  pub character-past : character_at s p ≡ no_character
  unfolding character_at
  character-past = rw (byte_past, byte_past, byte_past, byte_past, character_at)

  pub comment-past : starts_comment s p ≡ false
  unfolding starts_comment
  comment-past = rw (byte_past, byte_past, starts_comment)

  pub stops-past : stops_unquoted s p ≡ true
  unfolding stops_unquoted
  stops-past = simp (character-past, stops_unquoted)

  pub sequence-past : sequence_at s p ≡ 0
  unfolding sequence_at
  sequence-past = simp (byte_past, sequence_at)

-- what fails past the end and passes stands inside
pub inside : (s : List ℕ) (p : ℕ) {t : Bool} → (length s ≤ p → t ≡ false) → t ≡ true → p < length s
inside s p {t} f e = go (leb (length s) p) refl
  where
    go : (u : Bool) → leb (length s) p ≡ u → p < length s
    go true h = clash (cc (f (leb-true (length s) p h)))
    go false h = leb-false (length s) p h

pub byte_inside : (s : List ℕ) (p b : ℕ) → b < 256 → eqb (byte_at s p) b ≡ true → p < length s
byte_inside s p b h e = inside s p (λ past. rw (byte_past s p past) (ne_eqb 256 b (λ q. omega arith))) e

-- ---- the parts that are a `skip`

module _ (s : List ℕ) where
  -- a test of the character, or of the byte, at a place
  unread : (f : ℕ → Bool) → f no_character ≡ false → (p : ℕ) → f (character_at s p) ≡ true → (p < length s) × (p < next_place s p)
  unread f none p e = let h = inside s p (λ past. rw (character-past s p past) none) e in (h, next-forward s p h)

  pub inline-moves : (p : ℕ) → is_inline (character_at s p) ≡ true → (p < length s) × (p < next_place s p)
  inline-moves = unread is_inline refl

  pub space-moves : (p : ℕ) → is_space (character_at s p) ≡ true → (p < length s) × (p < next_place s p)
  space-moves = unread is_space refl

  pub digit-moves : (p : ℕ) → is_digit (byte_at s p) ≡ true → (p < length s) × (p < p + 1)
  digit-moves p e = (inside s p (λ past. rw (byte_past s p past)) e, omega arith)

  pub line-moves : (p : ℕ) → not (is_newline (character_at s p) || eqb (character_at s p) no_character) ≡ true → (p < length s) × (p < next_place s p)
  line-moves = unread (λ c. not (is_newline c || eqb c no_character)) refl

  pub run-moves : (p : ℕ) → (ltb p (length s) && not (three_quotes s p)) ≡ true → (p < length s) × (p < next_place s p)
  run-moves p e = let h = inside s p (λ past. rw (le-ltb p (length s) past)) e in (h, next-forward s p h)

  pub quote-moves : (p : ℕ) → eqb (byte_at s p) 34 ≡ true → (p < length s) × (p < p + 1)
  quote-moves p e = (inside s p (λ past. rw (byte_past s p past)) e, omega arith)

  pub unquoted-moves : (p : ℕ) → not (stops_unquoted s p) ≡ true → (p < length s) × (p < next_place s p)
  unquoted-moves p e = let h = inside s p (λ past. rw (stops-past s p past)) e in (h, next-forward s p h)

  pub sequence-moves : (p : ℕ) → ltb 0 (sequence_at s p) ≡ true → (p < length s) × (p < p + sequence_at s p)
  sequence-moves p e = (inside s p (λ past. rw (sequence-past s p past)) e, omega (arith, ltb-true 0 (sequence_at s p) e))

  module _ (at : ℕ) where
    enough : length s - at ≤ length s
    enough = omega arith

    pub inline-reached : Reached (λ p. is_inline (character_at s p)) at (after_inline s at)
    unfolding after_inline
    inline-reached = skip-reaches _ _ (length s) inline-moves (length s) at enough

    pub line-reached : Reached (λ p. not (is_newline (character_at s p) || eqb (character_at s p) no_character)) at (line_end s at)
    unfolding line_end
    line-reached = skip-reaches _ _ (length s) line-moves (length s) at enough

    pub digits-reached : Reached (λ p. is_digit (byte_at s p)) at (after_digits s at)
    unfolding after_digits
    digits-reached = skip-reaches _ _ (length s) digit-moves (length s) at enough

    pub run-reached : Reached (λ p. ltb p (length s) && not (three_quotes s p)) at (quotes_run s at)
    unfolding quotes_run
    run-reached = skip-reaches _ _ (length s) run-moves (length s) at enough

    pub quotes-reached : Reached (λ p. eqb (byte_at s p) 34) at (after_quotes s at)
    unfolding after_quotes
    quotes-reached = skip-reaches _ _ (length s) quote-moves (length s) at enough

    pub unquoted-reached : Reached (λ p. not (stops_unquoted s p)) at (unquoted_end s at)
    unfolding unquoted_end
    unquoted-reached = skip-reaches _ _ (length s) unquoted-moves (length s) at enough

    -- unquoted text that begins is not empty
    pub unquoted-forward : stops_unquoted s at ≡ false → at < unquoted_end s at
    unfolding unquoted_end
    unquoted-forward e =
        let t : not (stops_unquoted s at) ≡ true = rw e in
        skip-moves _ _ (length s) unquoted-moves (length s) at (omega (arith, (unquoted-moves at t).0)) t

  pub formed-reached : Reached (λ p. ltb 0 (sequence_at s p)) 0 (well_formed_end s)
  unfolding well_formed_end
  formed-reached = skip-reaches _ _ (length s) sequence-moves (length s) 0 (omega arith)

-- ---- comments and gaps

module _ (s : List ℕ) where
  ascii : (p : ℕ) → byte_at s p < 128 → character_at s p ≡ byte_at s p
  unfolding character_at
  ascii p h = rw (lt-ltb (byte_at s p) 128 h, character_at)

  comment-byte : (p : ℕ) → starts_comment s p ≡ true → (byte_at s p ≡ 35) ⊎ (byte_at s p ≡ 47)
  unfolding starts_comment
  comment-byte p =
      by-test (λ r. r ≡ true → (byte_at s p ≡ 35) ⊎ (byte_at s p ≡ 47)) (eqb (byte_at s p) 35) (λ e h. inl (eqb-true _ _ e)) (λ e.
      by-test (λ r. r ≡ true → (byte_at s p ≡ 35) ⊎ (byte_at s p ≡ 47)) (eqb (byte_at s p) 47) (λ e₁ h. inr (eqb-true _ _ e₁)) (λ e₁ h. clash (cc)))

  -- a comment is not empty
  pub comment-forward : (at : ℕ) → starts_comment s at ≡ true → (at < length s) × (at < line_end s at)
  unfolding line_end
  comment-forward at c =
      let i = inside s at (comment-past s at) c in
      (i, skip-moves _ _ (length s) (line-moves s) (length s) at (omega arith) (go (comment-byte at c)))
    where
      go : (byte_at s at ≡ 35) ⊎ (byte_at s at ≡ 47) → not (is_newline (character_at s at) || eqb (character_at s at) no_character) ≡ true
      go (inl b) = rw (ascii at (omega arith), b)
      go (inr b) = rw (ascii at (omega arith), b)

  -- where a gap ends neither whitespace nor a comment begins
  pub record Closed (at : ℕ) (g : Gap) : Type 0 where
    pub forward : at ≤ g.place
    pub no_space : is_space (character_at s g.place) ≡ false
    pub no_comment : starts_comment s g.place ≡ false

  before : {p at : ℕ} {g : Gap} → p < at → Closed at g → Closed p g
  before h c = record { forward = omega (arith, c.forward); no_space = c.no_space; no_comment = c.no_comment }

  space-inside : (p : ℕ) → is_space (character_at s p) ≡ true → (p < length s) × (p < next_place s p)
  space-inside = unread s is_space refl

  gap-closed : (n at : ℕ) (newline : Bool) → length s - at ≤ n → Closed at (gap_from n s at newline)
  unfolding gap_from
  gap-closed zero at newline h = record {
    forward = omega arith;
    no_space = rw (character-past s at (omega arith));
    no_comment = comment-past s at (omega arith);
  }
  gap-closed (suc n) at newline h =
      by-test (Closed at) (is_space (character_at s at))
      (λ e. let m = space-inside at e in before m.1 (gap-closed n (next_place s at) _ (omega arith)))
      (λ e. by-test (Closed at) (starts_comment s at)
      (λ c. let m = comment-forward at c in before m.1 (gap-closed n (line_end s at) _ (omega arith)))
      (λ c. record { forward = omega arith; no_space = e; no_comment = c }))

  pub gap-reached : (at : ℕ) → Closed at (gap_at s at)
  unfolding gap_at
  gap-reached at = gap-closed (length s) at false (omega arith)

  pub gap-stable : (n m at : ℕ) (newline : Bool) → length s - at ≤ n → length s - at ≤ m → gap_from n s at newline ≡ gap_from m s at newline
  unfolding gap_from
  gap-stable zero zero at newline h k = refl
  gap-stable zero (suc m) at newline h k = rw (character-past s at (omega arith), comment-past s at (omega arith), gap_from)
  gap-stable (suc n) zero at newline h k = rw (character-past s at (omega arith), comment-past s at (omega arith), gap_from)
  gap-stable (suc n) (suc m) at newline h k =
      same_test (is_space (character_at s at))
      (λ e. let i = space-inside at e in gap-stable n m (next_place s at) _ (omega arith) (omega arith))
      (λ e. same_test (starts_comment s at)
      (λ c. let i = comment-forward at c in gap-stable n m (line_end s at) _ (omega arith) (omega arith)) (λ c. refl))

-- What stands at a place, and its byte: an ASCII character is one byte, and no other character looks like one.
use Rattle.std.specs.Prelude.{◌≡◌, refl, Bool, true, false, List, [], ◌∷◌, ℕ, zero, suc, ◌+◌, ◌≤◌, ◌<◌, get_or, ltb, eqb, Option, Some, None, unwrap_or}
use Rattle.std.proofs.Math.Path.{sym, ap}
use Rattle.std.proofs.Common.{◌∙◌, arith}
use Rattle.std.proofs.Math.ListN.{length}
use borrow.Author.Tests.{lt-ltb, ltb-true, ltb-false, le-leb, lt-leb, eq-eqb, ne_eqb}
use Rattle.answers.specs.Theory.Sound.{clash}
use Rattle.rules.specs.Bytes.{byte_at}
use Rattle.rules.specs.Characters.{no_character, width_of, next_place, of_several, character_at, is_space}
use Rattle.theory_text.specs.Choices.{by-test}
use Rattle.theory_text.specs.Places.{byte_past, character-past}
use Rattle.text_chars.specs.Cursor.{cur, step_at, StepIs}
use Rattle.text_chars.specs.declared.Cursor.{Cursor}
use Rattle.text_chars.specs.declared.Step.{Step}
use Rattle.text_scan.specs.Scan.{SeenIs}

-- ---- looking

abbrev beyond : Cursor → Step
beyond c = record { ch = no_character; next = c }

module _ {s : List ℕ} {at : ℕ} {r : Option Step} (h : StepIs s at r) where
  pub seen-char : {t : Step} → r ≡ Some t → SeenIs s at t
  unfolding step_at
  seen-char {t} e =
      let m : (at < length s) × (at < t.next.at.0) × (t.next.at.0 ≤ length s) = rw e at h.moved in
      let q = rw (lt-ltb at (length s) m.0) at (sym e ∙ h.is) in
      let i : t ≡ record { ch = character_at s at; next = cur (next_place s at) } = cc in
      record { is = ap (λ (z : Step). z.ch) i; next = ap (λ (z : Step). z.next.at.0) i; forward = omega arith; inside = m.2 }

  pub seen_end : {c : Cursor} → r ≡ None → at ≡ c.at.0 → c.at.0 ≤ length s → SeenIs s at (beyond c)
  unfolding next_place
  seen_end {c} e i l =
      let m : length s ≤ at = rw e at h.moved in
      record { is = sym (character-past s at m); next = omega arith; forward = omega arith; inside = l }

module _ {s : List ℕ} {c : Cursor} (l : c.at.0 ≤ length s) where
  pub seen_at : (r : Option Step) {q : Step} → StepIs s c.at.0 r → q ≡ unwrap_or r (beyond c) → SeenIs s c.at.0 q
  seen_at (Some t) h e = rw e (seen-char h refl)
  seen_at None h e = rw e (seen_end h refl refl l)

pub ruleset looks = (seen-char, seen_end)

-- ---- a character and its byte

-- the character at a place is its byte, or neither is ASCII
pub record Agree (byte ch : ℕ) : Type 0 where
  pub low : ch < 128 → byte ≡ ch
  pub high : 128 ≤ ch → 128 ≤ byte

several : (c : ℕ) → 128 ≤ of_several c
several c = omega arith

module _ (s : List ℕ) (at : ℕ) where
  pub agree : Agree (byte_at s at) (character_at s at)
  unfolding character_at
  agree =
      let b = byte_at s at in
      by-test (Agree b) (ltb b 128) (λ e. record { low = λ h. refl; high = λ h. h }) (λ e.
      let n : 128 ≤ b = ltb-false b 128 e in
      by-test (Agree b) (ltb b 224) (λ _. two n _ (several _)) (λ _.
      by-test (Agree b) (ltb b 240) (λ _. two n _ (several _)) (λ _.
      by-test (Agree b) (ltb b 256) (λ _. two n _ (several _)) (λ _. two n no_character (omega arith)))))
    where
      two : 128 ≤ byte_at s at → (c : ℕ) → 128 ≤ c → Agree (byte_at s at) c
      two n c h = record { low = λ k. absurd (omega arith); high = λ k. n }

-- inside a text what is said past its end does not matter
pub get_d_any : (s : List ℕ) (at a b : ℕ) → at < length s → get_or s at a ≡ get_or s at b
get_d_any [] at a b h = absurd (omega arith)
get_d_any (x ∷ s) zero a b h = refl
get_d_any (x ∷ s) (suc at) a b h = get_d_any s at a b (omega arith)

pub byte_next : (s : List ℕ) (at : ℕ) → byte_at s at < 128 → next_place s at ≡ at + 1
unfolding next_place width_of
byte_next s at h = go (ltb at (length s)) refl
  where
    go : (u : Bool) → ltb at (length s) ≡ u → next_place s at ≡ at + 1
    go true e =
        let w : width_of (byte_at s at) ≡ 1 = rw (lt-ltb (byte_at s at) 128 h, width_of) in
        omega (arith, w, ltb-true at (length s) e)
    go false e = absurd (omega (arith, byte_past s at (ltb-false at (length s) e)))

-- no visible ASCII character is whitespace
pub visible : (c : ℕ) → 32 < c → c < 128 → is_space c ≡ false
visible c h k =
    rw (
      le-leb 9 c (omega arith),
      lt-leb c 13 (omega arith),
      le-leb 28 c (omega arith),
      lt-leb c 31 (omega arith),
      ne_eqb c 32 (λ e. omega arith),
      ne_eqb c 160 (λ e. omega arith),
      ne_eqb c 5760 (λ e. omega arith),
      lt-leb 8192 c (omega arith),
      lt-leb 8232 c (omega arith),
      ne_eqb c 8239 (λ e. omega arith),
      ne_eqb c 8287 (λ e. omega arith),
      ne_eqb c 12288 (λ e. omega arith),
      ne_eqb c 65279 (λ e. omega arith),
    )

-- a test that only ASCII characters pass
abbrev pub Ascii : (ℕ → Bool) → Type 0
Ascii t = (n : ℕ) → 128 ≤ n → t n ≡ false

pub passes-low : (t : ℕ → Bool) → Ascii t → (n : ℕ) → t n ≡ true → n < 128
passes-low t f n e = go (ltb n 128) refl
  where
    go : (u : Bool) → ltb n 128 ≡ u → n < 128
    go true h = ltb-true n 128 h
    go false h = clash (cc (f n (ltb-false n 128 h)))

module _ {s : List ℕ} {at : ℕ} {r : Step} (k : SeenIs s at r) where
  seen-agree : Agree (byte_at s at) r.ch
  seen-agree = rw k.is (agree s at)

  -- a test that only an ASCII character passes says the same of the byte
  pub byte-test : (t : ℕ → Bool) → Ascii t → t (byte_at s at) ≡ t r.ch
  byte-test t f = go (ltb r.ch 128) refl
    where
      go : (u : Bool) → ltb r.ch 128 ≡ u → t (byte_at s at) ≡ t r.ch
      go true e = ap t (seen-agree.low (ltb-true r.ch 128 e))
      go false e = let h = ltb-false r.ch 128 e in f (byte_at s at) (seen-agree.high h) ∙ sym (f r.ch h)

  pub byte-eqb : (b : ℕ) → b < 128 → eqb (byte_at s at) b ≡ eqb r.ch b
  byte-eqb b h = byte-test (λ n. eqb n b) (λ n l. ne_eqb n b (λ e. omega arith))

  pub is_byte : (b : ℕ) → b < 128 → r.ch ≡ b → eqb (byte_at s at) b ≡ true
  is_byte b h e = byte-eqb b h ∙ eq-eqb r.ch b e

  pub not_byte : (b : ℕ) → b < 128 → (r.ch ≡ b → ⊥) → eqb (byte_at s at) b ≡ false
  not_byte b h n = byte-eqb b h ∙ ne_eqb r.ch b n

  pub ascii-next : r.ch < 128 → r.next.at.0 ≡ at + 1
  ascii-next h = k.next ∙ byte_next s at (omega (arith, seen-agree.low h))

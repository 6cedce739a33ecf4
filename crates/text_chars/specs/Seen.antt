-- What a step tells of the bytes at a place: facts for code that reads characters where the rules test bytes.
use Rattle.std.specs.Prelude.{◌≡◌, refl, Bool, List, ℕ, ◌+◌, ◌≤◌, ◌<◌, eqb, length, Option, Some, None}
use Rattle.std.proofs.Math.Path.{sym, ap}
use Rattle.std.proofs.Common.{◌∙◌, arith}
use Rattle.std.proofs.Math.Bool.{true, false}
use Rattle.std.proofs.Math.Dec.{ltb}
use borrow.Author.Tests.{lt-ltb, le-ltb, eq-eqb, ne_eqb, ltb-true, ltb-false}
use Rattle.rules.specs.Bytes.{byte_at}
use Rattle.rules.specs.Characters.{character_at, next_place}
use Rattle.theory_text.specs.Ascii.{ascii-byte, ascii-character, ascii-next}
use Rattle.text_chars.specs.Cursor.{cur, step_at, StepMoved, StepIs}
use Rattle.text_chars.specs.declared.Step.{Step}

-- the character that a step saw, by its byte, and the place after it
pub record Seen (s : List ℕ) (at ch p : ℕ) : Type 0 where
  pub within : at < length s
  pub past : p ≡ next_place s at
  pub forward : at < p
  pub inside : p ≤ length s
  pub low : ch < 128 → byte_at s at ≡ ch
  pub one : ch < 128 → p ≡ at + 1
  pub high : 128 ≤ ch → 128 ≤ byte_at s at

module _ {s : List ℕ} {at : ℕ} {r : Option Step} (h : StepIs s at r) where
  pub seen : {t : Step} → r ≡ Some t → Seen s at t.ch t.next.at.0
  unfolding step_at
  seen {t} e =
      let m : StepMoved (length s) at (Some t) = rw e at h.moved in
      let here : Step = record { ch = character_at s at; next = cur (next_place s at) } in
      let q : step_at s at ≡ Some here = rw (lt-ltb at (length s) m.0, step_at) in
      let d : t ≡ here = cc in
      let i : t.ch ≡ character_at s at = ap (λ (x : Step). x.ch) d in
      let j : t.next.at.0 ≡ next_place s at = ap (λ (x : Step). x.next.at.0) d in
      record {
        within = m.0;
        past = j;
        forward = m.1;
        inside = m.2;
        low = λ k. ascii-byte s at (omega arith) ∙ sym i;
        one = λ k. j ∙ ascii-next s at m.0 (omega (arith, ascii-byte s at (omega arith)));
        high = λ k. far i k (ltb (byte_at s at) 128) refl;
      }
    where
      far : {ch : ℕ} → ch ≡ character_at s at → 128 ≤ ch → (b : Bool) → ltb (byte_at s at) 128 ≡ b → 128 ≤ byte_at s at
      far i k true e = absurd (omega (arith, ascii-character s at (ltb-true (byte_at s at) 128 e), ltb-true (byte_at s at) 128 e))
      far i k false e = ltb-false (byte_at s at) 128 e

  pub at-end : r ≡ None → length s ≤ at
  at-end e = rw e at h.moved

-- what tells no byte from 128 on from another may be asked of the character
pub same_seen : {A : Type 0} (f : ℕ → A) (a : A) → ((b : ℕ) → 128 ≤ b → f b ≡ a)
    → {s : List ℕ} {at ch p : ℕ} → Seen s at ch p → f (byte_at s at) ≡ f ch
same_seen f a none {s} {at} {ch} z = go (ltb ch 128) refl
  where
    go : (t : Bool) → ltb ch 128 ≡ t → f (byte_at s at) ≡ f ch
    go true e = rw (z.low (ltb-true ch 128 e))
    go false e = let k = ltb-false ch 128 e in none (byte_at s at) (z.high k) ∙ sym (none ch k)

-- tests of a byte against an ASCII one, by the character
module _ {s : List ℕ} {at ch p : ℕ} (z : Seen s at ch p) (b : ℕ) (l : b < 128) where
  pub seen-eq : ch ≡ b → eqb (byte_at s at) b ≡ true
  seen-eq e = eq-eqb (byte_at s at) b (z.low (omega arith) ∙ e)

  pub seen-ne : (ch ≡ b → ⊥) → eqb (byte_at s at) b ≡ false
  seen-ne n = go (ltb ch 128) refl
    where
      go : (t : Bool) → ltb ch 128 ≡ t → eqb (byte_at s at) b ≡ false
      go true e = ne_eqb (byte_at s at) b (λ k. n (sym (z.low (ltb-true ch 128 e)) ∙ k))
      go false e = ne_eqb (byte_at s at) b (λ k. let i = z.high (ltb-false ch 128 e) in omega arith)

  pub seen-lt : ch < b → ltb (byte_at s at) b ≡ true
  seen-lt h = let e = z.low (omega arith) in lt-ltb (byte_at s at) b (omega arith)

  pub seen-ge : b ≤ ch → ltb (byte_at s at) b ≡ false
  seen-ge h = go (ltb ch 128) refl
    where
      go : (t : Bool) → ltb ch 128 ≡ t → ltb (byte_at s at) b ≡ false
      go true e = let i = z.low (ltb-true ch 128 e) in le-ltb (byte_at s at) b (omega arith)
      go false e = let i = z.high (ltb-false ch 128 e) in le-ltb (byte_at s at) b (omega arith)

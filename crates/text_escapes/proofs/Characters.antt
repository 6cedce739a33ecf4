-- One certain character, and what the letter of an escape stands for: one law for each answer.
use mathlib.Core.Path.{◌≡◌, refl, sym, ap}
use mathlib.Core.List.{List}
use mathlib.Core.Option.{none, some}
use Rattle.std.specs.Prelude.{Option, Some, None, Ok, Err}
use Prim.Native.Nat.{ℕ, ◌+◌, ◌≤◌, ◌<◌}
use native.Mathlib.Omega.{arith}
use lib.ListN.{length}
use borrow.Author.Tests.{le-leb, lt-leb, ne_eqb}
use Rattle.rules.specs.Bytes.{byte_at}
use Rattle.rules.specs.Refusals.{ok}
use Rattle.rules.specs.Strings.{expect, letter_escape}
use Rattle.text_chars.specs.Cursor.{doc, refusal, StepIs}
use Rattle.text_chars.specs.Seen.{Seen, seen, at-end, seen-eq, seen-ne, same_seen}
use Rattle.text_chars.specs.declared.DocAt.{DocAt}
use Rattle.text_chars.specs.declared.Step.{Step}
use Rattle.text_escapes.specs.Clauses.{LetterIs, ExpectIs}

-- ---- one certain character

module _ {s : List ℕ} {at b : ℕ} {r : Option Step} (h : StepIs s at r) where
  pub expect-end : {first : ℕ} → r ≡ None → ExpectIs b s first at (Err (refusal 4 (doc (length s))))
  unfolding expect
  expect-end e = record { is = rw (le-leb (length s) at (at-end h e), expect); far = tt }

  module _ {t : Step} (l : b < 128) (e : r ≡ Some t) where
    pub expect-found : {first : ℕ} → t.ch ≡ b → ExpectIs b s first at (Ok t.next)
    unfolding expect
    expect-found i =
        let z = seen h e in
        let o : t.next.at.0 ≡ at + 1 = z.one (omega arith) in
        record { is = rw (lt-leb (length s) at z.within, seen-eq z b l i, expect) (ap (ok b) (sym o)); far = (o, z.inside) }

    pub expect-other : {first : DocAt} → (t.ch ≡ b → ⊥) → ExpectIs b s first.0 at (Err (refusal 5 first))
    unfolding expect
    expect-other n = let z = seen h e in record { is = rw (lt-leb (length s) at z.within, seen-ne z b l n, expect); far = tt }

pub ruleset expects = (expect-end, expect-found, expect-other)

-- ---- what a letter stands for

-- the letters that stand for something
pub letter-table : (letter_escape 34 ≡ some 34) × (letter_escape 92 ≡ some 92) × (letter_escape 47 ≡ some 47) × (letter_escape 98 ≡ some 8)
    × (letter_escape 102 ≡ some 12) × (letter_escape 110 ≡ some 10) × (letter_escape 114 ≡ some 13) × (letter_escape 116 ≡ some 9)
unfolding letter_escape
letter-table = (refl, refl, refl, refl, refl, refl, refl, refl)

module _ {ch : ℕ} where
  pub letter-is : {v b : ℕ} → ch ≡ v → letter_escape v ≡ some b → LetterIs ch (Some b)
  letter-is e f = record { is = rw (e, f) }

  pub no-letter : (ch ≡ 34 → ⊥) → (ch ≡ 92 → ⊥) → (ch ≡ 47 → ⊥) → (ch ≡ 98 → ⊥) → (ch ≡ 102 → ⊥) → (ch ≡ 110 → ⊥) → (ch ≡ 114 → ⊥) → (ch ≡ 116 → ⊥)
      → letter_escape ch ≡ none
  unfolding letter_escape
  no-letter a b c d e f g h =
      rw (
        ne_eqb ch 34 a,
        ne_eqb ch 92 b,
        ne_eqb ch 47 c,
        ne_eqb ch 98 d,
        ne_eqb ch 102 e,
        ne_eqb ch 110 f,
        ne_eqb ch 114 g,
        ne_eqb ch 116 h,
        letter_escape,
      )

  pub letter-other : (ch ≡ 34 → ⊥) → (ch ≡ 92 → ⊥) → (ch ≡ 47 → ⊥) → (ch ≡ 98 → ⊥) → (ch ≡ 102 → ⊥) → (ch ≡ 110 → ⊥) → (ch ≡ 114 → ⊥) → (ch ≡ 116 → ⊥)
      → LetterIs ch None
  letter-other a b c d e f g h = record { is = rw (no-letter a b c d e f g h) }

pub past-letters : (ch : ℕ) → 128 ≤ ch → letter_escape ch ≡ none
past-letters ch h =
    no-letter (λ e. omega arith) (λ e. omega arith) (λ e. omega arith) (λ e. omega arith) (λ e. omega arith) (λ e. omega arith) (λ e. omega arith)
    (λ e. omega arith)

-- the escape's letter at a place, by the character there
pub letter-seen : {s : List ℕ} {at ch p : ℕ} → Seen s at ch p → letter_escape (byte_at s at) ≡ letter_escape ch
letter-seen z = same_seen letter_escape none past-letters z

-- Words, letter by letter, and one law for each answer of the functions that find them.
use mathlib.Core.Path.{◌≡◌, refl, sym, ◌∙◌, ap}
use mathlib.Core.Bool.{Bool, true, false, ◌&&◌}
use mathlib.Core.List.{List, [], ◌∷◌}
use Prim.Native.Nat.{ℕ, ◌+◌, ◌≤◌, ◌<◌}
use native.Mathlib.Omega.{arith}
use native.Mathlib.Numerals.{add-one}
use lib.Dec.{ltb, eqb}
use lib.ListN.{length, take, drop, length-take, drop_of_length-le}
use lib.Seq.{slice_empty, drop-cons, get_or-take}
use borrow.Author.Tests.{ltb-true, ltb-false, ne_eqb}
use Rattle.rules.specs.Bytes.{Text, byte_at, same}
use Rattle.theory_text.specs.Places.{byte_past}
use Rattle.rules.specs.Pieces.{word_true, word_false, word_null, starts_with}
use Rattle.std.specs.Prelude.{Option, Some, None}
use Rattle.text_chars.specs.declared.Cursor.{Cursor}
use Rattle.text_scan.specs.Scan.{SeenIs}
use Rattle.text_unquoted.specs.Clauses.{Spells, SpelledIs, spelled-inside, WordIs}
use Rattle.text_chars.specs.declared.Step.{Step}
use Rattle.text_unquoted.specs.declared.Word.{Word}
use Rattle.text_scan.specs.Looks.{is_byte, not_byte, ascii-next}

-- ---- a word and its first letter

module _ (s : List ℕ) (at : ℕ) where
  starts-nil : starts_with [] s at ≡ true
  unfolding starts_with same
  starts-nil = rw (z, slice_empty at s)
    where
      z : at + 0 ≡ at
      z = omega arith

  starts-out : (b : ℕ) (w : Text) → length s ≤ at → starts_with (b ∷ w) s at ≡ false
  unfolding starts_with same
  starts-out b w h =
      let l : length (take (at + length (b ∷ w)) s) ≤ at = rw (length-take (at + length (b ∷ w)) s) (omega arith) in
      let d : drop at (take (at + length (b ∷ w)) s) ≡ [] = drop_of_length-le (take (at + length (b ∷ w)) s) l in
      rw d

  starts-in : (b : ℕ) (w : Text) → at < length s
      → starts_with (b ∷ w) s at ≡ elim (eqb (byte_at s at) b) as (λ x. Bool) [ true ↦ starts_with w s (at + 1) | false ↦ false ]
  unfolding starts_with same
  starts-in b w h =
      let n : at + length (b ∷ w) ≡ at + 1 + length w = omega arith in
      rw (
        n,
        drop-cons (take (at + 1 + length w) s) at 256 (rw (length-take (at + 1 + length w) s) (omega arith)),
        get_or-take (at + 1 + length w) s at 256 (omega arith),
        ← add-one at,
      )

module _ (s : List ℕ) (at : ℕ) where
  -- a word stands where its first letter and the rest behind it stand
  starts-cons : (b : ℕ) (w : Text) → starts_with (b ∷ w) s at ≡ (starts_with (b ∷ []) s at && starts_with w s (at + 1))
  starts-cons b w = go (ltb at (length s)) refl
    where
      first : (t p r : Bool) → p ≡ true
          → ◌≡◌ {A = Bool} (elim t [ true ↦ r | false ↦ false ]) ((elim t as (λ x. Bool) [ true ↦ p | false ↦ false ]) && r)
      first true p r e = rw e
      first false p r e = refl

      go : (u : Bool) → ltb at (length s) ≡ u → starts_with (b ∷ w) s at ≡ (starts_with (b ∷ []) s at && starts_with w s (at + 1))
      go true e =
          let h : at < length s = ltb-true at (length s) e in
          starts-in s at b w h
          ∙ first (eqb (byte_at s at) b) (starts_with [] s (at + 1)) (starts_with w s (at + 1)) (starts-nil s (at + 1))
          ∙ ap (λ z. z && starts_with w s (at + 1)) (sym (starts-in s at b [] h))
      go false e = let h : length s ≤ at = ltb-false at (length s) e in rw (starts-out s at b w h, starts-out s at b [] h)

  starts-one : (b : ℕ) → b < 128 → starts_with (b ∷ []) s at ≡ eqb (byte_at s at) b
  starts-one b l = go (ltb at (length s)) refl
    where
      alone : (t p : Bool) → p ≡ true → ◌≡◌ {A = Bool} (elim t [ true ↦ p | false ↦ false ]) t
      alone true p e = e
      alone false p e = refl

      go : (u : Bool) → ltb at (length s) ≡ u → starts_with (b ∷ []) s at ≡ eqb (byte_at s at) b
      go true e =
          let h : at < length s = ltb-true at (length s) e in
          starts-in s at b [] h ∙ alone (eqb (byte_at s at) b) (starts_with [] s (at + 1)) (starts-nil s (at + 1))
      go false e =
          let h : length s ≤ at = ltb-false at (length s) e in
          rw (starts-out s at b [] h, byte_past s at h) (sym (ne_eqb 256 b (λ z. omega arith)))

-- ---- letters

module _ {s : List ℕ} {at : ℕ} {r : Step} (k : SeenIs s at r) {a : ℕ} (l : a < 128) where
  pub letter-yes : r.ch ≡ a → SpelledIs (a ∷ []) s at (Some r.next)
  letter-yes e = record { is = (starts-one s at a l ∙ is_byte k a l e, ascii-next k (omega arith), k.inside) }

  pub letter-no : (r.ch ≡ a → ⊥) → SpelledIs (a ∷ []) s at None
  letter-no n = record { is = starts-one s at a l ∙ not_byte k a l n }

module _ {s : List ℕ} {at a : ℕ} {r : Option Cursor} (k : SpelledIs (a ∷ []) s at r) {w : Text} where
  pub first-no : r ≡ None → SpelledIs (a ∷ w) s at None
  first-no e =
      let n : starts_with (a ∷ []) s at ≡ false = rw e at k.is in
      record { is = starts-cons s at a w ∙ rw n }

  pub first-yes : {c : Cursor} {q : Option Cursor} → r ≡ Some c → SpelledIs w s c.at.0 q → SpelledIs (a ∷ w) s at q
  first-yes {c} {q} e h =
      let y : Spells (a ∷ []) s at (Some c) = rw e at k.is in
      record { is = go q h.is y }
    where
      go : (q : Option Cursor) → Spells w s c.at.0 q → Spells (a ∷ []) s at (Some c) → Spells (a ∷ w) s at q
      go (Some d) g y =
          let j : starts_with w s (at + 1) ≡ true = rw y.1 at g.0 in
          (starts-cons s at a w ∙ rw (y.0, j), omega (arith, y.1, g.1), g.2)
      go None g y =
          let j : starts_with w s (at + 1) ≡ false = rw y.1 at g in
          starts-cons s at a w ∙ rw (y.0, j)

pub ruleset letter-ends = (letter-yes, letter-no)

pub ruleset spellings = (arith, spelled-inside, first-no, first-yes)

-- ---- words

-- a word does not begin with another letter than its first
module _ {s : List ℕ} {at : ℕ} {r : Step} (k : SeenIs s at r) where
  other-letter : (a : ℕ) (w : Text) → a < 128 → (r.ch ≡ a → ⊥) → starts_with (a ∷ w) s at ≡ false
  other-letter a w l n = starts-cons s at a w ∙ rw (starts-one s at a l ∙ not_byte k a l n)

  not-true : (r.ch ≡ 116 → ⊥) → starts_with word_true s at ≡ false
  not-true n = other-letter 116 _ (omega arith) n

  not-false : (r.ch ≡ 102 → ⊥) → starts_with word_false s at ≡ false
  not-false n = other-letter 102 _ (omega arith) n

  not_null : (r.ch ≡ 110 → ⊥) → starts_with word_null s at ≡ false
  not_null n = other-letter 110 _ (omega arith) n

  module _ {t : Option Cursor} (j : SpelledIs word_true s at t) where
    pub word-true : {c : Cursor} → t ≡ Some c → WordIs s at (Word.True c)
    word-true e = record { is = rw e at j.is }

    pub no_true : r.ch ≡ 116 → t ≡ None → WordIs s at Word.Other
    no_true h e = record { is = (rw e at j.is, not-false (λ z. omega arith), not_null (λ z. omega arith)) }

  module _ {t : Option Cursor} (j : SpelledIs word_false s at t) (h : r.ch ≡ 102) where
    pub word-false : {c : Cursor} → t ≡ Some c → WordIs s at (Word.False c)
    word-false {c} e =
        let y : Spells word_false s at (Some c) = rw e at j.is in
        record { is = (not-true (λ z. omega arith), y.0, y.1, y.2) }

    pub no_false : t ≡ None → WordIs s at Word.Other
    no_false e = record { is = (not-true (λ z. omega arith), rw e at j.is, not_null (λ z. omega arith)) }

  module _ {t : Option Cursor} (j : SpelledIs word_null s at t) (h : r.ch ≡ 110) where
    pub word-null : {c : Cursor} → t ≡ Some c → WordIs s at (Word.Null c)
    word-null {c} e =
        let y : Spells word_null s at (Some c) = rw e at j.is in
        record { is = (not-true (λ z. omega arith), not-false (λ z. omega arith), y.0, y.1, y.2) }

    pub no-null : t ≡ None → WordIs s at Word.Other
    no-null e = record { is = (not-true (λ z. omega arith), not-false (λ z. omega arith), rw e at j.is) }

  pub word-other : (r.ch ≡ 116 → ⊥) → (r.ch ≡ 102 → ⊥) → (r.ch ≡ 110 → ⊥) → WordIs s at Word.Other
  word-other a b c = record { is = (not-true a, not-false b, not_null c) }

pub ruleset words = (word-true, no_true, word-false, no_false, word-null, no-null, word-other)

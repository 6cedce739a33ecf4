-- What the functions on unquoted text and words promise, by the rules' definitions.
use Rattle.std.specs.Prelude.{◌≡◌, ℕ, ◌+◌, ◌≤◌, ◌<◌, Bool, true, false, List, length, Option, Some, None}
use Rattle.answers.specs.Ask.{mem}
use Rattle.rules.specs.Bytes.{Text}
use Rattle.rules.specs.Characters.{is_space}
use Rattle.rules.specs.Pieces.{forbidden, word_true, word_false, word_null, starts_with}
use Rattle.text_chars.specs.declared.Cursor.{Cursor}
use Rattle.text_unquoted.specs.declared.Word.{Word}

-- an ASCII byte at which unquoted text does not stop, whatever stands behind it
pub record Plain (b : ℕ) : Type 0 where
  pub ascii : b < 128
  pub space : is_space b ≡ false
  pub allowed : mem b forbidden ≡ false
  pub slash : b ≡ 47 → ⊥

pub record PlainIs (b : ℕ) (r : Bool) : Type 0 where
  pub plain : r ≡ true → Plain b

-- letters stand at a place, with the cursor past them, or they do not
abbrev pub Spells : Text → List ℕ → ℕ → Option Cursor → Type 0
Spells w s at (Some c) = (starts_with w s at ≡ true) × (c.at.0 ≡ at + length w) × (c.at.0 ≤ length s)
Spells w s at None = starts_with w s at ≡ false

pub record SpelledIs (w : Text) (s : List ℕ) (at : ℕ) (r : Option Cursor) : Type 0 where
  pub is : Spells w s at r

pub spelled-inside : {w : Text} {s : List ℕ} {at : ℕ} {r : Option Cursor} {c : Cursor} → SpelledIs w s at r → r ≡ Some c → c.at.0 ≤ length s
spelled-inside {w} {s} {at} {r} {c} k e = let y : Spells w s at (Some c) = rw e at k.is in y.2

-- the first of the words that stands at a place, in the order of the rules
abbrev pub Says : List ℕ → ℕ → Word → Type 0
Says s at (Word.True c) = (starts_with word_true s at ≡ true) × (c.at.0 ≡ at + 4) × (c.at.0 ≤ length s)
Says s at (Word.False c) =
    (starts_with word_true s at ≡ false) × (starts_with word_false s at ≡ true) × (c.at.0 ≡ at + 5) × (c.at.0 ≤ length s)
Says s at (Word.Null c) =
    (starts_with word_true s at ≡ false)
    × (starts_with word_false s at ≡ false)
    × (starts_with word_null s at ≡ true)
    × (c.at.0 ≡ at + 4)
    × (c.at.0 ≤ length s)
Says s at Word.Other =
    (starts_with word_true s at ≡ false) × (starts_with word_false s at ≡ false) × (starts_with word_null s at ≡ false)

pub record WordIs (s : List ℕ) (at : ℕ) (r : Word) : Type 0 where
  pub is : Says s at r

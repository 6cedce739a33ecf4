-- Document 02, No. 4: "The character reader at the bottom must promise the line (newlines before, plus one) and column (characters since
-- the last newline, plus one) as well as the offset, and every refusal with a place in a document carries all three. An end-of-document
-- place counts as the character after the last. All other places, those of 1, 13, 14 and 17 too, have line 0 and column 0."
use Rattle.std.specs.Prelude.{ℕ, zero, suc, ◌+◌, min, List, [], ◌∷◌, Bool, true, false, ltb, length}
use Rattle.rules.specs.Bytes.{within}
use Rattle.rules.specs.Refusals.{offset_of}
use Rattle.rules.specs.Characters.{next_place, character_at, is_newline}

-- The characters from a place on that begin before another. As many steps as the text has bytes are enough: each goes forward (module
-- Positions of `theory_text`).
unfoldable pub characters_from : (fuel : ℕ) (s : List ℕ) (at end : ℕ) → List ℕ
unfolding next_place character_at
characters_from zero s at end = []
characters_from (suc n) s at end =
    elim (ltb at end) [ true ↦ character_at s at ∷ characters_from n s (next_place s at) end | false ↦ [] ]

-- the characters before a place, all of them before the end and before any place behind it
unfoldable pub characters_before : (s : List ℕ) (place : ℕ) → List ℕ
unfolding characters_from
characters_before s place = characters_from (length s) s 0 (min place (length s))

unfoldable pub newlines_in : List ℕ → ℕ
newlines_in [] = 0
newlines_in (c ∷ cs) = elim (is_newline c) [ true ↦ newlines_in cs + 1 | false ↦ newlines_in cs ]

-- how many characters there are since the last newline, with so many before these
unfoldable pub since_newline : (before : ℕ) → List ℕ → ℕ
since_newline before [] = before
since_newline before (c ∷ cs) = elim (is_newline c) [ true ↦ since_newline 0 cs | false ↦ since_newline (before + 1) cs ]

unfoldable pub line_at : (s : List ℕ) (place : ℕ) → ℕ
unfolding characters_before newlines_in
line_at s place = newlines_in (characters_before s place) + 1

unfoldable pub column_at : (s : List ℕ) (place : ℕ) → ℕ
unfolding characters_before since_newline
column_at s place = since_newline 0 (characters_before s place) + 1

-- line and column behind a character
unfoldable pub line_behind : (character line : ℕ) → ℕ
line_behind c line = elim (is_newline c) [ true ↦ line + 1 | false ↦ line ]

unfoldable pub column_behind : (character column : ℕ) → ℕ
column_behind c column = elim (is_newline c) [ true ↦ 1 | false ↦ column + 1 ]

-- ---- refusals

-- which of them have a place in a document: 2 of its bytes, 3 to 8 and 11 of reading it, 9 to 12 of resolving
unfoldable pub has_place : (number : ℕ) → Bool
has_place number = within 2 12 number

-- the line and the column of a refusal in a document
unfoldable pub line_of : (s : List ℕ) (number place : ℕ) → ℕ
unfolding has_place line_at
line_of s number place = elim (has_place number) [ true ↦ line_at s (offset_of place) | false ↦ 0 ]

unfoldable pub column_of : (s : List ℕ) (number place : ℕ) → ℕ
unfolding has_place column_at
column_of s number place = elim (has_place number) [ true ↦ column_at s (offset_of place) | false ↦ 0 ]

-- Document 01, "Reading": "A reading place goes forward one character at a time. Whitespace is bytes 09 to 0D, 1C to 1F, 20; newline
-- is 0A only. Any other character is ordinary. A comment runs from `#` or `//` up to the newline."
-- Document 02, No. 2: "Document 01's whitespace is too narrow: the source counts every Unicode 15 character of categories Zs, Zl and Zp, and
-- U+FEFF anywhere. Newline stays 0A alone."
-- The text that is read is well-formed UTF-8 (number 2 comes first).
use Rattle.std.specs.Prelude.{ℕ, zero, suc, ◌+◌, ◌*◌, ◌%◌, min, max, List, Bool, true, false, not, ◌&&◌, ◌||◌, ltb, eqb, length}
use Rattle.rules.specs.Bytes.{no_byte, byte_at, within, skip}
use Rattle.rules.specs.Ascii as ascii
use Rattle.rules.specs.Spaces as spaces

-- past the end there is no character; this is no code point
abbrev pub no_character : ℕ
no_character = 1114112

-- how many bytes a character has, by its first
unfoldable pub width_of : ℕ → ℕ
width_of lead =
    elim (ltb lead 128) [
      | true ↦ 1
      | false ↦ elim (ltb lead 224) [ true ↦ 2 | false ↦ elim (ltb lead 240) [ true ↦ 3 | false ↦ 4 ] ]
    ]

-- the place after the character at a place, never past the end
unfoldable pub next_place : List ℕ → ℕ → ℕ
unfolding width_of
next_place s at = min (at + width_of (byte_at s at)) (length s)

-- A character of several bytes is from U+0080 to U+10FFFF, whatever the bytes. In a job this changes nothing: the text is well-formed
-- there, and its characters are in that range anyway.
abbrev pub of_several : ℕ → ℕ
of_several c = min 1114111 (max 128 c)

-- the character at a place, as its code point
unfoldable pub character_at : List ℕ → ℕ → ℕ
character_at s at =
    let lead = byte_at s at in
    elim (ltb lead 128) [
      | true ↦ lead
      | false ↦ elim (ltb lead 224) [
        | true ↦ of_several (lead % 32 * 64 + byte_at s (at + 1) % 64)
        | false ↦ elim (ltb lead 240) [
          | true ↦ of_several (lead % 16 * 4096 + byte_at s (at + 1) % 64 * 64 + byte_at s (at + 2) % 64)
          | false ↦ elim (ltb lead no_byte) [
            | true ↦
                of_several
                (lead % 8 * 262144 + byte_at s (at + 1) % 64 * 4096 + byte_at s (at + 2) % 64 * 64 + byte_at s (at + 3) % 64)
            | false ↦ no_character
          ]
        ]
      ]
    ]

abbrev pub is_newline : ℕ → Bool
is_newline c = eqb c ascii.newline

-- document 01's whitespace
abbrev pub is_ascii_space : ℕ → Bool
is_ascii_space c = within ascii.tab ascii.carriage_return c || within ascii.file_separator ascii.unit_separator c || eqb c ascii.space

-- document 02's, No. 2, beside it
abbrev pub is_wide_space : ℕ → Bool
is_wide_space c =
    eqb c spaces.no_break_space
    || eqb c spaces.ogham_space_mark
    || within spaces.en_quad spaces.hair_space c
    || within spaces.line_separator spaces.paragraph_separator c
    || eqb c spaces.narrow_no_break_space
    || eqb c spaces.medium_mathematical_space
    || eqb c spaces.ideographic_space
    || eqb c spaces.byte_order_mark

abbrev pub is_space : ℕ → Bool
is_space c = is_ascii_space c || is_wide_space c

-- whitespace but newline: what may stand between the pieces of one value or path
abbrev pub is_inline : ℕ → Bool
is_inline c = is_space c && not (is_newline c)

-- a comment begins here
unfoldable pub starts_comment : List ℕ → ℕ → Bool
starts_comment s at =
    elim (eqb (byte_at s at) ascii.hash) [
      | true ↦ true
      | false ↦ elim (eqb (byte_at s at) ascii.slash) [ true ↦ eqb (byte_at s (at + 1)) ascii.slash | false ↦ false ]
    ]

-- the place after the whitespace but newlines
unfoldable pub after_inline : List ℕ → ℕ → ℕ
unfolding skip next_place character_at
after_inline s at = skip (λ p. is_inline (character_at s p)) (next_place s) (length s) at

-- the newline that ends a comment, or the end
unfoldable pub line_end : List ℕ → ℕ → ℕ
unfolding skip next_place character_at
line_end s at = skip (λ p. not (is_newline (character_at s p) || eqb (character_at s p) no_character)) (next_place s) (length s) at

-- the place after whitespace, newlines and comments, and whether a newline was among them
pub record Gap : Type 0 where
  pub place : ℕ
  pub newline : Bool

-- as many steps as the text has bytes are enough: each goes forward, and none is made at the end (module Places of `theory`)
unfoldable pub gap_from : (fuel : ℕ) (s : List ℕ) (at : ℕ) (newline : Bool) → Gap
unfolding next_place character_at starts_comment line_end
gap_from zero s at newline = record { place = at; newline = newline }
gap_from (suc n) s at newline =
    elim (is_space (character_at s at)) [
      | true ↦ gap_from n s (next_place s at) (newline || is_newline (character_at s at))
      | false ↦ elim (starts_comment s at) [
        | true ↦ gap_from n s (line_end s at) newline
        | false ↦ record { place = at; newline = newline }
      ]
    ]

unfoldable pub gap_at : List ℕ → ℕ → Gap
unfolding gap_from
gap_at s at = gap_from (length s) s at false

abbrev pub after_gap : List ℕ → ℕ → ℕ
after_gap s at = (gap_at s at).place

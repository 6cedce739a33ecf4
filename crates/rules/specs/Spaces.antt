-- Document 02, No. 2: the characters past ASCII that are whitespace, by their Unicode 15 names. The names are those of the code's crate `codes`.
use Rattle.std.specs.Prelude.{ℕ}

-- ---- category Zs: between the en quad and the hair space all are

abbrev pub no_break_space : ℕ
no_break_space = 160

abbrev pub ogham_space_mark : ℕ
ogham_space_mark = 5760

abbrev pub en_quad : ℕ
en_quad = 8192

abbrev pub hair_space : ℕ
hair_space = 8202

abbrev pub narrow_no_break_space : ℕ
narrow_no_break_space = 8239

abbrev pub medium_mathematical_space : ℕ
medium_mathematical_space = 8287

abbrev pub ideographic_space : ℕ
ideographic_space = 12288

-- ---- categories Zl and Zp: they are no newlines

abbrev pub line_separator : ℕ
line_separator = 8232

abbrev pub paragraph_separator : ℕ
paragraph_separator = 8233

-- ---- U+FEFF, of category Cf

abbrev pub byte_order_mark : ℕ
byte_order_mark = 65279

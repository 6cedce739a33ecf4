-- Document 01, "Reading": "Quoted strings are JSON's. Triple quotes take everything raw; the first later run of three or more quotes
-- ends them, and all but its last three belong to the string." Number 5: "bad escape or lone surrogate (no well-formed mate next);
-- control byte in a quoted string", at the first byte of the escape or control; "an escape or surrogate pair cut by the end 4".
use Rattle.std.specs.Prelude.{ℕ, zero, suc, ◌+◌, ◌-◌, ◌*◌, List, [], ◌∷◌, ◌++◌, Bool, true, false, not, ◌&&◌, ◌||◌, leb, ltb, eqb, length}
use Rattle.std.proofs.Math.Option.{Option, none, some}
use Rattle.std.proofs.Math.Seq.{slice}
use Rattle.rules.specs.Bytes.{Text, byte_at, within, skip}
use Rattle.rules.specs.Ascii as ascii
use Rattle.rules.specs.Refusals.{placed, spent, ended, Scan, ok, refused, and_then}
use Rattle.rules.specs.Utf8.{encoded}
use Rattle.rules.specs.Characters.{next_place}

-- the value of a hexadecimal digit; that of `A` and of `a` is 10
unfoldable pub hex_digit : ℕ → Option ℕ
hex_digit b =
    elim (within ascii.zero ascii.nine b) [
      | true ↦ some (b - ascii.zero)
      | false ↦ elim (within ascii.capital_a ascii.capital_f b) [
        | true ↦ some (b - 55)
        | false ↦ elim (within ascii.a ascii.f b) [ true ↦ some (b - 87) | false ↦ none ]
      ]
    ]

-- so many hexadecimal digits more, behind the value so far; `first` is the place of the escape
unfoldable pub hex_from : (digits : ℕ) (s : List ℕ) (first so_far at : ℕ) → Scan ℕ
unfolding hex_digit
hex_from zero s first so_far at = ok so_far at
hex_from (suc n) s first so_far at =
    elim (leb (length s) at) [
      | true ↦ refused (ended s)
      | false ↦ elim (hex_digit (byte_at s at)) [ none ↦ refused (placed 5 first) | some d ↦ hex_from n s first (so_far * 16 + d) (at + 1) ]
    ]

-- one certain byte
unfoldable pub expect : (b : ℕ) (s : List ℕ) (first at : ℕ) → Scan ℕ
expect b s first at =
    elim (leb (length s) at) [
      | true ↦ refused (ended s)
      | false ↦ elim (eqb (byte_at s at) b) [ true ↦ ok b (at + 1) | false ↦ refused (placed 5 first) ]
    ]

abbrev pub is_high : ℕ → Bool
is_high unit = within 55296 56319 unit

abbrev pub is_low : ℕ → Bool
is_low unit = within 56320 57343 unit

-- a surrogate pair's character
abbrev pub paired : (high low : ℕ) → ℕ
paired high low = 65536 + (high - 55296) * 1024 + (low - 56320)

-- the mate of a high surrogate: `\u` and four digits that give a low one
unfoldable pub mate_of : (s : List ℕ) (first high at : ℕ) → Scan Text
unfolding expect hex_from encoded
mate_of s first high at =
    and_then (expect ascii.backslash s first at) (λ b p.
    and_then (expect ascii.u s first p) (λ c q.
    and_then (hex_from 4 s first 0 q) (λ low end.
    elim (is_low low) [ true ↦ ok (encoded (paired high low)) end | false ↦ refused (placed 5 first) ])))

-- behind `\u`
unfoldable pub unicode_escape : (s : List ℕ) (first at : ℕ) → Scan Text
unfolding hex_from mate_of encoded
unicode_escape s first at =
    and_then (hex_from 4 s first 0 at) (λ unit p.
    elim (is_low unit) [
      | true ↦ refused (placed 5 first)
      | false ↦ elim (is_high unit) [ true ↦ mate_of s first unit p | false ↦ ok (encoded unit) p ]
    ])

-- what a one-letter escape stands for
unfoldable pub letter_escape : ℕ → Option ℕ
letter_escape b =
    elim (eqb b ascii.quote || eqb b ascii.backslash || eqb b ascii.slash) [
      | true ↦ some b
      | false ↦ elim (eqb b ascii.b) [
        | true ↦ some ascii.backspace
        | false ↦ elim (eqb b ascii.f) [
          | true ↦ some ascii.form_feed
          | false ↦ elim (eqb b ascii.n) [
            | true ↦ some ascii.newline
            | false ↦ elim (eqb b ascii.r) [
              | true ↦ some ascii.carriage_return
              | false ↦ elim (eqb b ascii.t) [ true ↦ some ascii.tab | false ↦ none ]
            ]
          ]
        ]
      ]
    ]

-- the escape that begins at a place
unfoldable pub escape_at : List ℕ → ℕ → Scan Text
unfolding letter_escape unicode_escape
escape_at s at =
    elim (leb (length s) (at + 1)) [
      | true ↦ refused (ended s)
      | false ↦ elim (letter_escape (byte_at s (at + 1))) [
        | some b ↦ ok (b ∷ []) (at + 2)
        | none ↦ elim (eqb (byte_at s (at + 1)) ascii.u) [ true ↦ unicode_escape s at (at + 2) | false ↦ refused (placed 5 at) ]
      ]
    ]

abbrev pub prepend : Text → Scan Text → Scan Text
prepend t (ok u at) = ok (t ++ u) at
prepend t (refused x) = refused x

-- a quoted string's text from a place behind its first quote on
unfoldable pub body_from : (fuel : ℕ) (s : List ℕ) (at : ℕ) → Scan Text
unfolding escape_at next_place
body_from zero s at = refused spent
body_from (suc n) s at =
    elim (leb (length s) at) [
      | true ↦ refused (ended s)
      | false ↦ elim (eqb (byte_at s at) ascii.quote) [
        | true ↦ ok [] (at + 1)
        | false ↦ elim (ltb (byte_at s at) ascii.space) [
          | true ↦ refused (placed 5 at)
          | false ↦ elim (eqb (byte_at s at) ascii.backslash) [
            | true ↦ and_then (escape_at s at) (λ t p. prepend t (body_from n s p))
            | false ↦ prepend (slice at (next_place s at) s) (body_from n s (next_place s at))
          ]
        ]
      ]
    ]

-- three quotes stand here
unfoldable pub three_quotes : List ℕ → ℕ → Bool
three_quotes s at =
    elim (eqb (byte_at s at) ascii.quote) [
      | true ↦ elim (eqb (byte_at s (at + 1)) ascii.quote) [ true ↦ eqb (byte_at s (at + 2)) ascii.quote | false ↦ false ]
      | false ↦ false
    ]

-- where the first run of three quotes or more begins, or the end
unfoldable pub quotes_run : List ℕ → ℕ → ℕ
unfolding skip three_quotes next_place
quotes_run s at = skip (λ p. ltb p (length s) && not (three_quotes s p)) (next_place s) (length s) at

-- the place after a run of quotes
unfoldable pub after_quotes : List ℕ → ℕ → ℕ
unfolding skip
after_quotes s at = skip (λ p. eqb (byte_at s p) ascii.quote) (λ p. p + 1) (length s) at

unfoldable pub triple_at : List ℕ → ℕ → Scan Text
unfolding quotes_run after_quotes
triple_at s at =
    let run = quotes_run s (at + 3) in
    elim (ltb run (length s)) [
      | false ↦ refused (ended s)
      | true ↦ let end = after_quotes s run in ok (slice (at + 3) (end - 3) s) end
    ]

-- the string, quoted once or three times, that begins at a place
unfoldable pub quoted_at : List ℕ → ℕ → Scan Text
unfolding three_quotes triple_at body_from
quoted_at s at = elim (three_quotes s at) [ true ↦ triple_at s at | false ↦ body_from (suc (length s)) s (at + 1) ]

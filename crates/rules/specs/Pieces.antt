-- Document 01, "Reading": simple pieces. "Unquoted text runs up to whitespace, `//`, or one of ``$ " { } [ ] : = , + # ` ^ ? ! @ * & \``.
-- If it starts with `true`, `false` or `null` that is a piece of its own. A digit or `-` starts the longest JSON number; the rest is
-- read on as further pieces."
use Rattle.std.specs.Prelude.{ℕ, ◌+◌, List, [], ◌∷◌, Bool, true, false, not, ◌||◌, eqb, length}
use Rattle.std.proofs.Math.Option.{none, some}
use Rattle.std.proofs.Math.Seq.{slice}
use Rattle.answers.specs.Ask.{mem}
use Rattle.rules.specs.Bytes.{Text, byte_at, same, skip}
use Rattle.rules.specs.Ascii as ascii
use Rattle.rules.specs.Refusals.{placed, Scan, ok, refused, and_then}
use Rattle.rules.specs.Characters.{no_character, next_place, character_at, is_space, starts_comment}
use Rattle.rules.specs.Numbers.{is_digit, after_number}
use Rattle.rules.specs.Strings.{quoted_at}
use Rattle.rules.specs.Tree.{Scalar, null, boolean, number, string}

-- `$ " { } [ ] : = , + # ` ^ ? ! @ * & \`
abbrev pub forbidden : List ℕ
forbidden =
    ascii.dollar ∷ ascii.quote ∷ ascii.open_brace ∷ ascii.close_brace ∷ ascii.open_bracket ∷ ascii.close_bracket
    ∷ ascii.colon ∷ ascii.equals ∷ ascii.comma ∷ ascii.plus ∷ ascii.hash ∷ ascii.backquote
    ∷ ascii.caret ∷ ascii.question ∷ ascii.exclamation ∷ ascii.at ∷ ascii.asterisk ∷ ascii.ampersand ∷ ascii.backslash ∷ []

-- unquoted text goes no further than this place
unfoldable pub stops_unquoted : List ℕ → ℕ → Bool
unfolding character_at starts_comment
stops_unquoted s at =
    let c = character_at s at in
    elim (eqb c no_character || is_space c) [
      | true ↦ true
      | false ↦ elim (mem c forbidden) [ true ↦ true | false ↦ starts_comment s at ]
    ]

-- the place after unquoted text
unfoldable pub unquoted_end : List ℕ → ℕ → ℕ
unfolding skip stops_unquoted next_place
unquoted_end s at = skip (λ p. not (stops_unquoted s p)) (next_place s) (length s) at

-- a simple piece begins here
unfoldable pub starts_simple : List ℕ → ℕ → Bool
unfolding stops_unquoted
starts_simple s at = elim (eqb (byte_at s at) ascii.quote) [ true ↦ true | false ↦ not (stops_unquoted s at) ]

-- a simple piece: what it is, and whether it stands in quotes
pub record Token : Type 0 where
  pub in_quotes : Bool
  pub scalar : Scalar

abbrev pub token : Bool → Scalar → Token
token q x = record { in_quotes = q; scalar = x }

abbrev pub word_true : Text
word_true = ascii.t ∷ ascii.r ∷ ascii.u ∷ ascii.e ∷ []

abbrev pub word_false : Text
word_false = ascii.f ∷ ascii.a ∷ ascii.l ∷ ascii.s ∷ ascii.e ∷ []

abbrev pub word_null : Text
word_null = ascii.n ∷ ascii.u ∷ ascii.l ∷ ascii.l ∷ []

-- the text begins at the place
unfoldable pub starts_with : (word : Text) (s : List ℕ) (at : ℕ) → Bool
unfolding same
starts_with word s at = same (slice at (at + length word) s) word

unfoldable pub unquoted_at : List ℕ → ℕ → Scan Token
unfolding starts_with unquoted_end
unquoted_at s at =
    elim (starts_with word_true s at) [
      | true ↦ ok (token false (boolean true)) (at + 4)
      | false ↦ elim (starts_with word_false s at) [
        | true ↦ ok (token false (boolean false)) (at + 5)
        | false ↦ elim (starts_with word_null s at) [
          | true ↦ ok (token false null) (at + 4)
          | false ↦ let end = unquoted_end s at in ok (token false (string (slice at end s))) end
        ]
      ]
    ]

-- number 5: "`-` starting no JSON number"
unfoldable pub number_at : List ℕ → ℕ → Scan Token
unfolding after_number
number_at s at =
    elim (after_number s at) [ none ↦ refused (placed 5 at) | some end ↦ ok (token false (number (slice at end s))) end ]

-- the simple piece at a place where one begins
unfoldable pub simple_at : List ℕ → ℕ → Scan Token
unfolding quoted_at number_at unquoted_at
simple_at s at =
    elim (eqb (byte_at s at) ascii.quote) [
      | true ↦ and_then (quoted_at s at) (λ t end. ok (token true (string t)) end)
      | false ↦ elim (is_digit (byte_at s at) || eqb (byte_at s at) ascii.minus) [ true ↦ number_at s at | false ↦ unquoted_at s at ]
    ]

-- the text of a simple value in a join, "numbers as written"
unfoldable pub scalar_text : Scalar → Text
scalar_text null = word_null
scalar_text (boolean true) = word_true
scalar_text (boolean false) = word_false
scalar_text (number t) = t
scalar_text (string t) = t

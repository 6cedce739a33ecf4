-- Each part of reading that is a `skip`, step by step: it goes on where its test passes, and stays where it fails.
use Rattle.std.specs.Prelude.{◌≡◌, ℕ, ◌+◌, ◌-◌, ◌≤◌, true, false, not, ◌&&◌, ◌||◌, List, ltb, eqb, length}
use Rattle.std.proofs.Common.{arith}
use Rattle.rules.specs.Bytes.{byte_at}
use Rattle.rules.specs.Characters.{no_character, next_place, character_at, is_newline, is_space, is_inline, after_inline, line_end}
use Rattle.rules.specs.Micrometres.{after_space}
use Rattle.rules.specs.Numbers.{is_digit, after_digits}
use Rattle.rules.specs.Strings.{three_quotes, quotes_run, after_quotes}
use Rattle.rules.specs.Pieces.{stops_unquoted, unquoted_end}
use Rattle.theory_text.specs.Skips.{skip-on, skip-off}
use Rattle.theory_text.specs.Places.{inline-moves, space-moves, line-moves, digit-moves, run-moves, quote-moves, unquoted-moves}

module _ (s : List ℕ) (at : ℕ) where
  enough : length s - at ≤ length s
  enough = omega arith

  pub inline-on : is_inline (character_at s at) ≡ true → after_inline s at ≡ after_inline s (next_place s at)
  unfolding after_inline
  inline-on e = skip-on _ _ (length s) (inline-moves s) (length s) at enough e

  pub inline-off : is_inline (character_at s at) ≡ false → after_inline s at ≡ at
  unfolding after_inline
  inline-off e = skip-off _ _ (length s) (inline-moves s) (length s) at e

  pub space-on : is_space (character_at s at) ≡ true → after_space s at ≡ after_space s (next_place s at)
  unfolding after_space
  space-on e = skip-on _ _ (length s) (space-moves s) (length s) at enough e

  pub space-off : is_space (character_at s at) ≡ false → after_space s at ≡ at
  unfolding after_space
  space-off e = skip-off _ _ (length s) (space-moves s) (length s) at e

  pub line_on : not (is_newline (character_at s at) || eqb (character_at s at) no_character) ≡ true → line_end s at ≡ line_end s (next_place s at)
  unfolding line_end
  line_on e = skip-on _ _ (length s) (line-moves s) (length s) at enough e

  pub line-off : not (is_newline (character_at s at) || eqb (character_at s at) no_character) ≡ false → line_end s at ≡ at
  unfolding line_end
  line-off e = skip-off _ _ (length s) (line-moves s) (length s) at e

  pub digits-on : is_digit (byte_at s at) ≡ true → after_digits s at ≡ after_digits s (at + 1)
  unfolding after_digits
  digits-on e = skip-on _ _ (length s) (digit-moves s) (length s) at enough e

  pub digits-off : is_digit (byte_at s at) ≡ false → after_digits s at ≡ at
  unfolding after_digits
  digits-off e = skip-off _ _ (length s) (digit-moves s) (length s) at e

  pub run_on : (ltb at (length s) && not (three_quotes s at)) ≡ true → quotes_run s at ≡ quotes_run s (next_place s at)
  unfolding quotes_run
  run_on e = skip-on _ _ (length s) (run-moves s) (length s) at enough e

  pub run-off : (ltb at (length s) && not (three_quotes s at)) ≡ false → quotes_run s at ≡ at
  unfolding quotes_run
  run-off e = skip-off _ _ (length s) (run-moves s) (length s) at e

  pub quotes-on : eqb (byte_at s at) 34 ≡ true → after_quotes s at ≡ after_quotes s (at + 1)
  unfolding after_quotes
  quotes-on e = skip-on _ _ (length s) (quote-moves s) (length s) at enough e

  pub quotes-off : eqb (byte_at s at) 34 ≡ false → after_quotes s at ≡ at
  unfolding after_quotes
  quotes-off e = skip-off _ _ (length s) (quote-moves s) (length s) at e

  pub unquoted-on : not (stops_unquoted s at) ≡ true → unquoted_end s at ≡ unquoted_end s (next_place s at)
  unfolding unquoted_end
  unquoted-on e = skip-on _ _ (length s) (unquoted-moves s) (length s) at enough e

  pub unquoted-off : not (stops_unquoted s at) ≡ false → unquoted_end s at ≡ at
  unfolding unquoted_end
  unquoted-off e = skip-off _ _ (length s) (unquoted-moves s) (length s) at e

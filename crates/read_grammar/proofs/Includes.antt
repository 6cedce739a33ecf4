-- One law for each answer of the test for a key that starts with `include`.
use mathlib.Core.Path.{◌≡◌, sym, ◌∙◌, ap}
use mathlib.Core.Bool.{Bool, true, false}
use mathlib.Core.List.{List}
use Prim.Native.Nat.{ℕ, ◌+◌}
use lib.Dec.{eqb}
use Rattle.rules.specs.Bytes.{byte_at}
use Rattle.rules.specs.Pieces.{starts_with, stops_unquoted}
use Rattle.rules.specs.Paths.{word_include, starts_include}
use Rattle.text_chars.specs.Cursor.{ByteIs}
use Rattle.std.specs.Prelude.{Option, Some, None}
use Rattle.text_chars.specs.declared.Cursor.{Cursor}
use Rattle.text_unquoted.specs.Clauses.{Spells, SpelledIs, spelled-inside}

module _ {s : List ℕ} {at : ℕ} {r : Option Cursor} (k : SpelledIs word_include s at r) where
  pub include-no : r ≡ None → false ≡ starts_include s at
  unfolding starts_include
  include-no e =
      let n : starts_with word_include s at ≡ false = rw e at k.is in
      rw (n, starts_include)

  module _ {c : Cursor} (e : r ≡ Some c) {f : Bool} (i : f ≡ stops_unquoted s c.at.0) where
    found : Spells word_include s at (Some c)
    found = rw e at k.is

    stop_is : {b : Bool} → f ≡ b → stops_unquoted s (at + 7) ≡ b
    stop_is h = ap (stops_unquoted s) (sym found.1) ∙ sym i ∙ h

    pub include-stops : f ≡ true → true ≡ starts_include s at
    unfolding starts_include
    include-stops h = rw (found.0, stop_is h, starts_include)

    pub include-dot : {b : ℕ} → f ≡ false → ByteIs s c.at.0 b → eqb b 46 ≡ starts_include s at
    unfolding starts_include
    include-dot {b} h j =
        let q : b ≡ byte_at s (at + 7) = j.is ∙ ap (byte_at s) found.1 in
        rw (found.0, stop_is h, starts_include) (ap (λ x. eqb x 46) q)

pub ruleset includes = (spelled-inside, include-no, include-stops, include-dot)

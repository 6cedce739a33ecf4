-- Bytes and texts: what every part of the rules reads.
use Rattle.std.specs.Prelude.{◌≡◌, ℕ, zero, suc, List, [], ◌∷◌, ◌++◌, Bool, true, false, ◌&&◌, leb, eqb, length, get_or}

abbrev pub Text : Type 0
Text = List ℕ

-- what stands past the end: no byte is 256 (00 is an ordinary one)
abbrev pub no_byte : ℕ
no_byte = 256

-- the byte at a place
abbrev pub byte_at : List ℕ → ℕ → ℕ
byte_at s at = get_or s at no_byte

abbrev pub within : (low high b : ℕ) → Bool
within low high b = leb low b && leb b high

-- equal texts
unfoldable pub same : Text → Text → Bool
same [] [] = true
same [] (b ∷ bs) = false
same (a ∷ xs) [] = false
same (a ∷ xs) (b ∷ bs) = elim (eqb a b) [ true ↦ same xs bs | false ↦ false ]

-- The first place, from a place on, that a test does not pass, by steps from one place to the next; at most so many steps are made.
-- As many as the text has bytes are enough: each step goes forward, and no test passes at the end (module Skips of `theory`).
unfoldable pub skip : (test : ℕ → Bool) (step : ℕ → ℕ) (fuel at : ℕ) → ℕ
skip test step zero at = at
skip test step (suc n) at = elim (test at) [ true ↦ skip test step n (step at) | false ↦ at ]

-- a text stands at an offset of another
abbrev pub At : (text : List ℕ) (offset : ℕ) (t : Text) → Type 0
At text o t = (before : List ℕ) × (after : List ℕ) × (length before ≡ o) × (text ≡ before ++ (t ++ after))

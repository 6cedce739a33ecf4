-- Document 01, number 2: ill-formed UTF-8, at the first byte of the first ill-formed sequence (the Unicode Standard's table of
-- well-formed byte sequences).
use Rattle.std.specs.Prelude.{ℕ, zero, suc, ◌+◌, ◌/◌, ◌%◌, List, [], ◌∷◌, Bool, true, false, leb, ltb, eqb, length}
use Rattle.std.proofs.Math.Option.{Option, none, some}
use Rattle.rules.specs.Bytes.{Text, byte_at, within, skip}

-- a byte behind the second of a sequence
abbrev pub continues : ℕ → Bool
continues b = within 128 191 b

-- the second byte's range hangs on the first: no overlong form, no surrogate, nothing past U+10FFFF
unfoldable pub lowest : ℕ → ℕ
lowest lead = elim (eqb lead 224) [ true ↦ 160 | false ↦ elim (eqb lead 240) [ true ↦ 144 | false ↦ 128 ] ]

unfoldable pub highest : ℕ → ℕ
highest lead = elim (eqb lead 237) [ true ↦ 159 | false ↦ elim (eqb lead 244) [ true ↦ 143 | false ↦ 191 ] ]

-- how long the sequence is that a lead byte starts; 0 where it starts none
unfoldable pub promised : ℕ → ℕ
promised lead =
    elim (leb lead 127) [
      | true ↦ 1
      | false ↦ elim (within 194 223 lead) [
        | true ↦ 2
        | false ↦ elim (within 224 239 lead) [ true ↦ 3 | false ↦ elim (within 240 244 lead) [ true ↦ 4 | false ↦ 0 ] ]
      ]
    ]

-- the bytes from a place on that are all continuations, as many as are asked for
unfoldable pub continued : (count : ℕ) (s : List ℕ) (at : ℕ) → Bool
continued zero s at = true
continued (suc n) s at = elim (continues (byte_at s at)) [ true ↦ continued n s (at + 1) | false ↦ false ]

-- the length of the well-formed sequence at a place; 0 where there is none
unfoldable pub sequence_at : List ℕ → ℕ → ℕ
unfolding promised lowest highest continued
sequence_at s at =
    elim (promised (byte_at s at)) [
      | zero ↦ 0
      | suc n ↦ elim n [
        | zero ↦ 1
        | suc m ↦ elim (within (lowest (byte_at s at)) (highest (byte_at s at)) (byte_at s (at + 1))) [
          | true ↦ elim (continued m s (at + 2)) [ true ↦ m + 2 | false ↦ 0 ]
          | false ↦ 0
        ]
      ]
    ]

-- the place after the well-formed sequences from the start on
unfoldable pub well_formed_end : List ℕ → ℕ
unfolding skip sequence_at
well_formed_end s = skip (λ p. ltb 0 (sequence_at s p)) (λ p. p + sequence_at s p) (length s) 0

-- the place of number 2, if there is one
unfoldable pub ill_formed : List ℕ → Option ℕ
unfolding well_formed_end
ill_formed s = elim (ltb (well_formed_end s) (length s)) [ true ↦ some (well_formed_end s) | false ↦ none ]

-- the bytes of a code point
unfoldable pub encoded : ℕ → Text
encoded c =
    elim (ltb c 128) [
      | true ↦ c ∷ []
      | false ↦ elim (ltb c 2048) [
        | true ↦ (192 + c / 64) ∷ (128 + c % 64) ∷ []
        | false ↦ elim (ltb c 65536) [
          | true ↦ (224 + c / 4096) ∷ (128 + c / 64 % 64) ∷ (128 + c % 64) ∷ []
          | false ↦ (240 + c / 262144) ∷ (128 + c / 4096 % 64) ∷ (128 + c / 64 % 64) ∷ (128 + c % 64) ∷ []
        ]
      ]
    ]

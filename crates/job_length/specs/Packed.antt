-- A length's 64 bits, and that the header's functions take out of them what was packed into them.
use Rattle.std.specs.Prelude.{◌≡◌, true, List, [], ◌∷◌, ℕ, ◌+◌, ◌*◌, ◌/◌, ◌%◌, ◌<◌}
use Rattle.std.proofs.Common.{inl, inr}
use native.Mathlib.Omega.{arith}
use Rattle.answers.specs.Ask.{mem}
use Rattle.answers.specs.Theory.Sound.{clash, All, mem-cases}
use Rattle.rules.specs.Refusals.{length_numbers}
use Rattle.rules.specs.LookUp.{text_at}
use Rattle.rules.specs.Micrometres.{Measured, no_length}
use Rattle.rules.specs.Jobs.{length_job}
use Rattle.theory.specs.Micrometres.{Answered, exactly, refusal, length-answered}

-- Bits 0 to 5: the number. Bits 6 to 25: the micrometres. The others are 0.
unfoldable pub packed_length : Measured → ℕ
packed_length m = m.number + m.micrometres * 64

-- dz_length_number
abbrev pub number_in : ℕ → ℕ
number_in answer = answer % 64

-- dz_length_micrometres
abbrev pub micrometres_in : ℕ → ℕ
micrometres_in answer = answer / 64 % 1048576

-- both have room in their bits
pub record Roomy (m : Measured) : Type 0 where
  pub number : m.number < 64
  pub micrometres : m.micrometres < 1048576

all-mem : (ns : List ℕ) → All (λ n. n < 64) ns → (q : ℕ) → mem q ns ≡ true → q < 64
all-mem [] h q e = clash (cc)
all-mem (n ∷ ns) h q e = elim (mem-cases n ns q e) [ inl z ↦ rw (← z) h.0 | inr k ↦ all-mem ns h.1 q k ]

numbers-small : All (λ n. n < 64) length_numbers
numbers-small = (omega arith, (omega arith, (omega arith, (omega arith, (omega arith, (omega arith, (omega arith, tt)))))))

module _ (table text : List ℕ) where
  pub length-roomy : Roomy (length_job table text)
  unfolding no_length
  length-roomy = go (length_job table text) (length-answered table text)
    where
      go : (m : Measured) → Answered length_numbers (text_at table text 0) m → Roomy m
      go m (exactly z e) = record { number = omega arith; micrometres = omega (arith, e.within-limit) }
      go m (refusal n k q) = let l = all-mem length_numbers numbers-small n k in rw q (record { number = l; micrometres = omega arith })

  pub length-unpacks : (number_in (packed_length (length_job table text)) ≡ (length_job table text).number)
      × (micrometres_in (packed_length (length_job table text)) ≡ (length_job table text).micrometres)
  unfolding packed_length
  length-unpacks = let r = length-roomy in (low (length_job table text) r, high (length_job table text) r)
    where
      low : (m : Measured) → Roomy m → (m.number + m.micrometres * 64) % 64 ≡ m.number
      low m r = omega arith

      high : (m : Measured) → Roomy m → (m.number + m.micrometres * 64) / 64 % 1048576 ≡ m.micrometres
      high m r = omega arith

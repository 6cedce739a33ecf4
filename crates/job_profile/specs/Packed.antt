-- A profile's 64 bits, and that the header's functions take out of them what was packed into them.
use Rattle.std.specs.Prelude.{◌≡◌, ℕ, ◌+◌, ◌*◌, ◌/◌, ◌%◌, ◌<◌, true, List, [], ◌∷◌}
use Rattle.std.proofs.Common.{inl, inr}
use native.Mathlib.Omega.{arith}
use Rattle.answers.specs.Ask.{mem}
use Rattle.answers.specs.Theory.Sound.{clash, All, mem-cases}
use Rattle.rules_profile.specs.Profile.{profile_numbers, Profile, no_profile, profile_job}
use Rattle.job_profile.specs.Clauses.{ProfileRead, profile_of}
use Rattle.job_profile.specs.Promises.{Told, first-told, second-told, refused-told, profile-told, profile-bounded}

-- Bits 0 to 5: the number. Bits 6 and 7: the edition. Bits 8 to 32: the minimum. Bits 33 to 57: the maximum. The others are 0.
unfoldable pub packed_profile : Profile → ℕ
packed_profile p = p.number + p.edition * 64 + p.minimum * 256 + p.maximum * 8589934592

-- dz_profile_number
abbrev pub number_in : ℕ → ℕ
number_in answer = answer % 64

-- dz_profile_edition
abbrev pub edition_in : ℕ → ℕ
edition_in answer = answer / 64 % 4

-- dz_profile_minimum
abbrev pub minimum_in : ℕ → ℕ
minimum_in answer = answer / 256 % 33554432

-- dz_profile_maximum
abbrev pub maximum_in : ℕ → ℕ
maximum_in answer = answer / 8589934592 % 33554432

-- each has room in its bits, so that none spills
pub record Roomy (p : Profile) : Type 0 where
  pub number : p.number < 64
  pub edition : p.edition < 4
  pub minimum : p.minimum < 33554432
  pub maximum : p.maximum < 33554432

all-mem : (ns : List ℕ) → All (λ n. n < 64) ns → (q : ℕ) → mem q ns ≡ true → q < 64
all-mem [] h q e = clash (cc)
all-mem (n ∷ ns) h q e = elim (mem-cases n ns q e) [ inl z ↦ rw (← z) h.0 | inr k ↦ all-mem ns h.1 q k ]

numbers-small : All (λ n. n < 64) profile_numbers
numbers-small = (omega arith, (omega arith, (omega arith, (omega arith, (omega arith, (omega arith, (omega arith, tt)))))))

module _ (table text : List ℕ) where
  pub profile-roomy : Roomy (profile_job table text)
  unfolding no_profile
  profile-roomy =
      let b = profile-bounded table text in
      record {
        number = go (profile_job table text) (profile-told table text);
        edition = omega (arith, b.known);
        minimum = omega (arith, b.in_order, b.not-longer);
        maximum = omega (arith, b.not-longer);
      }
    where
      go : (p : Profile) → Told table text profile_numbers p → p.number < 64
      go p (first-told step z e s a b l) = omega arith
      go p (second-told z e u a b l) = omega arith
      go p (refused-told n m q) = rw q (all-mem profile_numbers numbers-small n m)

  pub profile-unpacks : (number_in (packed_profile (profile_job table text)) ≡ (profile_job table text).number)
      × (edition_in (packed_profile (profile_job table text)) ≡ (profile_job table text).edition)
      × (minimum_in (packed_profile (profile_job table text)) ≡ (profile_job table text).minimum)
      × (maximum_in (packed_profile (profile_job table text)) ≡ (profile_job table text).maximum)
  unfolding packed_profile
  profile-unpacks = go (profile_job table text) profile-roomy
    where
      go : (p : Profile) → Roomy p
          → (number_in (packed_profile p) ≡ p.number) × (edition_in (packed_profile p) ≡ p.edition)
          × (minimum_in (packed_profile p) ≡ p.minimum) × (maximum_in (packed_profile p) ≡ p.maximum)
      go p r = (
        omega (arith, r.number),
        omega (arith, r.number, r.edition),
        omega (arith, r.number, r.edition, r.minimum),
        omega (arith, r.number, r.edition, r.minimum, r.maximum),
      )

-- what the code's packing asks
pub record Packable (r : ProfileRead) : Type 0 where
  pub room : Roomy (profile_of r)

pub answer-packable : (table text : List ℕ) (r : ProfileRead) → profile_of r ≡ profile_job table text → Packable r
answer-packable table text r e = record { room = rw e (profile-roomy table text) }

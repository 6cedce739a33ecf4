-- The answers of look-up, of length and of profile in their 64 bits.
use mathlib.Core.Path.{◌≡◌, ◌∙◌, ap}
use mathlib.Core.List.{List}
use Prim.Native.Nat.{ℕ}
use Rattle.rules.specs.Jobs as J
use Rattle.sheet_paths.specs.Answers.{Found, job_of, packed, Packable}
use Rattle.text_lengths.specs.Micrometres.Contracts.{measured_of, MeasuredIs}
use Rattle.std.specs.Prelude.{Result}
use Rattle.text_chars.specs.declared.Refusal.{Refusal}
use Rattle.job_length.specs.Packed.{packed_length}
use Rattle.job_look_up.specs.LookUpJob.{answer-packable}
use Rattle.rules_profile.specs.Profile.{profile_job}
use Rattle.job_profile.specs.Clauses.{ProfileRead, profile_of, ProfileIs}
use Rattle.job_profile.specs.Packed as profiles
use Rattle.job_profile.specs.Packed.{packed_profile}

module _ (table text path : List ℕ) (r : Found) (k : job_of r ≡ J.look_up_job table text path) where
  pub packable-answer : Packable r
  packable-answer = answer-packable table text path r k

  pub packed-answer : {v : ℕ} → v ≡ packed (job_of r) → v ≡ packed (J.look_up_job table text path)
  packed-answer e = e ∙ ap packed k

pub packed-length : (table text : List ℕ) (m : Result ℕ Refusal) {v : ℕ} → MeasuredIs (J.length_job table text) m → v ≡ packed_length (measured_of m)
    → v ≡ packed_length (J.length_job table text)
packed-length table text m k e = e ∙ ap packed_length k.is

module _ (table text : List ℕ) (r : ProfileRead) (k : ProfileIs (profile_job table text) r) where
  pub packable-profile : profiles.Packable r
  packable-profile = profiles.answer-packable table text r k.is

  pub packed-profile : {v : ℕ} → v ≡ packed_profile (profile_of r) → v ≡ packed_profile (profile_job table text)
  packed-profile e = e ∙ ap packed_profile k.is

-- The job, step by step, whatever the rules of the two editions are; so that the rules of one are never tried on the other's file.
use Rattle.std.specs.Prelude.{◌≡◌, ℕ, ◌≤◌, List, Bool, ◌&&◌, leb, length}
use Rattle.std.proofs.Math.Path.{refl}
use Rattle.std.proofs.Math.Bool.{true, false}
use borrow.Author.Tests.{le-leb, leb-true}
use Rattle.rules.specs.Sizes.{max_room}
use Rattle.rules.specs.LookUp.{is_whole}
use Rattle.theory_text.specs.Choices.{same_test}
use Rattle.theory.specs.Layout.{both_true}
use Rattle.rules_profile.specs.Profile.{Profile, no_profile, Edition, first, second, edition_named}
use Rattle.rules_profile.specs.Profile.{first_edition, second_edition, by_edition, profile_by, profile_job}

-- an edition's rules: what they say of a table and its text part
abbrev pub Rules : Type 0
Rules = List ℕ → List ℕ → Profile

abbrev lent_bounds : (table text : List ℕ) → Bool
lent_bounds table text = leb (length table) max_room && leb (length text) max_room

module _ (one two : Rules) (table text : List ℕ) where
  pub profile-long : (length table ≤ max_room → length text ≤ max_room → ⊥) → profile_by one two table text ≡ no_profile 1
  unfolding profile_by
  profile-long h = go (lent_bounds table text) refl
    where
      go : (t : Bool) → lent_bounds table text ≡ t → profile_by one two table text ≡ no_profile 1
      go true e = let (f, g) = both_true _ _ e in absurd (h (leb-true _ _ f) (leb-true _ _ g))
      go false e = rw (profile_by, e)

  module _ (short : length table ≤ max_room) (short-text : length text ≤ max_room) where
    pub profile-not-whole : is_whole table (length text) ≡ false → profile_by one two table text ≡ no_profile 15
    unfolding profile_by
    profile-not-whole e = rw (profile_by, le-leb _ _ short, le-leb _ _ short-text, e)

    -- of a whole table the edition that it names chooses, and nothing else of it is looked at before
    pub profile-whole : is_whole table (length text) ≡ true
        → profile_by one two table text ≡ by_edition one two table text (edition_named table text)
    unfolding profile_by
    profile-whole e = rw (profile_by, le-leb _ _ short, le-leb _ _ short-text, e)

-- ---- "neither edition's rules are ever tried on the other's file"

-- A file that names one edition gets the same answer whatever the rules of the other are.
module _ (table text : List ℕ) where
  first-chosen : (one two other : Rules) (x : Edition) → x ≡ first → by_edition one two table text x ≡ by_edition one other table text x
  unfolding by_edition
  first-chosen one two other x e = rw e

  pub first_alone : (one two other : Rules) → edition_named table text ≡ first
      → profile_by one two table text ≡ profile_by one other table text
  unfolding profile_by
  first_alone one two other e =
      same_test (lent_bounds table text)
      (λ f. same_test (is_whole table (length text)) (λ g. first-chosen one two other (edition_named table text) e) (λ g. refl)) (λ f. refl)

  second-chosen : (one two other : Rules) (x : Edition) → x ≡ second → by_edition one two table text x ≡ by_edition other two table text x
  unfolding by_edition
  second-chosen one two other x e = rw e

  pub second-alone : (one two other : Rules) → edition_named table text ≡ second
      → profile_by one two table text ≡ profile_by other two table text
  unfolding profile_by
  second-alone one two other e =
      same_test (lent_bounds table text)
      (λ f. same_test (is_whole table (length text)) (λ g. second-chosen one two other (edition_named table text) e) (λ g. refl)) (λ f. refl)

  -- the job, by cases of `profile`
  pub profile-editions : length table ≤ max_room → length text ≤ max_room → is_whole table (length text) ≡ true
      → profile_job table text ≡ by_edition first_edition second_edition table text (edition_named table text)
  unfolding profile_job
  profile-editions = profile-whole first_edition second_edition table text

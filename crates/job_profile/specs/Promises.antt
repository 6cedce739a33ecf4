-- What the job promises beside its equation: which refusals it gives, and what they leave; that what is answered is exact, in order and
-- within its bits; and that its values are those which look-up finds. Each is one statement for all lists of numbers.
use Rattle.std.specs.Prelude.{◌≡◌, ℕ, ◌*◌, ◌≤◌, List, [], ◌∷◌, Bool, ◌&&◌, ◌↔◌, ltb, eqb}
use Rattle.std.proofs.Math.Path.{refl, sym, ap}
use Rattle.std.proofs.Common.{◌∙◌, mul-le-mul, arith, leb-true, ltb-false, eqb-true}
use Prim.Native.String.{String}
use Rattle.std.proofs.Math.Bool.{true, false}
use Rattle.std.proofs.Math.Option.{Option, none, some}
use Rattle.std.proofs.Math.Dec.{leb}
use Rattle.std.proofs.Math.ListN.{length}
use Rattle.answers.specs.Ask.{mem}
use Rattle.answers.specs.Theory.Sound.{clash}
use Rattle.rules.specs.Sizes.{max_room}
use Rattle.rules.specs.Bytes.{Text, same}
use Rattle.rules.specs.Numbers.{after_int}
use Rattle.rules.specs.Micrometres as lengths
use Rattle.rules.specs.Micrometres.{no_length, digits_value, length_of}
use Rattle.rules.specs.Utf8.{ill_formed}
use Rattle.rules.specs.Paths.{path_text}
use Rattle.rules.specs.LookUp.{is_whole, value_named}
use Rattle.rules.specs.Cases.{bytes}
use Rattle.rules.specs.Jobs.{found_at, look_up_job}
use Rattle.theory_text.specs.Choices.{by-test, by-option}
use Rattle.theory.specs.Scanning.{among-all}
use Rattle.theory.specs.Layout.{both_true}
use Rattle.theory.specs.TableSteps.{some_one}
use Rattle.theory.specs.LookUpSteps.{look-up-path}
use Rattle.theory.specs.Micrometres.{Exact, form_numbers, Answered, exactly, refusal, text-answered}
use Rattle.rules_profile.specs.Profile.{profile_numbers, Profile, no_profile, profile, unit, plate, min, max, millimetres, inches, text_named}
use Rattle.rules_profile.specs.Profile.{Edition, first, second, unnamed, edition_named}
use Rattle.rules_profile.specs.Profile.{thousandth, max_bare, step_of, bare_length, written_length}
use Rattle.rules_profile.specs.Profile.{limits_of, first_edition, second_edition, by_edition, profile_by, profile_job}
use Rattle.job_profile.specs.Editions.{profile-long, profile-not-whole, profile-editions}

-- ---- the lengths

-- A length of edition 1: digits only, a JSON number, at most 100,000 of the step that `unit` names.
pub record Bare (step : ℕ) (o : Option Text) (n : ℕ) : Type 0 where
  pub written : Text
  pub is-there : o ≡ some written
  pub digits : after_int written 0 ≡ some (length written)
  pub few : digits_value written ≤ max_bare
  pub exact : n ≡ digits_value written * step

-- A length of edition 2: exactly so many micrometres by the rules of No. 3, each of which is ten.
pub record Written (o : Option Text) (n : ℕ) : Type 0 where
  pub written : Text
  pub micrometres : ℕ
  pub is-there : o ≡ some written
  pub exactly-so-many : Exact written micrometres
  pub exact : n ≡ micrometres * 10

abbrev fine : Text → ℕ → Bool
fine t end = eqb end (length t) && leb (digits_value t) max_bare

pub bare-inv : (step : ℕ) (o : Option Text) (n : ℕ) → bare_length step o ≡ some n → Bare step o n
unfolding bare_length
bare-inv step none n e = clash (cc)
bare-inv step (some t) n e = go (after_int t 0) refl e
  where
    go : (p : Option ℕ) → after_int t 0 ≡ p
        → elim p as (λ p. Option ℕ) [
          | none ↦ none
          | some end ↦ elim (fine t end) as (λ b. Option ℕ) [ true ↦ some (digits_value t * step) | false ↦ none ]
        ] ≡ some n
        → Bare step (some t) n
    go none f q = clash (cc)
    go (some end) f q = test (fine t end) refl q
      where
        test : (b : Bool) → fine t end ≡ b → elim b as (λ b. Option ℕ) [ true ↦ some (digits_value t * step) | false ↦ none ] ≡ some n
            → Bare step (some t) n
        test true g k =
            let (h, l) = both_true _ _ g in
            record {
              written = t;
              is-there = refl;
              digits = f ∙ ap {B = Option ℕ} some (eqb-true end (length t) h);
              few = leb-true _ _ l;
              exact = sym (some_one k);
            }
        test false g k = clash (cc)

length-exact : (s : Text) (m : lengths.Measured) → Answered form_numbers s m → m.number ≡ 0 → Exact s m.micrometres
unfolding no_length
length-exact s m (exactly z e) f = e
length-exact s m (refusal n h q) f = let z : n ≡ 0 = sym (ap (λ (x : lengths.Measured). x.number) q) ∙ f in clash (cc)

pub written-inv : (o : Option Text) (n : ℕ) → written_length o ≡ some n → Written o n
unfolding written_length
written-inv none n e = clash (cc)
written-inv (some t) n e = go (eqb (length_of true t).number 0) refl e
  where
    go : (b : Bool) → eqb (length_of true t).number 0 ≡ b
        → elim b as (λ b. Option ℕ) [ true ↦ some ((length_of true t).micrometres * 10) | false ↦ none ] ≡ some n → Written (some t) n
    go true f q = record {
      written = t;
      micrometres = (length_of true t).micrometres;
      is-there = refl;
      exactly-so-many = length-exact t (length_of true t) (text-answered t true) (eqb-true _ _ f);
      exact = sym (some_one q);
    }
    go false f q = clash (cc)

-- ---- the job

-- what is refused of a whole table
abbrev pub whole_numbers : List ℕ
whole_numbers = 39 ∷ 40 ∷ 41 ∷ 42 ∷ 43 ∷ []

module _ (table text : List ℕ) where
  -- the texts of both limits, as a number's or a string's
  abbrev pub lower : ℕ → Option Text
  lower kind = text_named table text kind (plate ∷ min ∷ [])

  abbrev pub upper : ℕ → Option Text
  upper kind = text_named table text kind (plate ∷ max ∷ [])

  -- Edition 1 or edition 2, each limit exact by its own rules, and both in order; or a refusal by one of these numbers, and all else 0.
  pub data Told (numbers : List ℕ) (p : Profile) : Type 0 where
    first-told : (step : ℕ) → p.number ≡ 0 → p.edition ≡ 1 → step_of (text_named table text 5 (unit ∷ [])) ≡ some step
        → Bare step (lower 4) p.minimum → Bare step (upper 4) p.maximum → p.minimum ≤ p.maximum → Told numbers p
    second-told : p.number ≡ 0 → p.edition ≡ 2 → value_named table text (unit ∷ []) 0 ≡ none
        → Written (lower 5) p.minimum → Written (upper 5) p.maximum → p.minimum ≤ p.maximum → Told numbers p
    refused-told : (n : ℕ) → mem n numbers ≡ true → p ≡ no_profile n → Told numbers p

  refuses : {numbers : List ℕ} (n : ℕ) → mem n numbers ≡ true → Told numbers (no_profile n)
  refuses n h = refused-told n h refl

  abbrev ToldWhole : Profile → Type 0
  ToldWhole p = Told whole_numbers p

  limits-told : (edition : ℕ) (low high : Option ℕ)
      → ((a b : ℕ) → low ≡ some a → high ≡ some b → a ≤ b → ToldWhole (record { number = 0; edition = edition; minimum = a; maximum = b }))
      → ToldWhole (limits_of edition low high)
  unfolding limits_of
  limits-told edition none high h = refuses 41 refl
  limits-told edition (some a) none h = refuses 42 refl
  limits-told edition (some a) (some b) h = by-test ToldWhole (ltb b a) (λ e. refuses 43 refl) (λ e. h a b refl refl (ltb-false b a e))

  first-edition-told : ToldWhole (first_edition table text)
  unfolding first_edition
  first-edition-told =
      by-option ToldWhole (step_of (text_named table text 5 (unit ∷ []))) (λ e. refuses 40 refl)
      (λ step e. limits-told 1 (bare_length step (lower 4)) (bare_length step (upper 4))
      (λ a b f g h. first-told step refl refl e (bare-inv step (lower 4) a f) (bare-inv step (upper 4) b g) h))

  second-edition-told : ToldWhole (second_edition table text)
  unfolding second_edition
  second-edition-told =
      by-option ToldWhole (value_named table text (unit ∷ []) 0)
      (λ e. limits-told 2 (written_length (lower 5)) (written_length (upper 5))
      (λ a b f g h. second-told refl refl e (written-inv (lower 5) a f) (written-inv (upper 5) b g) h))
      (λ at e. refuses 40 refl)

  edition-told : (x : Edition) → ToldWhole (by_edition first_edition second_edition table text x)
  unfolding by_edition
  edition-told first = first-edition-told
  edition-told second = second-edition-told
  edition-told unnamed = refuses 39 refl

  more_numbers : {p : Profile} → ToldWhole p → Told profile_numbers p
  more_numbers (first-told step z e s a b l) = first-told step z e s a b l
  more_numbers (second-told z e u a b l) = second-told z e u a b l
  more_numbers (refused-told n m q) =
      refused-told n (among-all whole_numbers profile_numbers (refl, (refl, (refl, (refl, (refl, tt))))) n m) q

  pub profile-told : Told profile_numbers (profile_job table text)
  unfolding profile_job profile_by
  profile-told =
      by-test (Told profile_numbers) (leb (length table) max_room && leb (length text) max_room)
      (λ e. by-test (Told profile_numbers) (is_whole table (length text)) (λ f. more_numbers (edition-told (edition_named table text)))
      (λ f. refuses 15 refl)) (λ e. refuses 1 refl)

  -- ---- refusals

  -- one of the job's numbers, and all else 0
  pub profile-refusal : ((profile_job table text).number ≡ 0 → ⊥)
      → (mem (profile_job table text).number profile_numbers ≡ true) × (profile_job table text ≡ no_profile (profile_job table text).number)
  unfolding no_profile
  profile-refusal h = go (profile_job table text) profile-told h
    where
      go : (p : Profile) → Told profile_numbers p → (p.number ≡ 0 → ⊥)
          → (mem p.number profile_numbers ≡ true) × (p ≡ no_profile p.number)
      go p (first-told step z e s a b l) h = absurd (h z)
      go p (second-told z e u a b l) h = absurd (h z)
      go p (refused-told n m q) h = rw q (m, refl)

  -- "after 1 and 15", which are look-up's: no number of the editions is one of them
  other-number : (p : Profile) (n : ℕ) → ToldWhole p → mem n (0 ∷ whole_numbers) ≡ false → p.number ≡ n → ⊥
  unfolding no_profile
  other-number p n (first-told step z e s a b l) h f = let g : n ≡ 0 = sym f ∙ z in absurd (clash {A = ⊥} (cc (rw g at h)))
  other-number p n (second-told z e u a b l) h f = let g : n ≡ 0 = sym f ∙ z in absurd (clash {A = ⊥} (cc (rw g at h)))
  other-number p n (refused-told m k q) h f =
      let g : m ≡ n = sym (ap (λ (x : Profile). x.number) q) ∙ f in
      let i : mem n (0 ∷ whole_numbers) ≡ true =
      among-all whole_numbers (0 ∷ whole_numbers) (refl, (refl, (refl, (refl, (refl, tt))))) n (rw g at k) in
      absurd (clash {A = ⊥} (cc))

  abbrev whole_is : length table ≤ max_room → length text ≤ max_room → is_whole table (length text) ≡ true
      → (profile_job table text).number ≡ (by_edition first_edition second_edition table text (edition_named table text)).number
  whole_is a b w = ap (λ (p : Profile). p.number) (profile-editions table text a b w)

  pub profile-1 : ((profile_job table text).number ≡ 1) ↔ ((length table ≤ max_room) × (length text ≤ max_room) → ⊥)
  unfolding no_profile profile_job
  profile-1 = (
    λ e l. go e l.0 l.1 (is_whole table (length text)) refl,
    λ h. ap (λ (p : Profile). p.number) (profile-long first_edition second_edition table text (λ a b. h (a, b))),
  )
    where
      go : (profile_job table text).number ≡ 1 → length table ≤ max_room → length text ≤ max_room
          → (w : Bool) → is_whole table (length text) ≡ w → ⊥
      go e a b true w = other-number _ 1 (edition-told (edition_named table text)) refl (sym (whole_is a b w) ∙ e)
      go e a b false w =
          absurd (omega (arith, e, ap (λ (p : Profile). p.number) (profile-not-whole first_edition second_edition table text a b w)))

  pub profile-15 : length table ≤ max_room → length text ≤ max_room
      → ((profile_job table text).number ≡ 15) ↔ (is_whole table (length text) ≡ false)
  unfolding no_profile profile_job
  profile-15 a b = (
    λ e. go e (is_whole table (length text)) refl,
    λ w. ap (λ (p : Profile). p.number) (profile-not-whole first_edition second_edition table text a b w),
  )
    where
      go : (profile_job table text).number ≡ 15 → (w : Bool) → is_whole table (length text) ≡ w → is_whole table (length text) ≡ false
      go e true w = absurd (other-number _ 15 (edition-told (edition_named table text)) refl (sym (whole_is a b w) ∙ e))
      go e false w = w

-- ---- within its bits

-- the longest of all: 100,000 thousandths of an inch
abbrev pub max_length : ℕ
max_length = 25400000

abbrev SmallStep : Option ℕ → Type 0
SmallStep none = Unit {0}
SmallStep (some step) = step ≤ thousandth

step_small : (o : Option Text) → SmallStep (step_of o)
unfolding step_of
step_small none = tt
step_small (some t) =
    by-test SmallStep (same t millimetres) (λ e. omega arith)
    (λ e. by-test SmallStep (same t inches) (λ f. omega arith) (λ f. tt))

bare-small : {step n : ℕ} {o : Option Text} → step ≤ thousandth → Bare step o n → n ≤ max_length
bare-small h b = omega (arith, b.exact, mul-le-mul b.few h)

written_small : {n : ℕ} {o : Option Text} → Written o n → n ≤ max_length
written_small w = omega (arith, w.exact, w.exactly-so-many.within-limit)

-- an edition of two, and limits in order, neither over the longest
pub record Bounded (p : Profile) : Type 0 where
  pub known : p.edition ≤ 2
  pub in_order : p.minimum ≤ p.maximum
  pub not-longer : p.maximum ≤ max_length

pub profile-bounded : (table text : List ℕ) → Bounded (profile_job table text)
unfolding no_profile
profile-bounded table text = go (profile_job table text) (profile-told table text)
  where
    go : (p : Profile) → Told table text profile_numbers p → Bounded p
    go p (first-told step z e s a b l) =
        let h : step ≤ thousandth = rw s at (step_small (text_named table text 5 (unit ∷ []))) in
        record { known = omega arith; in_order = l; not-longer = bare-small h b }
    go p (second-told z e u a b l) = record { known = omega arith; in_order = l; not-longer = written_small b }
    go p (refused-told n m q) = rw q (record { known = omega arith; in_order = omega arith; not-longer = omega arith })

-- ---- by the look-up that stands

-- The paths of the definitions are those that look-up reads from these texts; so each value is the one that it finds.
module _ (table text : List ℕ) (short : length table ≤ max_room) (short-text : length text ≤ max_room)
    (whole : is_whole table (length text) ≡ true) where
  abbrev Finds : String → List Text → Type 0
  Finds path names = look_up_job table text (bytes path) ≡ found_at table text (value_named table text names 0)

  pub found-profile : Finds "profile" (profile ∷ [])
  unfolding path_text ill_formed bytes
  found-profile = look-up-path table text (bytes "profile") short short-text (omega arith) whole refl (profile ∷ []) 7 refl

  pub found-unit : Finds "unit" (unit ∷ [])
  unfolding path_text ill_formed bytes
  found-unit = look-up-path table text (bytes "unit") short short-text (omega arith) whole refl (unit ∷ []) 4 refl

  pub found-minimum : Finds "plate.min" (plate ∷ min ∷ [])
  unfolding path_text ill_formed bytes
  found-minimum = look-up-path table text (bytes "plate.min") short short-text (omega arith) whole refl (plate ∷ min ∷ []) 9 refl

  pub found-maximum : Finds "plate.max" (plate ∷ max ∷ [])
  unfolding path_text ill_formed bytes
  found-maximum = look-up-path table text (bytes "plate.max") short short-text (omega arith) whole refl (plate ∷ max ∷ []) 9 refl

-- Lengths: what is answered is exact and within its limit, and a refusal has a number of the list, no place and no micrometres.
use Rattle.std.specs.Prelude.{◌≡◌, ℕ, ◌*◌, ◌/◌, ◌%◌, ◌^◌, ◌≤◌, List, [], ◌∷◌, ◌++◌, Bool, ◌&&◌, eqb}
use Rattle.std.proofs.Math.Path.{refl}
use Rattle.std.proofs.Math.Bool.{true, false}
use Rattle.std.proofs.Math.Option.{Option, none, some}
use Rattle.std.proofs.Math.Nat.{dvd_of_mod-eq-zero, div-mul_cancel}
use Rattle.std.proofs.Math.Dec.{leb}
use Rattle.std.proofs.Math.ListN.{length}
use borrow.Author.Tests.{le-leb, leb-true, eqb-true}
use Rattle.answers.specs.Ask.{mem}
use Rattle.answers.specs.Theory.Sound.{All}
use Rattle.rules.specs.Sizes.{max_room, max_micrometres}
use Rattle.rules.specs.Bytes.{Text, byte_at, within}
use Rattle.rules.specs.Refusals.{length_numbers, nowhere}
use Rattle.rules.specs.Utf8.{ill_formed}
use Rattle.rules.specs.LookUp.{is_whole, text_at}
use Rattle.rules.specs.Micrometres.{Measured, no_length, Decimal, decimal_of, digits_value, after_space, unit_at, in_micrometres, with_unit, with_rest, length_of}
use Rattle.rules.specs.Jobs.{record_length, length_job}
use Rattle.theory_text.specs.Choices.{by-test, by-option}
use Rattle.theory.specs.Scanning.{among-all}
use Rattle.theory.specs.Layout.{both_true}

-- A text of so many micrometres: they are the digits times the unit, divided by ten to the number of digits behind the dot, and nothing is
-- left over.
pub record Exact (s : Text) (micrometres : ℕ) : Type 0 where
  pub decimal : Decimal
  pub unit : ℕ
  pub has-decimal : decimal_of s ≡ some decimal
  pub has-unit : unit_at s (after_space s decimal.end) ≡ some unit
  pub no_minus : decimal.minus ≡ false
  pub exact : micrometres * 10 ^ length decimal.fraction ≡ digits_value (decimal.whole ++ decimal.fraction) * unit
  pub within-limit : micrometres ≤ max_micrometres

-- what is refused of a whole table
abbrev pub form_numbers : List ℕ
form_numbers = 20 ∷ 21 ∷ 22 ∷ 23 ∷ 24 ∷ []

-- a length, or a refusal by one of these numbers, without a place
pub data Answered (numbers : List ℕ) (s : Text) (r : Measured) : Type 0 where
  exactly : r.number ≡ 0 → Exact s r.micrometres → Answered numbers s r
  refusal : (n : ℕ) → mem n numbers ≡ true → r ≡ no_length (nowhere n) → Answered numbers s r

refuses : {numbers : List ℕ} {s : Text} (n : ℕ) → mem n numbers ≡ true → Answered numbers s (no_length (nowhere n))
refuses n h = refusal n h refl

module _ (s : Text) where
  abbrev pub Formed : Measured → Type 0
  Formed r = Answered form_numbers s r

  module _ (d : Decimal) (reads : decimal_of s ≡ some d) where
    in-answered : (unit : ℕ) → unit_at s (after_space s d.end) ≡ some unit → d.minus ≡ false → Formed (in_micrometres unit d)
    unfolding in_micrometres
    in-answered unit u z =
        let product = digits_value (d.whole ++ d.fraction) * unit in
        let scale = 10 ^ length d.fraction in
        by-test Formed (eqb (product % scale) 0)
        (λ e. by-test Formed (leb (product / scale) max_micrometres)
        (λ l. exactly refl (record {
          decimal = d;
          unit = unit;
          has-decimal = reads;
          has-unit = u;
          no_minus = z;
          exact = div-mul_cancel scale (dvd_of_mod-eq-zero scale (eqb-true _ _ e));
          within-limit = leb-true _ _ l;
        }))
        (λ l. refuses 24 refl))
        (λ e. refuses 23 refl)

    unit-answered : (o : Option ℕ) → unit_at s (after_space s d.end) ≡ o → Formed (with_unit d o)
    unfolding with_unit
    unit-answered none u = refuses 20 refl
    unit-answered (some unit) u = by-test Formed d.minus (λ e. refuses 22 refl) (λ e. in-answered unit u e)

    rest-answered : (string : Bool) → Formed (with_rest string s d)
    unfolding with_rest
    rest-answered string =
        by-test Formed (eqb d.end (length s)) (λ e. refuses 21 refl)
        (λ e. by-test Formed string (λ f. unit-answered _ refl) (λ f. refuses 20 refl))

  pub text-answered : (string : Bool) → Formed (length_of string s)
  unfolding length_of
  text-answered string =
      by-option Formed (ill_formed s) (λ e. by-option Formed (decimal_of s) (λ f. refuses 20 refl) (λ d f. rest-answered d f string))
      (λ place e. refuses 20 refl)

more_numbers : {numbers more : List ℕ} {s : Text} {r : Measured} → All (λ n. mem n more ≡ true) numbers → Answered numbers s r → Answered more s r
more_numbers h (exactly z e) = exactly z e
more_numbers {numbers} {more} h (refusal n m q) = refusal n (among-all numbers more h n m) q

module _ (table text : List ℕ) where
  abbrev written : Text
  written = text_at table text 0

  pub record-answered : Answered form_numbers written (record_length table text)
  unfolding record_length
  record-answered =
      by-test (Answered form_numbers written) (within 4 5 (byte_at table 0)) (λ g. text-answered written (eqb (byte_at table 0) 5))
      (λ g. refuses 20 refl)

  pub length-answered : Answered length_numbers written (length_job table text)
  unfolding length_job
  length-answered =
      by-test (Answered length_numbers written) (leb (length table) max_room && leb (length text) max_room)
      (λ e. by-test (Answered length_numbers written) (is_whole table (length text))
      (λ f. more_numbers (refl, (refl, (refl, (refl, (refl, tt))))) record-answered) (λ f. refuses 15 refl))
      (λ e. refuses 1 refl)

  -- ---- the job, step by step

  abbrev lent_bounds : Bool
  lent_bounds = leb (length table) max_room && leb (length text) max_room

  pub length-long : (length table ≤ max_room → length text ≤ max_room → ⊥) → length_job table text ≡ no_length (nowhere 1)
  unfolding length_job
  length-long h = go lent_bounds refl
    where
      go : (t : Bool) → lent_bounds ≡ t → length_job table text ≡ no_length (nowhere 1)
      go true e = let (f, g) = both_true _ _ e in absurd (h (leb-true _ _ f) (leb-true _ _ g))
      go false e = rw (length_job, e)

  module _ (short : length table ≤ max_room) (short-text : length text ≤ max_room) where
    pub length-not-whole : is_whole table (length text) ≡ false → length_job table text ≡ no_length (nowhere 15)
    unfolding length_job
    length-not-whole e = rw (length_job, le-leb _ _ short, le-leb _ _ short-text, e)

    pub length_whole : is_whole table (length text) ≡ true → length_job table text ≡ record_length table text
    unfolding length_job
    length_whole e = rw (length_job, le-leb _ _ short, le-leb _ _ short-text, e)

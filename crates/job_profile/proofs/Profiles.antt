-- One law for each answer of the job.
use Rattle.std.specs.Prelude.{Some, None, Ok, Err}
use mathlib.Core.Path.{◌≡◌, refl, sym, ◌∙◌, ap}
use mathlib.Core.Bool.{Bool, true, false}
use mathlib.Core.List.{List, [], ◌∷◌}
use mathlib.Core.Option.{Option, none, some}
use Prim.Native.Nat.{ℕ, ◌+◌, ◌-◌, ◌*◌, ◌^◌, ◌≤◌, ◌<◌}
use native.Mathlib.Omega.{arith}
use lib.ListN.{length, take, drop, length-take, length-drop}
use lib.Seq.{slice}
use borrow.Author.Tests.{eq-eqb, ne_eqb, lt-ltb, le-ltb}
use Rattle.rules.specs.Sizes.{max_nesting, max_room}
use Rattle.rules.specs.Bytes.{Text}
use Rattle.rules.specs.Sheet.{pair_at}
use Rattle.rules.specs.LookUp.{is_whole, text_at, member_at, value_named}
use Rattle.theory.specs.TableSteps.{RecordAt, plain_at, text-at, container-at, members_end, value-inv, whole-inv, container_kind}
use Rattle.theory.specs.LookUpSteps.{named-nil, named_none, named-next}
use Rattle.theory.specs.Tables.{value-forward}
use Rattle.theory.specs.LookUps.{named-whole}
use Rattle.rules_profile.specs.Profile.{Profile, thousandth, no_profile, profile, unit, plate, min, max, text_of_kind, text_named}
use Rattle.rules_profile.specs.Profile.{edition_of, edition_named, step_of, bare_length, written_length}
use Rattle.rules_profile.specs.Profile.{limits_of, first_edition, second_edition, by_edition, profile_job}
use Rattle.text_chars.specs.Cursor.{doc, refusal, ByteIs}
use Rattle.text_chars.specs.Parts.{part_slice}
use Rattle.text_chars.specs.declared.RecAt.{RecAt}
use Rattle.text_chars.specs.declared.Refusal.{Refusal}
use Rattle.sheet_records.specs.Kinds.Contracts.{End, PairIs, EndIs, near_room}
use Rattle.sheet_records.specs.Kinds.Ends.{none_is, some_is, between_is}
use Rattle.sheet_records.specs.Clauses.{past_member}
use Rattle.text_profiles.specs.Clauses.{max_length, edition_as, length_as, LengthIs}
use Rattle.text_profiles.specs.declared.Edition as code
use Rattle.std.specs.Prelude.{Option as Maybe}
use Rattle.job_length.specs.Clauses.{WholeTable}
use Rattle.job_profile.specs.Clauses.{ProfileRead, bounds, ValueAt, TextKind, text_or, TextIs, profile_of, ProfileIs}
use Rattle.job_profile.specs.Editions.{profile-long, profile-not-whole, profile-editions}
use Rattle.job_profile.specs.Packed.{packed_profile, Roomy, Packable}
use Rattle.job_profile.specs.declared.Limits.{Limits}

-- ---- a refusal

-- one that has no place
no-profile : {p : Profile} {z : Refusal} {n : ℕ} → z ≡ refusal n (doc 0) → profile_of (Err (refusal n (doc 0))) ≡ p → ProfileIs p (Err z)
no-profile e h = rw e (record { is = h; placed = refl })

-- ---- places

-- the whole of a whole table
pub root-value : {table text : List ℕ} → WholeTable table text → ValueAt table text 0
root-value {table} {text} w = record { whole = (length table, whole-inv table (length text) w.whole) }

-- a whole value stands inside the table
pub value-near : {table text : List ℕ} {at : ℕ} → WholeTable table text → ValueAt table text at → at ≤ near_room
value-near {table} {text} {at} w v =
    let (end, e) = v.whole in
    let (h, k) = value-forward table (length text) max_nesting at end e in
    omega (arith, w.short)

module _ (table text key : List ℕ) (at : ℕ) {r : End} (k : EndIs (member_at table text key at) (at + 1) (past_member table) r) where
  member-none : r ≡ None → member_at table text key at ≡ none
  member-none e = none_is k e

  module _ {place : RecAt} (e : r ≡ Some place) where
    member-some : member_at table text key at ≡ some place.0
    member-some = some_is k e

    module _ (w : WholeTable table text) where
      pub offset_near : place.0 + 1 ≤ near_room
      offset_near = let b = between_is k e in omega (arith, w.short)

      pub size-near : place.0 + 3 ≤ near_room
      size-near = let b = between_is k e in omega (arith, w.short)

      pub offset-fits : place.0 + 1 < 2 ^ 64
      offset-fits = omega (arith, offset_near)

      pub size_fits : place.0 + 3 < 2 ^ 64
      size_fits = omega (arith, size-near)

    -- what a key names in a whole value is whole
    pub member-value : ValueAt table text at → ValueAt table text place.0
    member-value v =
        record {
          whole = named-whole table text (key ∷ []) at place.0 v.whole
              (named-next table text key [] at place.0 member-some ∙ named-nil table text place.0);
        }

named-one : (table text key : List ℕ) (at : ℕ) → value_named table text (key ∷ []) at ≡ member_at table text key at
named-one table text key at = go (member_at table text key at) refl
  where
    go : (o : Option ℕ) → member_at table text key at ≡ o → value_named table text (key ∷ []) at ≡ o
    go none e = named_none table text key [] at e
    go (some place) e = named-next table text key [] at place e ∙ named-nil table text place

-- ---- the text of a value

no_text : {o : Option Text} → o ≡ none → TextIs o []
no_text e = rw e (record { is = refl; short = omega arith })

module _ (table text key : List ℕ) (kind at : ℕ) {r : End} (k : EndIs (member_at table text key at) (at + 1) (past_member table) r) where
  abbrev wanted : Option Text
  wanted = text_of_kind table text kind (member_at table text key at)

  pub text-missing : r ≡ None → TextIs wanted []
  unfolding text_of_kind
  text-missing e = no_text (ap (λ (o : Option ℕ). text_of_kind table text kind o) (member-none table text key at k e))

  module _ {place : RecAt} (e : r ≡ Some place) {b : ℕ} (i : ByteIs table place.0 b) where
    at_place : wanted ≡ text_of_kind table text kind (some place.0)
    at_place = ap (λ (o : Option ℕ). text_of_kind table text kind o) (member-some table text key at k e)

    pub text-other : (b ≡ kind → ⊥) → TextIs wanted []
    unfolding text_of_kind
    text-other h = no_text (at_place ∙ rw (← i.is, ne_eqb b kind h, text_of_kind))

    module _ (h : b ≡ kind) {from size : ℕ} (f : PairIs table (place.0 + 1) from) (n : PairIs table (place.0 + 3) size) where
      -- of a whole table the text is inside the text part
      pub text-inside : WholeTable table text → ValueAt table text at → TextKind kind → from + size ≤ length text
      text-inside w v t =
          let (end, whole) = (member-value table text key at k e v).whole in
          rw (f.is, n.is) (go (value-inv table (length text) max_nesting place.0 end whole))
        where
          go : {end : ℕ} → RecordAt table (length text) place.0 (members_end table (length text) max_nesting place.0) end
              → pair_at table (place.0 + 1) + pair_at table (place.0 + 3) ≤ length text
          go (plain_at l m q) = absurd (omega (arith, i.is, t.0))
          go (text-at l m q) = q.inside
          go (container-at keyed c l q) = absurd (other keyed (sym c ∙ sym i.is ∙ h))
            where
              other : (keyed : Bool) → container_kind keyed ≡ kind → ⊥
              other true z = absurd (omega (arith, t.1))
              other false z = absurd (omega (arith, t.1))

      pub text-here : WholeTable table text → TextIs wanted (take (from + size - from) (drop from text))
      unfolding text_of_kind text_at
      text-here w = record {
        is = part_slice text from (from + size) (omega arith) ∙ sym (ap text_or is-text);
        short = omega (arith, length-take (from + size - from) (drop from text), length-drop from text, w.short-text);
      }
        where
          is-text : wanted ≡ some (slice from (from + size) text)
          is-text = at_place ∙ rw (← i.is, eq-eqb b kind h, text_of_kind) (rw (f.is, n.is))

pub ruleset texts = (text-missing, text-other, text-here)

pub ruleset text-places = (arith, text-inside)

pub ruleset record-places = (arith, offset_near, size-near, offset-fits, size_fits)

-- ---- a member of `plate`

module _ (table text key : List ℕ) (kind : ℕ) {r : End} (k : EndIs (member_at table text plate 0) (0 + 1) (past_member table) r) where
  pub plate-missing : r ≡ None → TextIs (text_named table text kind (plate ∷ key ∷ [])) []
  unfolding text_named text_of_kind
  plate-missing e =
      let nothing = named_none table text plate (key ∷ []) 0 (member-none table text plate 0 k e) in
      no_text (ap (λ (o : Option ℕ). text_of_kind table text kind o) nothing)

  pub plate-here : {place : RecAt} {s : Text} → r ≡ Some place
      → TextIs (text_of_kind table text kind (member_at table text key place.0)) s → TextIs (text_named table text kind (plate ∷ key ∷ [])) s
  unfolding text_named
  plate-here {place} {s} e t = rw (ap (λ (o : Option ℕ). text_of_kind table text kind o) along) t
    where
      along : value_named table text (plate ∷ key ∷ []) 0 ≡ member_at table text key place.0
      along = named-next table text plate (key ∷ []) 0 place.0 (member-some table text plate 0 k e) ∙ named-one table text key place.0

pub ruleset plates = (plate-missing, plate-here)

pub ruleset plate-values = (root-value, member-value)

-- ---- a text that is not there is an empty one, and that is no edition, no unit and no length

edition-or : (o : Option Text) → edition_of (some (text_or o)) ≡ edition_of o
unfolding edition_of
edition-or none = refl
edition-or (some t) = refl

step-or : (o : Option Text) → step_of (some (text_or o)) ≡ step_of o
unfolding step_of
step-or none = refl
step-or (some t) = refl

bare-or : (step : ℕ) (o : Option Text) → bare_length step (some (text_or o)) ≡ bare_length step o
unfolding bare_length
bare-or step none = refl
bare-or step (some t) = refl

written-or : (o : Option Text) → written_length (some (text_or o)) ≡ written_length o
unfolding written_length
written-or none = refl
written-or (some t) = refl

-- ---- both limits

module _ (edition : ℕ) (low high : Maybe ℕ) where
  pub no-minimum : low ≡ None → {z : Refusal} → z ≡ refusal 41 (doc 0) → ProfileIs (limits_of edition (length_as low) (length_as high)) (Err z)
  unfolding limits_of
  no-minimum e q = no-profile q (rw (e, limits_of))

  module _ {a : ℕ} (e : low ≡ Some a) where
    pub no-maximum : high ≡ None → {z : Refusal} → z ≡ refusal 42 (doc 0) → ProfileIs (limits_of edition (length_as low) (length_as high)) (Err z)
    unfolding limits_of
    no-maximum f q = no-profile q (rw (e, f, limits_of))

    module _ {b : ℕ} (f : high ≡ Some b) where
      pub above : b < a → {z : Refusal} → z ≡ refusal 43 (doc 0) → ProfileIs (limits_of edition (length_as low) (length_as high)) (Err z)
      unfolding limits_of
      above h q = no-profile q (rw (e, f, lt-ltb b a h, limits_of))

      pub in_order : a ≤ b → ProfileIs (limits_of edition (length_as low) (length_as high)) (Ok (bounds edition a b))
      unfolding limits_of
      in_order h = record { is = rw (e, f, le-ltb b a h, limits_of); placed = tt }

pub ruleset limits = (no-minimum, no-maximum, above, in_order)

-- ---- edition 1

module _ (table text : List ℕ) {u : Text} (k : TextIs (text_of_kind table text 5 (member_at table text unit 0)) u) {l : Maybe ℕ}
    (s : LengthIs (step_of (some u)) thousandth l) where
  step_is : length_as l ≡ step_of (text_named table text 5 (unit ∷ []))
  unfolding text_named
  step_is =
      s.is ∙ ap (λ (t : Text). step_of (some t)) k.is ∙ step-or (text_of_kind table text 5 (member_at table text unit 0))
      ∙ ap (λ (o : Option ℕ). step_of (text_of_kind table text 5 o)) (sym (named-one table text unit 0))

  pub first-no-unit : l ≡ None → {z : Refusal} → z ≡ refusal 40 (doc 0) → ProfileIs (first_edition table text) (Err z)
  unfolding first_edition
  first-no-unit e q = let i : none ≡ step_of (text_named table text 5 (unit ∷ [])) = rw e at step_is in no-profile q (sym (rw (sym i, first_edition)))

  module _ {step : ℕ} (e : l ≡ Some step) where
    pub step_small : step ≤ thousandth
    step_small = rw e at s.at_most

    module _ {a b : Text} (i : TextIs (text_named table text 4 (plate ∷ min ∷ [])) a)
        (j : TextIs (text_named table text 4 (plate ∷ max ∷ [])) b) {low high : Maybe ℕ}
        (x : LengthIs (bare_length step (some a)) max_length low) (y : LengthIs (bare_length step (some b)) max_length high) where
      pub first-limits : (r : ProfileRead) → ProfileIs (limits_of 1 (length_as low) (length_as high)) r → ProfileIs (first_edition table text) r
      unfolding first_edition
      first-limits r q =
          let z : some step ≡ step_of (text_named table text 5 (unit ∷ [])) = rw e at step_is in
          let least = text_named table text 4 (plate ∷ min ∷ []) in
          let most = text_named table text 4 (plate ∷ max ∷ []) in
          let minimum : length_as low ≡ bare_length step least =
          x.is ∙ ap (λ (t : Text). bare_length step (some t)) i.is ∙ bare-or step least in
          let maximum : length_as high ≡ bare_length step most =
          y.is ∙ ap (λ (t : Text). bare_length step (some t)) j.is ∙ bare-or step most in
          record {
            is =
                q.is ∙ ap (λ (o : Option ℕ). limits_of 1 o (length_as high)) minimum
                ∙ ap (λ (o : Option ℕ). limits_of 1 (bare_length step least) o) maximum
                ∙ sym (rw (sym z, first_edition));
            placed = q.placed;
          }

pub ruleset firsts = (first-no-unit, first-limits)

-- ---- edition 2

module _ (table text : List ℕ) {r : End} (k : EndIs (member_at table text unit 0) (0 + 1) (past_member table) r) where
  pub second-unit : {place : RecAt} → r ≡ Some place → {z : Refusal} → z ≡ refusal 40 (doc 0) → ProfileIs (second_edition table text) (Err z)
  unfolding second_edition
  second-unit {place} e q =
      let i : value_named table text (unit ∷ []) 0 ≡ some place.0 = named-one table text unit 0 ∙ member-some table text unit 0 k e in
      no-profile q (sym (rw (i, second_edition)))

  module _ (e : r ≡ None) {a b : Text} (i : TextIs (text_named table text 5 (plate ∷ min ∷ [])) a)
      (j : TextIs (text_named table text 5 (plate ∷ max ∷ [])) b) {low high : Maybe ℕ} (x : LengthIs (written_length (some a)) max_length low)
      (y : LengthIs (written_length (some b)) max_length high) where
    pub second-limits : (p : ProfileRead) → ProfileIs (limits_of 2 (length_as low) (length_as high)) p → ProfileIs (second_edition table text) p
    unfolding second_edition
    second-limits p q =
        let z : value_named table text (unit ∷ []) 0 ≡ none = named-one table text unit 0 ∙ member-none table text unit 0 k e in
        let least = text_named table text 5 (plate ∷ min ∷ []) in
        let most = text_named table text 5 (plate ∷ max ∷ []) in
        let minimum : length_as low ≡ written_length least = x.is ∙ ap (λ (t : Text). written_length (some t)) i.is ∙ written-or least in
        let maximum : length_as high ≡ written_length most = y.is ∙ ap (λ (t : Text). written_length (some t)) j.is ∙ written-or most in
        record {
          is =
              q.is ∙ ap (λ (o : Option ℕ). limits_of 2 o (length_as high)) minimum
              ∙ ap (λ (o : Option ℕ). limits_of 2 (written_length least) o) maximum
              ∙ sym (rw (z, second_edition));
          placed = q.placed;
        }

pub ruleset seconds = (second-unit, second-limits)

-- ---- the job

module _ (table text : List ℕ) where
  pub long-table : max_room < length table → {z : Refusal} → z ≡ refusal 1 (doc 0) → ProfileIs (profile_job table text) (Err z)
  unfolding no_profile profile_job
  long-table l q = no-profile q (sym (profile-long first_edition second_edition table text (λ a b. absurd (omega arith))))

  pub long-text : max_room < length text → {z : Refusal} → z ≡ refusal 1 (doc 0) → ProfileIs (profile_job table text) (Err z)
  unfolding no_profile profile_job
  long-text l q = no-profile q (sym (profile-long first_edition second_edition table text (λ a b. absurd (omega arith))))

  module _ (short : length table ≤ max_room) (short-text : length text ≤ max_room) {w : Bool} (j : w ≡ is_whole table (length text)) where
    pub not-whole : w ≡ false → {z : Refusal} → z ≡ refusal 15 (doc 0) → ProfileIs (profile_job table text) (Err z)
    unfolding no_profile profile_job
    not-whole e q = no-profile q (sym (profile-not-whole first_edition second_edition table text short short-text (sym j ∙ e)))

    module _ (e : w ≡ true) {s : Text} (k : TextIs (text_of_kind table text 4 (member_at table text profile 0)) s) (x : Maybe code.Edition)
        (h : edition_as x ≡ edition_of (some s)) where
      by-edition : profile_job table text ≡ by_edition first_edition second_edition table text (edition_as x)
      unfolding edition_named text_named
      by-edition =
          profile-editions table text short short-text (sym j ∙ e)
          ∙ ap (by_edition first_edition second_edition table text)
          (sym (h ∙ ap (λ (t : Text). edition_of (some t)) k.is ∙ edition-or (text_of_kind table text 4 (member_at table text profile 0))
          ∙ ap (λ (o : Option ℕ). edition_of (text_of_kind table text 4 o)) (sym (named-one table text profile 0))))

      pub of-first : (r : ProfileRead) {y : code.Edition} → x ≡ Some y → y ≡ code.Edition.First → ProfileIs (first_edition table text) r
          → ProfileIs (profile_job table text) r
      unfolding by_edition
      of-first r z f q = record { is = q.is ∙ sym (by-edition ∙ rw (z, f)); placed = q.placed }

      pub of-second : (r : ProfileRead) {y : code.Edition} → x ≡ Some y → y ≡ code.Edition.Second → ProfileIs (second_edition table text) r
          → ProfileIs (profile_job table text) r
      unfolding by_edition
      of-second r z f q = record { is = q.is ∙ sym (by-edition ∙ rw (z, f)); placed = q.placed }

      pub of_none : x ≡ None → {z : Refusal} → z ≡ refusal 39 (doc 0) → ProfileIs (profile_job table text) (Err z)
      unfolding by_edition no_profile
      of_none i q = no-profile q (sym (by-edition ∙ rw i))

pub ruleset jobs = (long-table, long-text, not-whole, of-first, of-second, of_none)

-- ---- the packing

pub limit-fits : (a : ℕ) → a < 33554432 → a * 8589934592 < 2 ^ 64
limit-fits a l = omega arith

module _ {p : ProfileRead} where
  module _ {v : Limits} (e : p ≡ Ok v) (h : Packable p) where
    room : Roomy (profile_of (Ok v))
    room = rw e at h.room

    pub minimum-small : v.minimum < 33554432
    minimum-small = room.minimum

    pub maximum-small : v.maximum < 33554432
    maximum-small = room.maximum

    pub all_fit : (a b : ℕ) → a < 33554432 → b < 33554432 → v.edition * 64 + a * 256 + b * 8589934592 < 2 ^ 64
    all_fit a b l m = omega (arith, room.edition)

  pub pack-limits : {v : Limits} → p ≡ Ok v → v.edition * 64 + v.minimum * 256 + v.maximum * 8589934592 ≡ packed_profile (profile_of p)
  unfolding packed_profile
  pack-limits e = rw (e, packed_profile) (omega arith)

  pub pack-refusal : {x : Refusal} → p ≡ Err x → x.number ≡ packed_profile (profile_of p)
  unfolding packed_profile
  pack-refusal e = rw (e, packed_profile) (omega arith)

pub ruleset packs = (pack-limits, pack-refusal)

pub ruleset pack-needs = (minimum-small, maximum-small, limit-fits, all_fit)

-- Look-up, step by step: what each of its definitions gives, as equations under what decides between their cases; and back.
use Rattle.std.specs.Prelude.{◌≡◌, List, Bool, ◌&&◌, length}
use Rattle.std.proofs.Math.Path.{refl, sym, ap}
use Rattle.std.proofs.Common.{◌∙◌, arith}
use Prim.Native.Nat.{ℕ, zero, suc, ◌+◌, ◌≤◌, ◌<◌}
use Rattle.std.proofs.Math.Bool.{true, false}
use Rattle.std.proofs.Math.Option.{Option, none, some}
use Rattle.std.proofs.Math.Dec.{leb, eqb}
use borrow.Author.Tests.{leb-true, leb-false, le-leb, lt-leb, eqb-true, eq-eqb, ne_eqb}
use Rattle.answers.specs.Theory.Sound.{clash}
use Rattle.rules.specs.Sizes.{max_nesting}
use Rattle.rules.specs.Bytes.{byte_at, within}
use Rattle.rules.specs.Sheet.{pair_at}
use Rattle.rules.specs.LookUp.{after_text, after_members, after_record, after_value, is_whole}
use Rattle.theory.specs.Layout.{both_true}

-- ---- options and tests

pub some_one : {A : Type 0} {a b : A} → some a ≡ some b → a ≡ b
some_one {A} {a} e = ap (λ o. elim o as (λ o. A) [ none ↦ a | some x ↦ x ]) e

and-false : (t : Bool) → t && false ≡ false
and-false true = refl
and-false false = refl

within-intro : (low high b : ℕ) → low ≤ b → b ≤ high → within low high b ≡ true
within-intro low high b h k = rw (le-leb low b h, le-leb b high k)

within-outside : (low high b : ℕ) → (low ≤ b → b ≤ high → ⊥) → within low high b ≡ false
within-outside low high b h = go (within low high b) refl
  where
    go : (t : Bool) → within low high b ≡ t → t ≡ false
    go true e = let (f, g) = both_true _ _ e in absurd (h (leb-true low b f) (leb-true b high g))
    go false e = refl

-- ---- kinds

abbrev pub container_kind : Bool → ℕ
container_kind false = 6
container_kind true = 7

container-kind : (keyed : Bool) → (6 ≤ container_kind keyed) × (container_kind keyed ≤ 7) × (eqb (container_kind keyed) 7 ≡ keyed)
container-kind false = (omega arith, omega arith, refl)
container-kind true = (omega arith, omega arith, refl)

pub data Kind (b : ℕ) : Type 0 where
  plain : 1 ≤ b → b ≤ 3 → Kind b
  worded : 4 ≤ b → b ≤ 5 → Kind b
  container : (keyed : Bool) → b ≡ container_kind keyed → Kind b
  unknown : (1 ≤ b → b ≤ 7 → ⊥) → Kind b

pub kind-case : (b : ℕ) → Kind b
kind-case zero = unknown (omega arith)
kind-case (suc zero) = plain (omega arith) (omega arith)
kind-case (suc (suc zero)) = plain (omega arith) (omega arith)
kind-case (suc (suc (suc zero))) = plain (omega arith) (omega arith)
kind-case (suc (suc (suc (suc zero)))) = worded (omega arith) (omega arith)
kind-case (suc (suc (suc (suc (suc zero))))) = worded (omega arith) (omega arith)
kind-case (suc (suc (suc (suc (suc (suc zero)))))) = container false refl
kind-case (suc (suc (suc (suc (suc (suc (suc zero))))))) = container true refl
kind-case (suc (suc (suc (suc (suc (suc (suc (suc n)))))))) = unknown (omega arith)

module _ (table : List ℕ) (text_length : ℕ) where
  -- ---- a record that refers to a text

  pub text-ends : (kind at : ℕ) → at + 5 ≤ length table → byte_at table at ≡ kind → pair_at table (at + 1) + pair_at table (at + 3) ≤ text_length
      → after_text table text_length kind at ≡ some (at + 5)
  unfolding after_text
  text-ends kind at h k l = rw (after_text, le-leb _ _ h, eq-eqb _ _ k, le-leb _ _ l)

  pub text-cut : (kind at : ℕ) → length table < at + 5 → after_text table text_length kind at ≡ none
  unfolding after_text
  text-cut kind at h = rw (after_text, lt-leb _ _ h)

  pub text-unlike : (kind at : ℕ) → (byte_at table at ≡ kind → ⊥) → after_text table text_length kind at ≡ none
  unfolding after_text
  text-unlike kind at h = rw (after_text, ne_eqb _ _ h, and-false (leb (at + 5) (length table)))

  pub text-outside : (kind at : ℕ) → text_length < pair_at table (at + 1) + pair_at table (at + 3) → after_text table text_length kind at ≡ none
  unfolding after_text
  text-outside kind at h = rw (after_text, lt-leb _ _ h, and-false (leb (at + 5) (length table) && eqb (byte_at table at) kind))

  -- a text's record that is whole
  pub record TextAt (kind at end : ℕ) : Type 0 where
    pub fits : at + 5 ≤ length table
    pub of-kind : byte_at table at ≡ kind
    pub inside : pair_at table (at + 1) + pair_at table (at + 3) ≤ text_length
    pub ends : end ≡ at + 5

  pub text-inv : (kind at end : ℕ) → after_text table text_length kind at ≡ some end → TextAt kind at end
  unfolding after_text
  text-inv kind at end e = go _ refl e
    where
      go : (t : Bool) → (leb (at + 5) (length table) && eqb (byte_at table at) kind && leb (pair_at table (at + 1) + pair_at table (at + 3)) text_length)
          ≡ t
          → elim t as (λ t. Option ℕ) [ true ↦ some (at + 5) | false ↦ none ] ≡ some end → TextAt kind at end
      go true q k =
          let (h, l) = both_true _ _ q in
          let (f, g) = both_true _ _ h in
          record { fits = leb-true _ _ f; of-kind = eqb-true _ _ g; inside = leb-true _ _ l; ends = sym (some_one k) }
      go false q k = clash (cc)

  -- ---- members

  -- the place of a member's value
  abbrev pub value_place : Bool → ℕ → Option ℕ
  value_place false at = some at
  value_place true at = after_text table text_length 8 at

  module _ (after : ℕ → Option ℕ) where
    abbrev members : Bool → ℕ → ℕ → Option ℕ
    members keyed n at = after_members keyed after table text_length n at

    pub members-zero : (keyed : Bool) (at : ℕ) → members keyed zero at ≡ some at
    unfolding after_members
    members-zero keyed at = refl

    pub members-no-key : (keyed : Bool) (n at : ℕ) → value_place keyed at ≡ none → members keyed (suc n) at ≡ none
    unfolding after_members
    members-no-key true n at e = rw (after_members, e)
    members-no-key false n at e = clash (cc)

    pub members-no-value : (keyed : Bool) (n at place : ℕ) → value_place keyed at ≡ some place → after place ≡ none
        → members keyed (suc n) at ≡ none
    unfolding after_members
    members-no-value true n at place e f = rw (after_members, e, f)
    members-no-value false n at place e f = rw (after_members, some_one e, f)

    pub members-next : (keyed : Bool) (n at place next : ℕ) → value_place keyed at ≡ some place → after place ≡ some next
        → members keyed (suc n) at ≡ members keyed n next
    unfolding after_members
    members-next true n at place next e f = rw (after_members, e, f)
    members-next false n at place next e f = rw (after_members, some_one e, f)

    -- members that end: the first has its key, if there are keys, and its value, and the others follow
    pub record MembersAt (keyed : Bool) (n at end : ℕ) : Type 0 where
      pub place : ℕ
      pub next : ℕ
      pub has_key : value_place keyed at ≡ some place
      pub has_value : after place ≡ some next
      pub others : members keyed n next ≡ some end

    pub members-inv : (keyed : Bool) (n at end : ℕ) → members keyed (suc n) at ≡ some end → MembersAt keyed n at end
    unfolding after_members
    members-inv keyed n at end e = go (value_place keyed at) refl
      where
        go : (o : Option ℕ) → value_place keyed at ≡ o → MembersAt keyed n at end
        go none f = clash (cc (members-no-key keyed n at f))
        go (some place) f = value (after place) refl
          where
            value : (o : Option ℕ) → after place ≡ o → MembersAt keyed n at end
            value none g = clash (cc (members-no-value keyed n at place f g))
            value (some next) g =
                record { place = place; next = next; has_key = f; has_value = g; others = sym (members-next keyed n at place next f g) ∙ e }

  -- ---- one record

  module _ (at : ℕ) where
    abbrev kind : ℕ
    kind = byte_at table at

    module _ (inner : Bool → Option ℕ) where
      abbrev end-of-record : Option ℕ
      end-of-record = after_record table text_length at inner

      pub record-plain : 1 ≤ kind → kind ≤ 3 → end-of-record ≡ some (at + 1)
      unfolding after_record
      record-plain h k = rw (after_record, within-intro 1 3 kind h k)

      pub record-worded : 4 ≤ kind → kind ≤ 5 → end-of-record ≡ after_text table text_length kind at
      unfolding after_record
      record-worded h k = rw (after_record, within-outside 1 3 kind (omega arith), within-intro 4 5 kind h k)

      pub record-holds : (keyed : Bool) → kind ≡ container_kind keyed → at + 3 ≤ length table → end-of-record ≡ inner keyed
      unfolding after_record
      record-holds keyed e h =
          let (least, most, is-keyed) = container-kind keyed in
          let keyed-is : eqb kind 7 ≡ keyed = rw e is-keyed in
          rw (
            after_record,
            within-outside 1 3 kind (omega arith),
            within-outside 4 5 kind (omega arith),
            within-intro 6 7 kind (omega arith) (omega arith),
            le-leb _ _ h,
            keyed-is,
          )

      pub record-cut : 6 ≤ kind → kind ≤ 7 → length table < at + 3 → end-of-record ≡ none
      unfolding after_record
      record-cut h k l =
          rw (after_record, within-outside 1 3 kind (omega arith), within-outside 4 5 kind (omega arith), lt-leb _ _ l, and-false (within 6 7 kind))

      pub record-unknown : (1 ≤ kind → kind ≤ 7 → ⊥) → end-of-record ≡ none
      unfolding after_record
      record-unknown h =
          rw (
            after_record,
            within-outside 1 3 kind (λ l m. h l (omega arith)),
            within-outside 4 5 kind (λ l m. h (omega arith) (omega arith)),
            within-outside 6 7 kind (λ l m. h (omega arith) m),
          )

      -- a record that ends
      pub data RecordAt (end : ℕ) : Type 0 where
        plain_at : 1 ≤ kind → kind ≤ 3 → end ≡ at + 1 → RecordAt end
        text-at : 4 ≤ kind → kind ≤ 5 → TextAt kind at end → RecordAt end
        container-at : (keyed : Bool) → kind ≡ container_kind keyed → at + 3 ≤ length table → inner keyed ≡ some end → RecordAt end

      pub record-inv : (end : ℕ) → end-of-record ≡ some end → RecordAt end
      record-inv end e = go (kind-case kind)
        where
          held : (keyed : Bool) → kind ≡ container_kind keyed → (t : Bool) → leb (at + 3) (length table) ≡ t → RecordAt end
          held keyed k true f =
              let h = leb-true (at + 3) (length table) f in container-at keyed k h (sym (record-holds keyed k h) ∙ e)
          held true k false f = clash (cc (record-cut (omega arith) (omega arith) (leb-false _ _ f)))
          held false k false f = clash (cc (record-cut (omega arith) (omega arith) (leb-false _ _ f)))

          go : Kind kind → RecordAt end
          go (plain h k) = plain_at h k (some_one (sym e ∙ record-plain h k))
          go (worded h k) = text-at h k (text-inv kind at end (sym (record-worded h k) ∙ e))
          go (container keyed k) = held keyed k (leb (at + 3) (length table)) refl
          go (unknown h) = clash (cc (record-unknown h))

  -- ---- one value with its members

  -- where a container's members end, if so many containers may stand inside one another
  abbrev pub members_end : ℕ → ℕ → Bool → Option ℕ
  members_end zero at keyed = none
  members_end (suc levels) at keyed =
      after_members keyed (λ p. after_value levels table text_length p) table text_length (pair_at table (at + 1)) (at + 3)

  -- so the laws of one record, above, are also those of a value
  pub value-record : (levels at : ℕ) → after_value levels table text_length at ≡ after_record table text_length at (members_end levels at)
  unfolding after_value
  value-record zero at = refl
  value-record (suc levels) at = refl

  module _ (levels at : ℕ) where
    abbrev end-of-value : Option ℕ
    end-of-value = after_value levels table text_length at

    pub value-plain : 1 ≤ kind at → kind at ≤ 3 → end-of-value ≡ some (at + 1)
    value-plain h k = value-record levels at ∙ record-plain at (members_end levels at) h k

    pub value-worded : 4 ≤ kind at → kind at ≤ 5 → end-of-value ≡ after_text table text_length (kind at) at
    value-worded h k = value-record levels at ∙ record-worded at (members_end levels at) h k

    pub value-holds : (keyed : Bool) → kind at ≡ container_kind keyed → at + 3 ≤ length table → end-of-value ≡ members_end levels at keyed
    value-holds keyed e h = value-record levels at ∙ record-holds at (members_end levels at) keyed e h

    pub value-cut : 6 ≤ kind at → kind at ≤ 7 → length table < at + 3 → end-of-value ≡ none
    value-cut h k l = value-record levels at ∙ record-cut at (members_end levels at) h k l

    pub value-unknown : (1 ≤ kind at → kind at ≤ 7 → ⊥) → end-of-value ≡ none
    value-unknown h = value-record levels at ∙ record-unknown at (members_end levels at) h

    pub value-inv : (end : ℕ) → end-of-value ≡ some end → RecordAt at (members_end levels at) end
    value-inv end e = record-inv at (members_end levels at) end (sym (value-record levels at) ∙ e)

  -- a container more than may stand inside one another
  pub value-deep : (at : ℕ) → 6 ≤ kind at → kind at ≤ 7 → after_value zero table text_length at ≡ none
  value-deep at h k = go (after_value zero table text_length at) refl
    where
      not-whole : {end : ℕ} → RecordAt at (members_end zero at) end → ⊥
      not-whole (plain_at l m e) = omega arith
      not-whole (text-at l m t) = omega arith
      not-whole (container-at keyed e l f) = clash (cc)

      go : (o : Option ℕ) → after_value zero table text_length at ≡ o → o ≡ none
      go none e = refl
      go (some end) e = absurd (not-whole (value-inv zero at end e))

  -- ---- one whole table

  pub whole-intro : after_value max_nesting table text_length 0 ≡ some (length table) → is_whole table text_length ≡ true
  unfolding is_whole
  whole-intro e = rw (is_whole, e) (eq-eqb (length table) (length table) refl)

  pub whole-none : after_value max_nesting table text_length 0 ≡ none → is_whole table text_length ≡ false
  unfolding is_whole
  whole-none e = rw (is_whole, e)

  pub whole-more : (end : ℕ) → after_value max_nesting table text_length 0 ≡ some end → (end ≡ length table → ⊥) → is_whole table text_length ≡ false
  unfolding is_whole
  whole-more end e h = rw (is_whole, e) (ne_eqb end (length table) h)

  pub whole-inv : is_whole table text_length ≡ true → after_value max_nesting table text_length 0 ≡ some (length table)
  unfolding is_whole
  whole-inv e = go (after_value max_nesting table text_length 0) refl e
    where
      go : (o : Option ℕ) → after_value max_nesting table text_length 0 ≡ o
          → elim o as (λ o. Bool) [ none ↦ false | some end ↦ eqb end (length table) ] ≡ true
          → after_value max_nesting table text_length 0 ≡ some (length table)
      go none f g = clash (cc)
      go (some end) f g = f ∙ ap {B = Option ℕ} some (eqb-true end (length table) g)

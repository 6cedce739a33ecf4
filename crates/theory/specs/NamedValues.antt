-- Look-up in the table of a value: it finds precisely the records of the value that the path names, and nothing where it names nothing.
use Rattle.std.specs.Prelude.{◌≡◌, ℕ, suc, ◌+◌, ◌≤◌, ◌<◌, true, false}
use Rattle.std.proofs.Math.Path.{refl}
use Rattle.std.proofs.Common.{subst, arith}
use mathlib.Core.List.{List, [], ◌∷◌, ◌++◌}
use Rattle.std.proofs.Math.Option.{Option, none, some}
use Rattle.std.proofs.Math.ListN.{length}
use Rattle.std.proofs.Math.Seq.{slice}
use Rattle.answers.specs.Theory.Sound.{clash}
use Rattle.rules.specs.Sizes.{max_nesting}
use Rattle.rules.specs.Bytes.{Text, byte_at, same, At}
use Rattle.rules.specs.Tree.{Scalar, null, boolean, number, string}
use Rattle.rules.specs.Values.{Value, scalar, array_of, object_of, Values, Members, no-members, member}
use Rattle.rules.specs.Values.{count_values, count_members, record_size, text_size, nesting_of}
use Rattle.rules.specs.Sheet.{two, pair_at, text_record, scalar_record, records, value_records, member_records, texts}
use Rattle.rules.specs.LookUp.{after_text, after_value, text_at, member_from, member_at, value_named}
use Rattle.rules.specs.NamedValues.{member_of, member_in, value_at, Stands, MembersStand}
use Rattle.theory_text.specs.Choices.{by-test}
use Rattle.theory.specs.Layout.{length-records}
use Rattle.theory.specs.SameMeaning.{at_right, slice_at, count-members}
use Rattle.theory.specs.TableSteps.{some_one}
use Rattle.theory.specs.LookUpSteps.{from_zero, from-here, from_next, member-object, member-other, named-nil, named_none, named-next}
use Rattle.theory.specs.LaidOut.{at_byte, at_pair, offset_at, length_at, text-laid, text-read, body_at, first_member}
use Rattle.theory.specs.LaidOut.{value-laid}

-- ---- where values stand

module _ (table text : List ℕ) where
  pub stands-whole : (v : Value) (at : ℕ) → Stands table text v at → after_value max_nesting table (length text) at ≡ some (at + record_size v)
  stands-whole v at s = value-laid table text v max_nesting s.offset at s.shallow s.in_table s.in-text s.small s.few

  -- precisely its records
  pub stands-part : (v : Value) (at : ℕ) (s : Stands table text v at) → slice at (at + record_size v) table ≡ records s.offset v
  stands-part v at s = rw (← (length-records s.offset v)) (slice_at (records s.offset v) s.in_table)

  -- what is named and what is found: nothing and nothing, or a value and its place
  pub data Placed : Option Value → Option ℕ → Type 0 where
    nothing : Placed none none
    placed_at : {w : Value} {at : ℕ} → Stands table text w at → Placed (some w) (some at)

  -- ---- members, one after the other

  -- of the first its key, with its text, and its value; then the others
  pub record MemberStands (k : Text) (v : Value) (ms : Members) (at : ℕ) : Type 0 where
    pub key-kind : byte_at table at ≡ 8
    pub key-length : pair_at table (at + 3) ≡ length k
    pub key-in-text : At text (pair_at table (at + 1)) k
    pub key-read : text_at table text at ≡ k
    pub key-ends : after_text table (length text) 8 at ≡ some (at + 5)
    pub value : Stands table text v (at + 5)
    pub value-ends : after_value max_nesting table (length text) (at + 5) ≡ some (at + 5 + record_size v)
    pub others : MembersStand table text ms (at + 5 + record_size v)

  pub first-stands : (k : Text) (v : Value) (ms : Members) (at : ℕ) → MembersStand table text (member k v ms) at → MemberStands k v ms at
  unfolding text_size record_size nesting_of text_record
  first-stands k v ms at s =
      let o = s.offset in
      let f = first_member table text k v ms o at s.in_table s.in-text in
      let key-small : o + length k < 65536 = omega (arith, s.small) in
      let value : Stands table text v (at + 5) = record {
        offset = o + length k;
        in_table = f.value-stands;
        in-text = f.value-text;
        small = omega (arith, s.small);
        few = omega (arith, s.few);
        shallow = omega (arith, s.shallow);
      } in
      record {
        key-kind = at_byte 8 (two o ++ two (length k)) f.key-stands;
        key-length = length_at table text 8 o k at key-small f.key-stands;
        key-in-text = rw (offset_at table text 8 o k at key-small f.key-stands) f.key-text;
        key-read = text-read table text 8 o k at key-small f.key-stands f.key-text;
        key-ends = text-laid table text 8 o k at key-small f.key-stands f.key-text;
        value = value;
        value-ends = stands-whole v (at + 5) value;
        others = record {
          offset = o + length k + text_size v;
          in_table = f.others-stand;
          in-text = f.others-text;
          small = omega (arith, s.small);
          few = omega (arith, s.few);
          shallow = omega (arith, s.shallow);
        };
      }

  members-placed : (key : Text) (ms : Members) (at : ℕ) → MembersStand table text ms at
      → Placed (member_of key ms) (member_from (count_members ms) table text key at)
  unfolding member_of count_members
  members-placed key no-members at s = rw (from_zero table text key at) nothing
  members-placed key (member k v ms) at s =
      let f = first-stands k v ms at s in
      let next = at + 5 + record_size v in
      let n = count_members ms in
      by-test (λ r. Placed r (member_from (suc n) table text key at)) (same k key)
      (λ e. rw (from-here table text key n at (rw f.key-read e)) (placed_at f.value))
      (λ e. rw (from_next table text key n at next (rw f.key-read e) f.value-ends) (members-placed key ms next f.others))

  -- ---- which kind of value stands there

  scalar-kind : (x : Scalar) (o at : ℕ) → At table at (scalar_record o x) → byte_at table at ≤ 5
  unfolding scalar_record text_record
  scalar-kind null o at stands = omega (arith, at_byte 1 [] stands)
  scalar-kind (boolean false) o at stands = omega (arith, at_byte 2 [] stands)
  scalar-kind (boolean true) o at stands = omega (arith, at_byte 3 [] stands)
  scalar-kind (number t) o at stands = omega (arith, at_byte 4 (two o ++ two (length t)) stands)
  scalar-kind (string t) o at stands = omega (arith, at_byte 5 (two o ++ two (length t)) stands)

  pub scalar-stands : (x : Scalar) (at : ℕ) → Stands table text (scalar x) at → byte_at table at ≤ 5
  unfolding records
  scalar-stands x at s = scalar-kind x s.offset at s.in_table

  pub array-stands : (vs : Values) (at : ℕ) → Stands table text (array_of vs) at → byte_at table at ≡ 6
  unfolding records
  array-stands vs at s = at_byte 6 (two (count_values vs) ++ value_records s.offset vs) s.in_table

  -- an object's is 7, and no other's
  pub only-object : (v : Value) (at : ℕ) → Stands table text v at → byte_at table at ≡ 7 → (ms : Members) × (v ≡ object_of ms)
  only-object (scalar x) at s e = absurd (omega (arith, scalar-stands x at s))
  only-object (array_of vs) at s e = absurd (omega (arith, array-stands vs at s))
  only-object (object_of ms) at s e = (ms, refl)

  module _ (ms : Members) (at : ℕ) (s : Stands table text (object_of ms) at) where
    pub object-stands : byte_at table at ≡ 7
    unfolding records
    object-stands = at_byte 7 (two (count_members ms) ++ member_records s.offset ms) s.in_table

    pub object-count : pair_at table (at + 1) ≡ count_members ms
    unfolding records record_size
    object-count =
        let n = count_members ms in
        let body = member_records s.offset ms in
        at_pair n body (omega (arith, count-members ms, s.few)) (at_right (7 ∷ []) (two n ++ body) (at + 1) refl s.in_table)

    pub object-members : MembersStand table text ms (at + 3)
    unfolding records texts text_size record_size nesting_of
    object-members = record {
      offset = s.offset;
      in_table = body_at table text 7 (count_members ms) at (member_records s.offset ms) s.in_table;
      in-text = s.in-text;
      small = s.small;
      few = omega (arith, s.few);
      shallow = omega (arith, s.shallow);
    }

  -- ---- what is named is found

  pub member-placed : (key : Text) (v : Value) (at : ℕ) → Stands table text v at → Placed (member_in key v) (member_at table text key at)
  unfolding member_in
  member-placed key (scalar x) at s = rw (member-other table text key at (λ e. omega (arith, scalar-stands x at s))) nothing
  member-placed key (array_of vs) at s = rw (member-other table text key at (λ e. omega (arith, array-stands vs at s))) nothing
  member-placed key (object_of ms) at s =
      rw (member-object table text key at (object-stands ms at s), object-count ms at s)
      (members-placed key ms (at + 3) (object-members ms at s))

  -- a member of an object, by its key
  pub member-stands : (ms : Members) (at : ℕ) → Stands table text (object_of ms) at → (key : Text)
      → Placed (member_of key ms) (member_at table text key at)
  unfolding member_in
  member-stands ms at s key = member-placed key (object_of ms) at s

  -- along a path the same is named in the value and found in the table
  pub named-placed : (path : List Text) (v : Value) (at : ℕ) → Stands table text v at → Placed (value_at path v) (value_named table text path at)
  unfolding value_at
  named-placed [] v at s = rw (named-nil table text at) (placed_at s)
  named-placed (key ∷ path) v at s = go (member_in key v) (member_at table text key at) refl (member-placed key v at s) (named-placed path)
    where
      go : (m : Option Value) (o : Option ℕ) → member_at table text key at ≡ o → Placed m o
          → ((w : Value) (p : ℕ) → Stands table text w p → Placed (value_at path w) (value_named table text path p))
          → Placed (elim m as (λ m. Option Value) [ none ↦ none | some w ↦ value_at path w ]) (value_named table text (key ∷ path) at)
      go none none e nothing ih = rw (named_none table text key path at e) nothing
      go (some w) (some p) e (placed_at t) ih = rw (named-next table text key path at p e) (ih w p t)
      go none (some p) e x ih = elim x [ ]
      go (some w) none e x ih = elim x [ ]

  module _ (path : List Text) (v : Value) (at : ℕ) (s : Stands table text v at) where
    -- a path that names a value finds it
    pub named-found : (w : Value) → value_at path v ≡ some w → (p : ℕ) × (value_named table text path at ≡ some p) × Stands table text w p
    named-found w e = go (value_at path v) (value_named table text path at) refl e (named-placed path v at s)
      where
        go : (m : Option Value) (o : Option ℕ) → value_named table text path at ≡ o → m ≡ some w → Placed m o
            → (p : ℕ) × (value_named table text path at ≡ some p) × Stands table text w p
        go none none f g nothing = clash (cc)
        go (some w') (some p) f g (placed_at t) = (p, f, subst (λ u. Stands table text u p) (some_one g) t)
        go none (some p) f g x = elim x [ ]
        go (some w') none f g x = elim x [ ]

    -- and one that names nothing finds nothing
    pub named-missing : value_at path v ≡ none → value_named table text path at ≡ none
    named-missing e = go (value_at path v) (value_named table text path at) refl e (named-placed path v at s)
      where
        go : (m : Option Value) (o : Option ℕ) → value_named table text path at ≡ o → m ≡ none → Placed m o → value_named table text path at ≡ none
        go none none f g nothing = f
        go (some w') (some p) f g (placed_at t) = clash (cc)
        go none (some p) f g x = elim x [ ]
        go (some w') none f g x = elim x [ ]

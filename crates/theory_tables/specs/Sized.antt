-- Sized tables: each is its tree's, laid out; each tree without equal keys has one; and what a path names in it.
use Rattle.std.specs.Prelude.{◌≡◌, ℕ, ◌+◌, ◌≤◌, ◌<◌, Bool, ◌&&◌}
use Rattle.std.proofs.Math.Path.{refl}
use Rattle.std.proofs.Common.{ap, subst, ◌∙◌, arith}
use mathlib.Core.List.{List, [], ◌∷◌, ◌++◌}
use Rattle.std.proofs.Math.Bool.{true, false}
use Rattle.std.proofs.Math.Option.{Option, none, some}
use Rattle.std.proofs.Math.ListN.{length, length-append}
use Rattle.answers.specs.Theory.Sound.{clash}
use Rattle.rules.specs.Sizes.{max_nesting}
use Rattle.rules.specs.Bytes.{Text, same, At}
use Rattle.rules.specs.Tree.{Scalar, null, boolean, number, string}
use Rattle.rules.specs.Values.{Value, scalar, array_of, object_of, Values, no-values, val, Members, no-members, member, Answer}
use Rattle.rules.specs.Values.{count_members, scalar_records, record_size, value_record_sizes, member_record_sizes, text_size, nesting_of}
use Rattle.rules.specs.Sheet.{two, text_record, scalar_record, texts, member_texts}
use Rattle.rules.specs.NamedValues.{member_of, member_in, value_at, Distinct, DistinctValues, DistinctMembers}
use Rattle.rules_tables.specs.Trees.{sized_head, Located, located_then, tree_of, distinct, distinct_values, distinct_members}
use Rattle.rules_tables.specs.SizedTables.{sized_size, sized_value_sizes, sized_member_sizes, sized_records, sized_value_records}
use Rattle.rules_tables.specs.SizedTables.{sized_member_records}
use Rattle.rules_tables.specs.SizedTables.{sized_tree, sized_member, sized_named}
use Rattle.theory.specs.Layout.{both_true, same-eq, same_refl, length-texts}
use Rattle.theory.specs.SameMeaning.{at_left, at_right}
use Rattle.theory_tables.specs.Trees.{nested-tree}
use Rattle.theory_tables.specs.ReadBack.{sized_layout, laid-read}

-- ---- sizes

mutual
  unfolding sized_size record_size

  pub plain-smaller : (v : Value) → record_size v ≤ sized_size v
  plain-smaller (scalar x) = omega arith
  plain-smaller (array_of vs) = omega (arith, values-smaller vs)
  plain-smaller (object_of ms) = omega (arith, members-smaller ms)

  values-smaller : (vs : Values) → value_record_sizes vs ≤ sized_value_sizes vs
  values-smaller no-values = omega arith
  values-smaller (val v vs) = omega (arith, plain-smaller v, values-smaller vs)

  members-smaller : (ms : Members) → member_record_sizes ms ≤ sized_member_sizes ms
  members-smaller no-members = omega arith
  members-smaller (member k v ms) = omega (arith, plain-smaller v, members-smaller ms)

scalar-length : (o : ℕ) (x : Scalar) → length (scalar_record o x) ≡ scalar_records x
unfolding scalar_record scalar_records text_record two
scalar-length o null = refl
scalar-length o (boolean false) = refl
scalar-length o (boolean true) = refl
scalar-length o (number t) = refl
scalar-length o (string t) = refl

mutual
  unfolding sized_records sized_size two text_record

  pub sized-length : (o : ℕ) (v : Value) → length (sized_records o v) ≡ sized_size v
  sized-length o (scalar x) = scalar-length o x
  sized-length o (array_of vs) = omega (arith, values_length o vs)
  sized-length o (object_of ms) = omega (arith, members-length o ms)

  values_length : (o : ℕ) (vs : Values) → length (sized_value_records o vs) ≡ sized_value_sizes vs
  values_length o no-values = refl
  values_length o (val v vs) =
      let rest = sized_value_records (o + text_size v) vs in
      omega (arith, length-append (sized_records o v) rest, sized-length o v, values_length (o + text_size v) vs)

  members-length : (o : ℕ) (ms : Members) → length (sized_member_records o ms) ≡ sized_member_sizes ms
  members-length o no-members = refl
  members-length o (member k v ms) =
      let o' = o + length k in
      let rest = sized_member_records (o' + text_size v) ms in
      omega (arith, length-append (sized_records o' v) rest, sized-length o' v, members-length (o' + text_size v) ms)

-- ---- equal keys, as a test and as a statement

no_other : (k : Text) (v : Value) (ms : Members) → distinct_members (member k v ms) ≡ true
    → (member_of k ms ≡ none) × (distinct v && distinct_members ms ≡ true)
unfolding distinct
no_other k v ms e = test (member_of k ms) refl e
  where
    test : (o : Answer) → member_of k ms ≡ o
        → elim o as (λ _. Bool) [ some w ↦ false | none ↦ distinct v && distinct_members ms ] ≡ true
        → (member_of k ms ≡ none) × (distinct v && distinct_members ms ≡ true)
    test none m f = (m, f)
    test (some w) m f = clash (cc)

mutual
  unfolding distinct

  pub distinct-true : (v : Value) → distinct v ≡ true → Distinct v
  distinct-true (scalar x) e = tt
  distinct-true (array_of vs) e = values-true vs e
  distinct-true (object_of ms) e = members-true ms e

  values-true : (vs : Values) → distinct_values vs ≡ true → DistinctValues vs
  values-true no-values e = tt
  values-true (val v vs) e = let (a, b) = both_true (distinct v) (distinct_values vs) e in (distinct-true v a, values-true vs b)

  members-true : (ms : Members) → distinct_members ms ≡ true → DistinctMembers ms
  members-true no-members e = tt
  members-true (member k v ms) e =
      let (a, b) = no_other k v ms e in
      let (c, d) = both_true (distinct v) (distinct_members ms) b in
      (a, distinct-true v c, members-true ms d)

mutual
  unfolding distinct

  pub distinct-is : (v : Value) → Distinct v → distinct v ≡ true
  distinct-is (scalar x) d = refl
  distinct-is (array_of vs) d = values-are vs d
  distinct-is (object_of ms) d = members-are ms d

  values-are : (vs : Values) → DistinctValues vs → distinct_values vs ≡ true
  values-are no-values d = refl
  values-are (val v vs) d = rw (distinct-is v d.0, values-are vs d.1) refl

  members-are : (ms : Members) → DistinctMembers ms → distinct_members ms ≡ true
  members-are no-members d = refl
  members-are (member k v ms) d =
      ap (λ (o : Answer). elim o as (λ _. Bool) [ some w ↦ false | none ↦ distinct v && distinct_members ms ]) d.0
      ∙ rw (distinct-is v d.1, members-are ms d.2) refl

-- ---- a sized table is its tree's

pub record Sized (table text : List ℕ) (v : Value) : Type 0 where
  pub table_is : table ≡ sized_records 0 v
  pub text-is : text ≡ texts v
  pub keys : Distinct v
  pub nested : nesting_of v ≤ max_nesting

pub sized-sound : (table text : List ℕ) (v : Value) → sized_tree table text ≡ some v → Sized table text v
unfolding sized_tree
sized-sound table text v h = go (tree_of sized_head table text) refl h
  where
    test : Value → Bool
    test w = same table (sized_records 0 w) && same text (texts w) && distinct w

    found : (w : Value) → tree_of sized_head table text ≡ some w → (t : Bool) → test w ≡ t
        → ◌≡◌ {A = Option Value} (elim t [ true ↦ some w | false ↦ none ]) (some v) → Sized table text v
    found w r true e f =
        let z : w ≡ v = cc in
        let (a, b) = both_true (same table (sized_records 0 w) && same text (texts w)) (distinct w) e in
        let (c, d) = both_true (same table (sized_records 0 w)) (same text (texts w)) a in
        subst (Sized table text) z (record {
          table_is = same-eq table (sized_records 0 w) c;
          text-is = same-eq text (texts w) d;
          keys = distinct-true w b;
          nested = nested-tree sized_head table text w r;
        })
    found w r false e f = clash (cc)

    go : (o : Option Value) → tree_of sized_head table text ≡ o
        → ◌≡◌ {A = Option Value}
        (elim o as (λ _. Option Value) [
          | none ↦ none
          | some w ↦ elim (same table (sized_records 0 w) && same text (texts w) && distinct w) as
              (λ _. Option Value) [ true ↦ some w | false ↦ none ]
        ])
        (some v)
        → Sized table text v
    go none r e = clash (cc)
    go (some w) r e = found w r (test w) refl e

pub sized-complete : (v : Value) → Distinct v → nesting_of v ≤ max_nesting → sized_size v < 65536 → text_size v < 65536
    → sized_tree (sized_records 0 v) (texts v) ≡ some v
unfolding sized_tree sized_layout
sized-complete v d deep few small =
    let table = sized_records 0 v in
    ap (λ (o : Option Value). elim o as (λ _. Option Value) [
      | none ↦ none
      | some w ↦ elim (same table (sized_records 0 w) && same (texts v) (texts w) && distinct w) as
          (λ _. Option Value) [ true ↦ some w | false ↦ none ]
    ])
    (laid-read sized_layout v deep small (omega (arith, plain-smaller v)))
    ∙ rw (same_refl table, same_refl (texts v), distinct-is v d) refl

-- ---- the value that a path names

module _ (table text : List ℕ) where
  -- nothing and nothing, or a value and the place of its records, which stand there
  pub data Placed : Answer → Located Value → Type 0 where
    nothing : Placed none none
    placed : {w : Value} {at : ℕ} (offset : ℕ) → At table at (sized_records offset w) → At text offset (texts w)
        → Placed (some w) (some (w, at))

  member-placed : (key : Text) (ms : Members) (offset at : ℕ) → At table at (sized_member_records offset ms) → At text offset (member_texts ms)
      → Placed (member_of key ms) (sized_member key at ms)
  unfolding member_of sized_member sized_records texts text_record two
  member-placed key no-members offset at stands its-text = nothing
  member-placed key (member k v ms) offset at stands its-text =
      let o' = offset + length k in
      let o'' = o' + text_size v in
      let here = sized_records o' v in
      let others = sized_member_records o'' ms in
      let behind : At table (at + 5) (here ++ others) = at_right (text_record 8 offset k) (here ++ others) (at + 5) refl stands in
      let words : At text offset (k ++ texts v) = at_left (k ++ texts v) (member_texts ms) its-text in
      let rest : At text o'' (member_texts ms) =
      at_right (k ++ texts v) (member_texts ms) o'' (omega (arith, length-append k (texts v), length-texts v)) its-text in
      go (same k key) (at_left here others behind) (at_right k (texts v) o' refl words)
      (member-placed key ms o'' (at + 5 + sized_size v)
      (at_right here others (at + 5 + sized_size v) (omega (arith, sized-length o' v)) behind) rest)
    where
      go : (t : Bool) → At table (at + 5) (sized_records (offset + length k) v) → At text (offset + length k) (texts v)
          → Placed (member_of key ms) (sized_member key (at + 5 + sized_size v) ms)
          → Placed (elim t as (λ _. Answer) [ true ↦ some v | false ↦ member_of key ms ])
          (elim t as (λ _. Located Value) [ true ↦ some (v, at + 5) | false ↦ sized_member key (at + 5 + sized_size v) ms ])
      go true a b ih = placed (offset + length k) a b
      go false a b ih = ih

  pub named-placed : (path : List Text) (v : Value) (offset at : ℕ) → At table at (sized_records offset v) → At text offset (texts v)
      → Placed (value_at path v) (sized_named path at v)
  unfolding value_at member_in sized_named sized_records texts two
  named-placed [] v offset at stands its-text = placed offset stands its-text
  named-placed (k ∷ ks) (scalar x) offset at stands its-text = nothing
  named-placed (k ∷ ks) (array_of vs) offset at stands its-text = nothing
  named-placed (k ∷ ks) (object_of ms) offset at stands its-text =
      let inner : At table (at + 5) (sized_member_records offset ms) =
      at_right (7 ∷ two (count_members ms) ++ two (sized_member_sizes ms)) (sized_member_records offset ms) (at + 5) refl stands in
      go (member_of k ms) (sized_member k (at + 5) ms) (member-placed k ms offset (at + 5) inner its-text) (named-placed ks)
    where
      go : (o : Answer) (l : Located Value) → Placed o l
          → ((w : Value) (offset at : ℕ) → At table at (sized_records offset w) → At text offset (texts w)
          → Placed (value_at ks w) (sized_named ks at w))
          → Placed (elim o as (λ _. Answer) [ none ↦ none | some w ↦ value_at ks w ]) (located_then l (λ w p. sized_named ks p w))
      go none none nothing ih = nothing
      go (some w) (some p) (placed o a b) ih = ih w o p.1 a b
      go none (some p) x6 ih = elim x6 [ ]
      go (some w) none x6 ih = elim x6 [ ]

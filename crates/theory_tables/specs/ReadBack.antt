-- What was laid out is read back: of plain and of sized tables by one proof, over what the two layouts have in common.
use Rattle.std.specs.Prelude.{◌≡◌, Bool, true, false, eqb, length}
use Rattle.std.proofs.Math.Path.{refl, ap}
use Rattle.std.proofs.Common.{sym, subst, ◌∙◌, arith, length-append}
use Prim.Native.Nat.{ℕ, zero, suc, ◌+◌, ◌≤◌, ◌<◌}
use mathlib.Core.List.{List, [], ◌∷◌, ◌++◌, append-nil}
use Rattle.std.proofs.Math.Option.{Option, none, some}
use borrow.Author.Tests.{le-leb, eq-eqb}
use Rattle.rules.specs.Sizes.{max_nesting}
use Rattle.rules.specs.Bytes.{Text, byte_at, within, At}
use Rattle.rules.specs.Kinds as kinds
use Rattle.rules.specs.Tree.{Scalar, null, boolean, number, string}
use Rattle.rules.specs.Values.{Value, scalar, array_of, object_of, Values, no-values, val, Members, no-members, member, count_values}
use Rattle.rules.specs.Values.{count_members}
use Rattle.rules.specs.Values.{record_size, text_size, nesting_of, deepest_value, deepest_member, value_record_sizes, member_record_sizes}
use Rattle.rules.specs.Values.{value_text_sizes, member_text_sizes}
use Rattle.rules.specs.Sheet.{two, pair_at, text_record, scalar_record, records, value_records, member_records, texts, value_texts, member_texts}
use Rattle.rules.specs.LookUp.{text_at}
use Rattle.rules_tables.specs.Trees.{Located, located_then, text_from, values_from, members_from, written_of}
use Rattle.rules_tables.specs.Trees.{record_from, container_from, tree_from, tree_of}
use Rattle.rules_tables.specs.SizedTables.{sized_value_sizes, sized_member_sizes, sized_records, sized_value_records, sized_member_records}
use Rattle.theory.specs.Layout.{length-texts}
use Rattle.theory.specs.SameMeaning.{at_left, at_right, count-values, count-members}
use Rattle.theory.specs.LaidOut.{at_byte, at_pair, at-inside, text-laid, text-read}

-- ---- layouts

-- a value's records; a container has some bytes more between its count and its members
pub record Layout : Type 0 where
  pub more : ℕ
  pub value : ℕ → Value → List ℕ
  pub values : ℕ → Values → List ℕ
  pub members : ℕ → Members → List ℕ
  pub more_of_values : Values → List ℕ
  pub more_of_members : Members → List ℕ
  pub values-more : (vs : Values) → length (more_of_values vs) ≡ more
  pub members-more : (ms : Members) → length (more_of_members ms) ≡ more
  pub of-scalar : (o : ℕ) (x : Scalar) → value o (scalar x) ≡ scalar_record o x
  pub of_array : (o : ℕ) (vs : Values) → value o (array_of vs) ≡ 6 ∷ two (count_values vs) ++ (more_of_values vs ++ values o vs)
  pub of-object : (o : ℕ) (ms : Members) → value o (object_of ms) ≡ 7 ∷ two (count_members ms) ++ (more_of_members ms ++ members o ms)
  pub no_value : (o : ℕ) → values o no-values ≡ []
  pub no_member : (o : ℕ) → members o no-members ≡ []
  pub next-value : (o : ℕ) (v : Value) (vs : Values) → values o (val v vs) ≡ value o v ++ values (o + text_size v) vs
  pub next-member : (o : ℕ) (k : Text) (v : Value) (ms : Members)
      → members o (member k v ms) ≡ text_record 8 o k ++ (value (o + length k) v ++ members (o + length k + text_size v) ms)

unfoldable pub plain_layout : Layout
unfolding records two text_record
plain_layout = record {
  more = 0;
  value = records;
  values = value_records;
  members = member_records;
  more_of_values = λ vs. [];
  more_of_members = λ ms. [];
  values-more = λ vs. refl;
  members-more = λ ms. refl;
  of-scalar = λ o x. refl;
  of_array = λ o vs. refl;
  of-object = λ o ms. refl;
  no_value = λ o. refl;
  no_member = λ o. refl;
  next-value = λ o v vs. refl;
  next-member = λ o k v ms. refl;
}

unfoldable pub sized_layout : Layout
unfolding sized_records two text_record
sized_layout = record {
  more = 2;
  value = sized_records;
  values = sized_value_records;
  members = sized_member_records;
  more_of_values = λ vs. two (sized_value_sizes vs);
  more_of_members = λ ms. two (sized_member_sizes ms);
  values-more = λ vs. refl;
  members-more = λ ms. refl;
  of-scalar = λ o x. refl;
  of_array = λ o vs. refl;
  of-object = λ o ms. refl;
  no_value = λ o. refl;
  no_member = λ o. refl;
  next-value = λ o v vs. refl;
  next-member = λ o k v ms. refl;
}

-- ---- reading

module _ (L : Layout) (table text : List ℕ) where
  abbrev head : ℕ
  head = 3 + L.more

  text-found : (kind o : ℕ) (t : Text) (at : ℕ) → o + length t < 65536 → At table at (text_record kind o t) → At text o t
      → text_from table text kind at ≡ some (t, at + 5)
  unfolding text_from
  text-found kind o t at small stands its-text =
      ap (λ (q : Option ℕ). elim q as (λ _. Located Text) [ none ↦ none | some end ↦ some (text_at table text at, end) ])
      (text-laid table text kind o t at small stands its-text)
      ∙ ap (λ (w : Text). some (w, at + 5)) (text-read table text kind o t at small stands its-text)

  -- a record without members, whatever the levels
  simple-read : (levels at kind : ℕ) (r : Located Value) → byte_at table at ≡ kind
      → ((container : Bool → Located Value) → record_from kind head table text at container ≡ r) → tree_from head levels table text at ≡ r
  unfolding tree_from
  simple-read zero at kind r k h = ap (λ b. record_from b head table text at (λ keyed. none)) k ∙ h (λ keyed. none)
  simple-read (suc n) at kind r k h =
      let f = container_from (tree_from head n table text) head table text at in
      ap (λ b. record_from b head table text at f) k ∙ h f

  written_read : (kind levels o at : ℕ) (t : Text) → within kinds.null kinds.true kind ≡ false
      → within kinds.number kinds.string kind ≡ true
      → o + length t < 65536 → At table at (text_record kind o t) → At text o t
      → tree_from head levels table text at ≡ some (scalar (written_of kind t), at + 5)
  unfolding record_from text_record
  written_read kind levels o at t p q small stands its-text =
      simple-read levels at kind _ (at_byte kind (two o ++ two (length t)) stands)
      (λ f. rw (record_from, p, q)
      (ap (λ (r : Located Text). located_then r (λ w end. some (scalar (written_of kind w), end)))
      (text-found kind o t at small stands its-text)))

  scalar_read : (x : Scalar) (levels o at : ℕ) → At table at (scalar_record o x) → At text o (texts (scalar x))
      → o + text_size (scalar x) < 65536
      → tree_from head levels table text at ≡ some (scalar x, at + length (scalar_record o x))
  unfolding record_from scalar_record text_record two texts text_size
  scalar_read null levels o at stands its-text small = simple-read levels at 1 _ (at_byte 1 [] stands) (λ f. refl)
  scalar_read (boolean false) levels o at stands its-text small = simple-read levels at 2 _ (at_byte 2 [] stands) (λ f. refl)
  scalar_read (boolean true) levels o at stands its-text small = simple-read levels at 3 _ (at_byte 3 [] stands) (λ f. refl)
  scalar_read (number t) levels o at stands its-text small = written_read 4 levels o at t refl refl small stands its-text
  scalar_read (string t) levels o at stands its-text small = written_read 5 levels o at t refl refl small stands its-text

  -- a container's kind, its count, and its members behind them
  head_read : (kind count : ℕ) (extra body : List ℕ) (at : ℕ) → length extra ≡ L.more → count < 65536
      → At table at (kind ∷ two count ++ (extra ++ body))
      → (byte_at table at ≡ kind) × (pair_at table (at + 1) ≡ count) × (at + head ≤ length table) × At table (at + head) body
  unfolding two
  head_read kind count extra body at l small stands =
      let front : At table at ((kind ∷ two count ++ extra) ++ body) = stands in (
        at_byte kind (two count ++ (extra ++ body)) stands,
        at_pair count (extra ++ body) small (at_right (kind ∷ []) (two count ++ (extra ++ body)) (at + 1) refl stands),
        omega (arith, l, at-inside (kind ∷ two count ++ extra) (at_left (kind ∷ two count ++ extra) body front)),
        at_right (kind ∷ two count ++ extra) body (at + head) (omega (arith, l)) front,
      )

  container-read : (kind at : ℕ) (f : Bool → Located Value) → within kinds.null kinds.true kind ≡ false
      → within kinds.number kinds.string kind ≡ false → within kinds.array kinds.object kind ≡ true → at + head ≤ length table
      → record_from kind head table text at f ≡ f (eqb kind kinds.object)
  unfolding record_from
  container-read kind at f p q r l = rw (record_from, p, q, r, le-leb (at + head) (length table) l) refl

  mutual
    unfolding texts text_size record_size nesting_of count_values count_members tree_from container_from two text_record

    value_read : (v : Value) (levels o at : ℕ) → nesting_of v ≤ levels → At table at (L.value o v) → At text o (texts v)
        → o + text_size v < 65536
        → record_size v < 65536 → tree_from head levels table text at ≡ some (v, at + length (L.value o v))
    value_read (scalar x) levels o at deep stands its-text small few =
        let e = L.of-scalar o x in
        scalar_read x levels o at (subst (At table at) e stands) its-text small
        ∙ ap (λ (s : List ℕ). some (scalar x, at + length s)) (sym e)
    value_read (array_of vs) zero o at deep stands its-text small few = absurd (omega arith)
    value_read (array_of vs) (suc m) o at deep stands its-text small few =
        let e = L.of_array o vs in
        let more = L.more_of_values vs in
        let one = tree_from head m table text in
        let (k, c, l, rest) = head_read 6 (count_values vs) more (L.values o vs) at (L.values-more vs) (omega (arith, count-values vs))
        (subst (At table at) e stands) in
        ap (λ b. record_from b head table text at (container_from one head table text at)) k
        ∙ container-read 6 at (container_from one head table text at) refl refl refl l
        ∙ ap (λ q. located_then (values_from one q (at + head)) (λ ws p. some (array_of ws, p))) c
        ∙ ap (λ (q : Located Values). located_then q (λ ws p. some (array_of ws, p)))
        (values-read vs m o (at + head) (omega arith) rest its-text small (omega arith))
        ∙ ap (λ (q : ℕ). some (array_of vs, q)) (omega (arith, ap length e, length-append more (L.values o vs), L.values-more vs))
    value_read (object_of ms) zero o at deep stands its-text small few = absurd (omega arith)
    value_read (object_of ms) (suc m) o at deep stands its-text small few =
        let e = L.of-object o ms in
        let more = L.more_of_members ms in
        let one = tree_from head m table text in
        let (k, c, l, rest) = head_read 7 (count_members ms) more (L.members o ms) at (L.members-more ms) (omega (arith, count-members ms))
        (subst (At table at) e stands) in
        ap (λ b. record_from b head table text at (container_from one head table text at)) k
        ∙ container-read 7 at (container_from one head table text at) refl refl refl l
        ∙ ap (λ q. located_then (members_from one table text q (at + head)) (λ ns p. some (object_of ns, p))) c
        ∙ ap (λ (q : Located Members). located_then q (λ ns p. some (object_of ns, p)))
        (members-read ms m o (at + head) (omega arith) rest its-text small (omega arith))
        ∙ ap (λ (q : ℕ). some (object_of ms, q)) (omega (arith, ap length e, length-append more (L.members o ms), L.members-more ms))

    values-read : (vs : Values) (m o at : ℕ) → deepest_value vs ≤ m → At table at (L.values o vs) → At text o (value_texts vs)
        → o + value_text_sizes vs < 65536 → value_record_sizes vs < 65536
        → values_from (tree_from head m table text) (count_values vs) at ≡ some (vs, at + length (L.values o vs))
    values-read no-values m o at deep stands its-text small few =
        ap (λ (q : ℕ). some (no-values, q)) (omega (arith, ap length (L.no_value o)))
    values-read (val v vs) m o at deep stands its-text small few =
        let e = L.next-value o v vs in
        let here = L.value o v in
        let o' = o + text_size v in
        let others = L.values o' vs in
        let both = subst (At table at) e stands in
        let one = tree_from head m table text in
        ap (λ (q : Located Value). located_then q (λ w p. located_then (values_from one (count_values vs) p) (λ ws r. some (val w ws, r))))
        (value_read v m o at (omega arith) (at_left here others both) (at_left (texts v) (value_texts vs) its-text) (omega arith)
        (omega arith))
        ∙ ap (λ (q : Located Values). located_then q (λ ws r. some (val v ws, r)))
        (values-read vs m o' (at + length here) (omega arith) (at_right here others (at + length here) refl both)
        (at_right (texts v) (value_texts vs) o' (omega (arith, length-texts v)) its-text) (omega arith) (omega arith))
        ∙ ap (λ (q : ℕ). some (val v vs, q)) (omega (arith, ap length e, length-append here others))

    members-read : (ms : Members) (m o at : ℕ) → deepest_member ms ≤ m → At table at (L.members o ms) → At text o (member_texts ms)
        → o + member_text_sizes ms < 65536 → member_record_sizes ms < 65536
        → members_from (tree_from head m table text) table text (count_members ms) at ≡ some (ms, at + length (L.members o ms))
    members-read no-members m o at deep stands its-text small few =
        ap (λ (q : ℕ). some (no-members, q)) (omega (arith, ap length (L.no_member o)))
    members-read (member k v ms) m o at deep stands its-text small few =
        let e = L.next-member o k v ms in
        let o' = o + length k in
        let o'' = o' + text_size v in
        let key = text_record 8 o k in
        let here = L.value o' v in
        let others = L.members o'' ms in
        let both = subst (At table at) e stands in
        let behind = at_right key (here ++ others) (at + 5) refl both in
        let words = at_left (k ++ texts v) (member_texts ms) its-text in
        let one = tree_from head m table text in
        ap (λ (q : Located Text). located_then q (λ j p. located_then (one p) (λ w r.
        located_then (members_from one table text (count_members ms) r) (λ ns z. some (member j w ns, z)))))
        (text-found 8 o k at (omega arith) (at_left key (here ++ others) both) (at_left k (texts v) words))
        ∙ ap (λ (q : Located Value). located_then q
        (λ w r. located_then (members_from one table text (count_members ms) r) (λ ns z. some (member k w ns, z))))
        (value_read v m o' (at + 5) (omega arith) (at_left here others behind) (at_right k (texts v) o' refl words) (omega arith)
        (omega arith))
        ∙ ap (λ (q : Located Members). located_then q (λ ns z. some (member k v ns, z)))
        (members-read ms m o'' (at + 5 + length here) (omega arith) (at_right here others (at + 5 + length here) refl behind)
        (at_right (k ++ texts v) (member_texts ms) o'' (omega (arith, length-append k (texts v), length-texts v)) its-text) (omega arith)
        (omega arith))
        ∙ ap (λ (q : ℕ). some (member k v ms, q))
        (omega (arith, ap length e, length-append key (here ++ others), length-append here others))

-- a whole table is the tree's that it was laid out from
pub laid-read : (L : Layout) (v : Value) → nesting_of v ≤ max_nesting → text_size v < 65536 → record_size v < 65536
    → tree_of (3 + L.more) (L.value 0 v) (texts v) ≡ some v
unfolding tree_of
laid-read L v deep small few =
    let table = L.value 0 v in
    ap (λ (m : Located Value). elim m as (λ _. Option Value) [
      | none ↦ none
      | some p ↦ elim (eqb p.1 (length table)) as (λ _. Option Value) [ true ↦ some p.0 | false ↦ none ]
    ])
    (value_read L table (texts v) v max_nesting 0 0 deep ([], [], refl, sym (append-nil table)) ([], [], refl, sym (append-nil (texts v)))
    (omega arith) few)
    ∙ rw (eq-eqb (0 + length table) (length table) (omega arith)) refl

-- Of a sized table, skips by lengths come to the places that the definitions give.
use Rattle.std.specs.Prelude.{◌≡◌, eqb}
use Rattle.std.proofs.Math.Path.{refl, ap}
use Rattle.std.proofs.Common.{◌∙◌}
use Prim.Native.Nat.{ℕ, ◌+◌, ◌≤◌, ◌<◌}
use mathlib.Core.List.{List, [], ◌∷◌, ◌++◌}
use Rattle.std.proofs.Math.Bool.{Bool, true, false}
use Rattle.std.proofs.Math.Option.{Option, none, some}
use native.Mathlib.Omega.{arith}
use borrow.Author.Tests.{le-leb}
use Rattle.std.proofs.Math.ListN.{length, length-append}
use Rattle.rules.specs.Bytes.{Text, byte_at, same, At}
use Rattle.rules.specs.Tree.{Scalar, null, boolean, number, string}
use Rattle.rules.specs.Values.{Value, scalar, array_of, object_of, Members, no-members, member, count_values, count_members}
use Rattle.rules.specs.Values.{scalar_records, text_size, member_text_sizes}
use Rattle.rules.specs.Sheet.{two, pair_at, text_record, scalar_record, texts, member_texts}
use Rattle.rules.specs.LookUp.{text_at}
use Rattle.rules_tables.specs.Trees.{Located}
use Rattle.rules_tables.specs.SizedTables.{sized_size, sized_value_sizes, sized_member_sizes, sized_records, sized_value_records}
use Rattle.rules_tables.specs.SizedTables.{sized_member_records, sized_member}
use Rattle.theory.specs.Layout.{length-texts}
use Rattle.theory.specs.SameMeaning.{at_left, at_right}
use Rattle.theory.specs.LaidOut.{at_byte, at_pair, at-inside, text-read}
use Rattle.theory_tables.specs.Trees.{end_of}
use Rattle.theory_tables.specs.Sized.{sized-length}
use Rattle.sheet_records.specs.Kinds.Kinds.{kind_of}
use Rattle.sheet_records.specs.declared.kinds.Kind.{Kind}
use Rattle.table_records.specs.Skips.{ends_at, skip_by, skip_value, member_from, member_at}

count-sized : (ms : Members) → count_members ms ≤ sized_member_sizes ms
unfolding count_members sized_size
count-sized no-members = omega arith
count-sized (member k v ms) = omega (arith, count-sized ms)

module _ (table text : List ℕ) where
  ends-inside : (end : ℕ) → end ≤ length table → ends_at table end ≡ some end
  unfolding ends_at
  ends-inside end h = rw (ends_at, le-leb end (length table) h) refl

  by_kind : (at b : ℕ) → byte_at table at ≡ b → skip_value table at ≡ skip_by table at (kind_of b)
  unfolding skip_value
  by_kind at b e = ap (λ (k : ℕ). skip_by table at (kind_of k)) e

  skip-scalar : (x : Scalar) (o at : ℕ) → At table at (scalar_record o x) → skip_value table at ≡ some (at + scalar_records x)
  unfolding scalar_record scalar_records text_record two skip_by kind_of
  skip-scalar null o at s = by_kind at 1 (at_byte 1 [] s)
  skip-scalar (boolean false) o at s = by_kind at 2 (at_byte 2 [] s)
  skip-scalar (boolean true) o at s = by_kind at 3 (at_byte 3 [] s)
  skip-scalar (number t) o at s =
      by_kind at 4 (at_byte 4 (two o ++ two (length t)) s) ∙ ends-inside (at + 5) (at-inside (text_record 4 o t) s)
  skip-scalar (string t) o at s =
      by_kind at 5 (at_byte 5 (two o ++ two (length t)) s) ∙ ends-inside (at + 5) (at-inside (text_record 5 o t) s)

  -- a container's length stands behind its count
  skip-container : (kind count size at : ℕ) (keyed : Bool) (body : List ℕ) → kind_of kind ≡ Kind.Container keyed → size < 65536
      → length body ≡ size → At table at (kind ∷ two count ++ (two size ++ body)) → skip_value table at ≡ some (at + (5 + size))
  unfolding skip_by two
  skip-container kind count size at keyed body k small l s =
      let whole = kind ∷ two count ++ (two size ++ body) in
      let stored : pair_at table (at + 3) ≡ size =
      at_pair size body small (at_right (kind ∷ two count) (two size ++ body) (at + 3) refl s) in
      let there : at + 5 + size ≡ at + (5 + size) = omega arith in
      by_kind at kind (at_byte kind (two count ++ (two size ++ body)) s) ∙ ap (skip_by table at) k
      ∙ ap (λ (n : ℕ). ends_at table (at + 5 + n)) stored
      ∙ ends-inside (at + 5 + size) (omega (arith, at-inside whole s, l)) ∙ ap (λ (n : ℕ). some n) there

  -- a value is skipped
  pub skip-sized : (v : Value) (o at : ℕ) → sized_size v < 65536 → At table at (sized_records o v)
      → skip_value table at ≡ some (at + sized_size v)
  unfolding sized_records sized_size kind_of two
  skip-sized (scalar x) o at small s = skip-scalar x o at s
  skip-sized (array_of vs) o at small s =
      let body = sized_value_records o vs in
      skip-container 6 (count_values vs) (sized_value_sizes vs) at false body refl (omega (arith, small))
      (omega (arith, sized-length o (array_of vs))) s
  skip-sized (object_of ms) o at small s =
      let body = sized_member_records o ms in
      skip-container 7 (count_members ms) (sized_member_sizes ms) at true body refl (omega (arith, small))
      (omega (arith, sized-length o (object_of ms))) s

  -- and a key's value found
  pub from-sized : (key : Text) (ms : Members) (o at : ℕ) → sized_member_sizes ms < 65536 → o + member_text_sizes ms < 65536
      → At table at (sized_member_records o ms) → At text o (member_texts ms)
      → member_from (count_members ms) table text key at ≡ end_of (sized_member key at ms)
  unfolding member_from sized_member sized_records sized_size count_members texts text_size text_record two
  from-sized key no-members o at few small s t = refl
  from-sized key (member k v ms) o at few small s t =
      let o' = o + length k in
      let o'' = o' + text_size v in
      let here = sized_records o' v in
      let others = sized_member_records o'' ms in
      let next = at + 5 + sized_size v in
      let behind : At table (at + 5) (here ++ others) = at_right (text_record 8 o k) (here ++ others) (at + 5) refl s in
      let key-stands : At table at (text_record 8 o k) = at_left (text_record 8 o k) (here ++ others) s in
      let words : At text o (k ++ texts v) = at_left (k ++ texts v) (member_texts ms) t in
      let rest : At text o'' (member_texts ms) =
      at_right (k ++ texts v) (member_texts ms) o'' (omega (arith, length-append k (texts v), length-texts v)) t in
      go (same k key) (text-read table text 8 o k at (omega arith) key-stands (at_left k (texts v) words))
      (skip-sized v o' (at + 5) (omega arith) (at_left here others behind))
      (from-sized key ms o'' next (omega arith) (omega arith) (at_right here others next (omega (arith, sized-length o' v)) behind) rest)
    where
      found : Bool → Option ℕ → Option ℕ
      found true r = some (at + 5)
      found false r = r

      go : (b : Bool) → text_at table text at ≡ k → skip_value table (at + 5) ≡ some (at + 5 + sized_size v)
          → member_from (count_members ms) table text key (at + 5 + sized_size v) ≡ end_of (sized_member key (at + 5 + sized_size v) ms)
          → elim (same (text_at table text at) key) as (λ _. Option ℕ) [
            | true ↦ some (at + 5)
            | false ↦ elim (skip_value table (at + 5)) as
                (λ _. Option ℕ) [ none ↦ none | some q ↦ member_from (count_members ms) table text key q ]
          ]
          ≡ end_of {A = Value} (elim (same k key) as
          (λ _. Located Value) [ true ↦ some (v, at + 5) | false ↦ sized_member key (at + 5 + sized_size v) ms ])
      go b r e ih =
          ap (λ (z : Text). elim (same z key) as (λ _. Option ℕ) [
            | true ↦ some (at + 5)
            | false ↦ elim (skip_value table (at + 5)) as
                (λ _. Option ℕ) [ none ↦ none | some q ↦ member_from (count_members ms) table text key q ]
          ]) r
          ∙ ap (λ (z : Option ℕ). elim (same k key) as (λ _. Option ℕ) [
            | true ↦ some (at + 5)
            | false ↦ elim z as (λ _. Option ℕ) [ none ↦ none | some q ↦ member_from (count_members ms) table text key q ]
          ]) e
          ∙ test (same k key) ih
        where
          test : (t : Bool) → member_from (count_members ms) table text key (at + 5 + sized_size v)
              ≡ end_of (sized_member key (at + 5 + sized_size v) ms)
              → elim t as (λ _. Option ℕ) [
                | true ↦ some (at + 5)
                | false ↦ member_from (count_members ms) table text key
                    (at + 5 + sized_size v)
              ]
              ≡ end_of {A = Value} (elim t as
              (λ _. Located Value) [ true ↦ some (v, at + 5) | false ↦ sized_member key (at + 5 + sized_size v) ms ])
          test true i = refl
          test false i = i

  -- so in an object of a sized table
  pub at-sized : (key : Text) (ms : Members) (o at : ℕ) → sized_size (object_of ms) < 65536 → o + text_size (object_of ms) < 65536
      → At table at (sized_records o (object_of ms)) → At text o (texts (object_of ms))
      → member_at table text key at ≡ end_of (sized_member key (at + 5) ms)
  unfolding member_at sized_records sized_size texts text_size two
  at-sized key ms o at few small s t =
      let count = count_members ms in
      let size = sized_member_sizes ms in
      let body = sized_member_records o ms in
      let kind : byte_at table at ≡ 7 = at_byte 7 (two count ++ (two size ++ body)) s in
      let counted : pair_at table (at + 1) ≡ count =
      at_pair count (two size ++ body) (omega (arith, few, count-sized ms))
      (at_right (7 ∷ []) (two count ++ (two size ++ body)) (at + 1) refl s) in
      let inner : At table (at + 5) body = at_right (7 ∷ two count ++ two size) body (at + 5) refl s in
      ap (λ (b : ℕ). elim (eqb b 7) as
      (λ _. Option ℕ) [ true ↦ member_from (pair_at table (at + 1)) table text key (at + 5) | false ↦ none ]) kind
      ∙ ap (λ (n : ℕ). member_from n table text key (at + 5)) counted
      ∙ from-sized key ms o (at + 5) (omega (arith, few)) small inner t

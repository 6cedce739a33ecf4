-- Document 02, No. 9: "a working table, document 01's without equal keys, texts by its rule, with the 2-byte length of the members after
-- each member count". Here it is called a sized table, and document 01's a plain one.
use Rattle.std.specs.Prelude.{ℕ, ◌+◌, List, [], ◌∷◌, ◌++◌, Bool, true, false, ◌&&◌, leb, length}
use Rattle.std.proofs.Math.Option.{Option, none, some}
use Rattle.rules.specs.Bytes.{Text, same}
use Rattle.rules.specs.Kinds as kinds
use Rattle.rules.specs.Values.{Value, scalar, array_of, object_of, Values, no-values, val, Members, no-members, member}
use Rattle.rules.specs.Values.{count_values, count_members, scalar_records, text_size}
use Rattle.rules.specs.Sheet.{two, text_record, scalar_record, texts}
use Rattle.rules_tables.specs.Trees.{sized_head, Located, located_then, tree_of, distinct}

-- how long a value's records are, as `record_size` of a plain table
unfoldable mutual
  unfolding scalar_records

  pub sized_size : Value → ℕ
  sized_size (scalar x) = scalar_records x
  sized_size (array_of vs) = sized_head + sized_value_sizes vs
  sized_size (object_of ms) = sized_head + sized_member_sizes ms

  pub sized_value_sizes : Values → ℕ
  sized_value_sizes no-values = 0
  sized_value_sizes (val v vs) = sized_size v + sized_value_sizes vs

  pub sized_member_sizes : Members → ℕ
  sized_member_sizes no-members = 0
  sized_member_sizes (member k v ms) = 5 + sized_size v + sized_member_sizes ms

-- a value's records, as `records` of a plain table, "with the 2-byte length of the members after each member count"; its texts are
-- `texts`, "by its rule"
unfoldable mutual
  unfolding two text_record scalar_record text_size count_values count_members sized_size

  pub sized_records : ℕ → Value → List ℕ
  sized_records offset (scalar x) = scalar_record offset x
  sized_records offset (array_of vs) = kinds.array ∷ two (count_values vs) ++ two (sized_value_sizes vs) ++ sized_value_records offset vs
  sized_records offset (object_of ms) = kinds.object ∷ two (count_members ms) ++ two (sized_member_sizes ms) ++ sized_member_records offset ms

  pub sized_value_records : ℕ → Values → List ℕ
  sized_value_records offset no-values = []
  sized_value_records offset (val v vs) = sized_records offset v ++ sized_value_records (offset + text_size v) vs

  pub sized_member_records : ℕ → Members → List ℕ
  sized_member_records offset no-members = []
  sized_member_records offset (member k v ms) =
      text_record kinds.key offset k ++ sized_records (offset + length k) v ++ sized_member_records (offset + length k + text_size v) ms

-- the tree of a lent sized table; "any other lent" has none, and is 15: what is read of it has these very records and texts
unfoldable pub sized_tree : (table text : List ℕ) → Option Value
unfolding tree_of same sized_records texts distinct
sized_tree table text =
    elim (tree_of sized_head table text) [
      | none ↦ none
      | some v ↦ elim (same table (sized_records 0 v) && same text (texts v) && distinct v) [ true ↦ some v | false ↦ none ]
    ]

-- "the lent room"
unfoldable pub sized_fits : (table_room text_room : ℕ) → Value → Bool
unfolding sized_size text_size
sized_fits table_room text_room v = leb (sized_size v) table_room && leb (text_size v) text_room

-- ---- the value that a path names, and where its records begin

unfoldable pub sized_member : (key : Text) (at : ℕ) → Members → Located Value
unfolding same sized_size
sized_member key at no-members = none
sized_member key at (member k v ms) =
    elim (same k key) [ true ↦ some (v, at + 5) | false ↦ sized_member key (at + 5 + sized_size v) ms ]

unfoldable pub sized_named : (path : List Text) (at : ℕ) → Value → Located Value
unfolding sized_member
sized_named [] at v = some (v, at)
sized_named (k ∷ ks) at (scalar x) = none
sized_named (k ∷ ks) at (array_of vs) = none
sized_named (k ∷ ks) at (object_of ms) = located_then (sized_member k (at + sized_head) ms) (λ v p. sized_named ks p v)

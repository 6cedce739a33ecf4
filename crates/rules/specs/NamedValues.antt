-- What a path names in a value, and where the records of a value stand in a table: what a look-up in a table that was laid out comes to.
use Rattle.std.specs.Prelude.{◌≡◌, ℕ, ◌+◌, ◌≤◌, ◌<◌, List, [], ◌∷◌, true, false}
use Rattle.std.proofs.Math.Option.{Option, none, some}
use Rattle.rules.specs.Sizes.{max_nesting}
use Rattle.rules.specs.Bytes.{Text, same, At}
use Rattle.rules.specs.Values.{Value, scalar, array_of, object_of, Values, no-values, val, Members, no-members, member, Answer}
use Rattle.rules.specs.Values.{record_size, text_size, nesting_of, member_record_sizes, member_text_sizes, deepest_member}
use Rattle.rules.specs.Sheet.{records, member_records, texts, member_texts}

-- ---- the value that a path names in a value

-- the first member of that name
unfoldable pub member_of : Text → Members → Option Value
member_of key no-members = none
member_of key (member k v ms) = elim (same k key) [ true ↦ some v | false ↦ member_of key ms ]

unfoldable pub member_in : Text → Value → Option Value
unfolding member_of
member_in key (scalar x) = none
member_in key (array_of vs) = none
member_in key (object_of ms) = member_of key ms

unfoldable pub value_at : List Text → Value → Option Value
unfolding member_in
value_at [] v = some v
value_at (key ∷ path) v = elim (member_in key v) [ none ↦ none | some w ↦ value_at path w ]

-- ---- values in which no key stands twice

abbrev mutual
  pub Distinct : Value → Type 0
  Distinct (scalar x) = Unit {0}
  Distinct (array_of vs) = DistinctValues vs
  Distinct (object_of ms) = DistinctMembers ms

  pub DistinctValues : Values → Type 0
  DistinctValues no-values = Unit {0}
  DistinctValues (val v vs) = Distinct v × DistinctValues vs

  -- no member behind one has its key
  pub DistinctMembers : Members → Type 0
  DistinctMembers no-members = Unit {0}
  DistinctMembers (member k v ms) = (member_of k ms ≡ none) × Distinct v × DistinctMembers ms

abbrev pub DistinctAnswer : Answer → Type 0
DistinctAnswer none = Unit {0}
DistinctAnswer (some v) = Distinct v

-- ---- where values stand

module _ (table text : List ℕ) where
  -- a value's records stand at a place of the table, and its texts where those say
  pub record Stands (v : Value) (at : ℕ) : Type 0 where
    pub offset : ℕ
    pub in_table : At table at (records offset v)
    pub in-text : At text offset (texts v)
    pub small : offset + text_size v < 65536
    pub few : record_size v < 65536
    pub shallow : nesting_of v ≤ max_nesting

  -- members' records stand at a place of the table, and their texts where those say
  pub record MembersStand (ms : Members) (at : ℕ) : Type 0 where
    pub offset : ℕ
    pub in_table : At table at (member_records offset ms)
    pub in-text : At text offset (member_texts ms)
    pub small : offset + member_text_sizes ms < 65536
    pub few : member_record_sizes ms < 65536
    pub shallow : deepest_member ms ≤ max_nesting

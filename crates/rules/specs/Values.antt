-- Finished values: what resolving makes and what records describe; their sizes.
use Rattle.std.specs.Prelude.{ℕ, suc, ◌+◌, max, [], Bool, true, false, ◌&&◌, leb, length}
use Rattle.std.proofs.Math.Option.{Option, none, some}
use Rattle.rules.specs.Sizes.{max_nesting, max_records, max_text}
use Rattle.rules.specs.Bytes.{Text, same}
use Rattle.rules.specs.Tree.{Scalar, null, boolean, number, string}

mutual
  pub data Value : Type 0 where
    scalar : Scalar → Value
    array_of : Values → Value
    object_of : Members → Value

  pub data Values : Type 0 where
    no-values : Values
    val : Value → Values → Values

  pub data Members : Type 0 where
    no-members : Members
    member : Text → Value → Members → Members

-- an answer is a value, or undefined
abbrev pub Answer : Type 0
Answer = Option Value

unfoldable pub count_values : Values → ℕ
count_values no-values = 0
count_values (val v vs) = suc (count_values vs)

unfoldable pub count_members : Members → ℕ
count_members no-members = 0
count_members (member k v ms) = suc (count_members ms)

unfoldable pub join_values : Values → Values → Values
join_values no-values ws = ws
join_values (val v vs) ws = val v (join_values vs ws)

-- ---- sizes: of a value's own records and texts (docs/DECISIONS.md, R23); a simple value is nested 0, a container one more than its
-- deepest member (R22)

unfoldable pub scalar_records : Scalar → ℕ
scalar_records null = 1
scalar_records (boolean b) = 1
scalar_records (number t) = 5
scalar_records (string t) = 5

-- null and the truth values have no text of their own
unfoldable pub own_text : Scalar → Text
own_text null = []
own_text (boolean b) = []
own_text (number t) = t
own_text (string t) = t

unfoldable mutual
  unfolding scalar_records

  pub record_size : Value → ℕ
  record_size (scalar x) = scalar_records x
  record_size (array_of vs) = 3 + value_record_sizes vs
  record_size (object_of ms) = 3 + member_record_sizes ms

  pub value_record_sizes : Values → ℕ
  value_record_sizes no-values = 0
  value_record_sizes (val v vs) = record_size v + value_record_sizes vs

  pub member_record_sizes : Members → ℕ
  member_record_sizes no-members = 0
  member_record_sizes (member k v ms) = 5 + record_size v + member_record_sizes ms

unfoldable mutual
  unfolding own_text

  pub text_size : Value → ℕ
  text_size (scalar x) = length (own_text x)
  text_size (array_of vs) = value_text_sizes vs
  text_size (object_of ms) = member_text_sizes ms

  pub value_text_sizes : Values → ℕ
  value_text_sizes no-values = 0
  value_text_sizes (val v vs) = text_size v + value_text_sizes vs

  pub member_text_sizes : Members → ℕ
  member_text_sizes no-members = 0
  member_text_sizes (member k v ms) = length k + text_size v + member_text_sizes ms

unfoldable mutual
  pub nesting_of : Value → ℕ
  nesting_of (scalar x) = 0
  nesting_of (array_of vs) = suc (deepest_value vs)
  nesting_of (object_of ms) = suc (deepest_member ms)

  pub deepest_value : Values → ℕ
  deepest_value no-values = 0
  deepest_value (val v vs) = max (nesting_of v) (deepest_value vs)

  pub deepest_member : Members → ℕ
  deepest_member no-members = 0
  deepest_member (member k v ms) = max (nesting_of v) (deepest_member ms)

-- "nested at most 32, 16,384 bytes of records, 16,384 of text"
unfoldable pub within_size : Value → Bool
unfolding nesting_of record_size text_size
within_size v = leb (nesting_of v) max_nesting && leb (record_size v) max_records && leb (text_size v) max_text

-- ---- two finished objects merged, keys in order of first appearance: a member of the upper one takes the place of the lower one's
-- of that key, and merges with it where both are objects

-- the lower object with one member more, or with that key's value changed
unfoldable pub put_member : (key : Text) (new : Answer → Value) (ms : Members) → Members
unfolding same
put_member k new no-members = member k (new none) no-members
put_member k new (member j v ms) = elim (same j k) [ true ↦ member j (new (some v)) ms | false ↦ member j v (put_member k new ms) ]

unfoldable mutual
  unfolding put_member

  -- what the upper value makes of the lower one of its key, if there is one
  pub merge_over : Value → Answer → Value
  merge_over (scalar x) lower = scalar x
  merge_over (array_of vs) lower = array_of vs
  merge_over (object_of ms) none = object_of ms
  merge_over (object_of ms) (some (scalar x)) = object_of ms
  merge_over (object_of ms) (some (array_of vs)) = object_of ms
  merge_over (object_of ms) (some (object_of ls)) = object_of (merge_members ms ls)

  -- the upper members put into the lower ones, in turn
  pub merge_members : Members → Members → Members
  merge_members no-members lower = lower
  merge_members (member k v ms) lower = merge_members ms (put_member k (λ old. merge_over v old) lower)

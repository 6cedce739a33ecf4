-- Values whose keys are numbers, and their records as kept: as long as document 01's, record for record, and the same but for two. In a key's
-- the two bytes of the text's offset are the key's number, so that keys are compared as numbers; the key's text stands among the texts all the
-- same. In an array's and an object's the two bytes of the count are how long what is inside is, so that its end is known without a walk.
use Rattle.std.specs.Prelude.{ℕ, suc, ◌+◌, List, [], ◌∷◌, ◌++◌, length}
use Rattle.rules.specs.Bytes.{Text}
use Rattle.rules.specs.Tree.{Scalar}
use Rattle.rules.specs.Values.{Value, scalar, array_of, object_of, Values, no-values, val, Members, no-members, member}
use Rattle.rules.specs.Values.{record_size, value_record_sizes, member_record_sizes, text_size}
use Rattle.rules.specs.Sheet.{two, scalar_record, records}

mutual
  pub data Held : Type 0 where
    simple : Scalar → Held
    listed : Helds → Held
    keyed : HeldFields → Held

  pub data Helds : Type 0 where
    no-helds : Helds
    also : Held → Helds → Helds

  -- each with its key's number
  pub data HeldFields : Type 0 where
    no_fields : HeldFields
    field : ℕ → Held → HeldFields → HeldFields

-- the value that it is, by the keys' texts
unfoldable mutual
  pub named : (ℕ → Text) → Held → Value
  named key (simple x) = scalar x
  named key (listed vs) = array_of (named_all key vs)
  named key (keyed ms) = object_of (named_fields key ms)

  pub named_all : (ℕ → Text) → Helds → Values
  named_all key no-helds = no-values
  named_all key (also v vs) = val (named key v) (named_all key vs)

  pub named_fields : (ℕ → Text) → HeldFields → Members
  named_fields key no_fields = no-members
  named_fields key (field k v ms) = member (key k) (named key v) (named_fields key ms)

unfoldable pub count_helds : Helds → ℕ
count_helds no-helds = 0
count_helds (also v vs) = suc (count_helds vs)

unfoldable pub count_fields : HeldFields → ℕ
count_fields no_fields = 0
count_fields (field k v ms) = suc (count_fields ms)

-- a key's record as kept: its number stands where the text's offset is in a public one
unfoldable pub key_record : ℕ → Text → List ℕ
unfolding two
key_record k t = 8 ∷ two k ++ two (length t)

-- the records as kept, their texts from an offset on
unfoldable mutual
  unfolding scalar_record key_record two named record_size text_size

  pub kept : (ℕ → Text) → ℕ → Held → List ℕ
  kept key t (simple x) = scalar_record t x
  kept key t (listed vs) = 6 ∷ two (value_record_sizes (named_all key vs)) ++ kept_all key t vs
  kept key t (keyed ms) = 7 ∷ two (member_record_sizes (named_fields key ms)) ++ kept_fields key t ms

  pub kept_all : (ℕ → Text) → ℕ → Helds → List ℕ
  kept_all key t no-helds = []
  kept_all key t (also v vs) = kept key t v ++ kept_all key (t + text_size (named key v)) vs

  pub kept_fields : (ℕ → Text) → ℕ → HeldFields → List ℕ
  kept_fields key t no_fields = []
  kept_fields key t (field k v ms) =
      key_record k (key k) ++ kept key (t + length (key k)) v ++ kept_fields key (t + length (key k) + text_size (named key v)) ms

-- document 01's records of the same value
unfoldable pub layout : (ℕ → Text) → ℕ → Held → List ℕ
unfolding named records
layout key t v = records t (named key v)

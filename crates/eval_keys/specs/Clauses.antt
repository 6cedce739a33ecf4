-- What the code promises. No contract asks that the table holds a document: where it does not, a walk ends all the same.
use Rattle.std.specs.Prelude.{◌≡◌, ℕ, ◌+◌, ◌≤◌, ◌<◌, Bool, List, length}
use Rattle.rules.specs.Bytes.{byte_at, same}
use Rattle.doc_items.specs.Parts.{numbers}
use Rattle.eval_keys.specs.Texts.{text_of, bucket_count, bucket_of}
use Rattle.eval_keys.specs.Columns.{key_text}
use Rattle.eval_keys.specs.Numbers.{Numbered, number_of, Kept}
use Rattle.eval_keys.specs.Stores.{with_number}
pub use Rattle.eval_keys.specs.Columns.{Room}

-- an offset in a job's bytes is below this: they are fewer, and no sum of an offset and a length wraps
abbrev pub offset_bound : ℕ
offset_bound = 262144

-- a number of the table is below this
abbrev pub number_bound : ℕ
number_bound = 65536

-- an offset in a job's bytes, and a length that a number of the table may be
abbrev pub Near : ℕ → ℕ → Type 0
Near at len = (at < offset_bound) × (len < number_bound)

-- ---- texts

pub record BucketIs (X : List ℕ) (at len r : ℕ) : Type 0 where
  pub is : r ≡ bucket_of (text_of (byte_at X) at len)
  pub small : r < bucket_count

pub record SameIs (X : List ℕ) (from at len : ℕ) (r : Bool) : Type 0 where
  pub is : r ≡ same (text_of (byte_at X) from len) (text_of (byte_at X) at len)

pub record HasKeyIs (X T : List ℕ) (i at len : ℕ) (r : Bool) : Type 0 where
  pub is : r ≡ same (key_text X T i) (text_of (byte_at X) at len)

-- on a table whose items before n have their numbers: the number of the text among them, 0 if no field has it
pub record FindIs (X T : List ℕ) (at len r : ℕ) : Type 0 where
  pub is : (n : ℕ) → Numbered X T n → r ≡ number_of X T n (text_of (byte_at X) at len)
  pub small : r < number_bound

-- ---- numbers

-- zeros from an index up to another, and nothing else changes
pub record ClearIs (from end : ℕ) (T T' : List ℕ) : Type 0 where
  pub zero : (j : ℕ) → from ≤ j → j < end → numbers T' j ≡ 0
  pub kept : (j : ℕ) → (from ≤ j → j < end → ⊥) → numbers T' j ≡ numbers T j
  pub len : length T' ≡ length T

pub record AddIs (b i : ℕ) (T T' : List ℕ) : Type 0 where
  pub is : T' ≡ with_number b i T
  pub len : length T' ≡ length T

pub record NumberKeyIs (X : List ℕ) (i : ℕ) (T T' : List ℕ) : Type 0 where
  pub numbered : Numbered X T i → Numbered X T' (i + 1)
  pub kept : Kept i (i + 1) T T'
  pub len : length T' ≡ length T

-- all items have their numbers, and nothing but the three columns has changed
pub record NumberKeysIs (X : List ℕ) (items : ℕ) (T T' : List ℕ) : Type 0 where
  pub numbered : Numbered X T' (items + 1)
  pub kept : Kept 1 (items + 1) T T'
  pub len : length T' ≡ length T

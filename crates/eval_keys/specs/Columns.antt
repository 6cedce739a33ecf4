-- The columns of a job's table behind the answers of its unresolved values: one number for each item, or for each key number.
--   keys_at      of a field its key's number
--   buckets_at   of each bucket its newest key number
--   links_at     of a key number the next one of its bucket
--   firsts_at    of a key number the root's first field with it
--   nexts_at     of a field of the root the next one with its key's number
-- A key number is the index of the first item with that key text; 0, which ends every chain, is the root's index and so no key's number.
use Rattle.std.specs.Prelude.{List, Bool, ℕ, ◌+◌, ◌*◌, ◌≤◌, ltb, length}
use Rattle.rules.specs.Bytes.{Text, byte_at}
use Rattle.rules.specs.Sizes.{max_unresolved}
use Rattle.doc_items.specs.Room.{capacity, table_room}
use Rattle.doc_items.specs.Parts.{numbers}
use Rattle.eval_keys.specs.Texts.{bucket_count, text_of}

-- the answers stand behind the index of the unresolved values
abbrev pub keys_at : ℕ
keys_at = table_room + max_unresolved

abbrev pub buckets_at : ℕ
buckets_at = keys_at + capacity

abbrev pub links_at : ℕ
links_at = buckets_at + bucket_count

abbrev pub firsts_at : ℕ
firsts_at = links_at + capacity

abbrev pub nexts_at : ℕ
nexts_at = firsts_at + capacity

abbrev pub columns_end : ℕ
columns_end = nexts_at + capacity

-- the table has room for all columns
abbrev pub Room : List ℕ → Type 0
Room T = columns_end ≤ length T

-- ---- what they hold

abbrev pub key_at : List ℕ → ℕ → ℕ
key_at T i = numbers T (keys_at + i)

abbrev pub newest_at : List ℕ → ℕ → ℕ
newest_at T b = numbers T (buckets_at + b)

abbrev pub link_at : List ℕ → ℕ → ℕ
link_at T r = numbers T (links_at + r)

abbrev pub first_at : List ℕ → ℕ → ℕ
first_at T k = numbers T (firsts_at + k)

abbrev pub next_at : List ℕ → ℕ → ℕ
next_at T i = numbers T (nexts_at + i)

-- ---- the items

-- a field, or an element, whose key nothing asks: an item that is no piece
abbrev pub is_field : List ℕ → ℕ → Bool
is_field T i = ltb (numbers T (8 * i)) 16

-- the text that an item names as its key
abbrev pub key_text : List ℕ → List ℕ → ℕ → Text
key_text X T i = text_of (byte_at X) (numbers T (8 * i + 2)) (numbers T (8 * i + 3))

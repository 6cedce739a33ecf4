-- The table has the keys' texts: an item of each key's number names it.
use Rattle.std.specs.Prelude.{◌≡◌, ℕ, ◌<◌, List, length}
use Rattle.rules.specs.Bytes.{Text}
use Rattle.sheet_kept.specs.Kept.{Held, simple, listed, keyed, Helds, no-helds, also, HeldFields, no_fields, field}
use Rattle.eval_writer.specs.Model.{word_at, key_at, key_len}

pub record KeyIn (key : ℕ → Text) (T s : List ℕ) (k : ℕ) : Type 0 where
  pub small : k < 65536
  pub len : key_len T k ≡ length (key k)
  pub text : word_at s (key_at T k) (length (key k)) ≡ key k

-- of every key in a value
abbrev mutual
  pub KeysIn : (ℕ → Text) → List ℕ → List ℕ → Held → Type 0
  KeysIn key T s (simple x) = Unit {0}
  KeysIn key T s (listed vs) = AllKeysIn key T s vs
  KeysIn key T s (keyed ms) = FieldKeysIn key T s ms

  pub AllKeysIn : (ℕ → Text) → List ℕ → List ℕ → Helds → Type 0
  AllKeysIn key T s no-helds = Unit {0}
  AllKeysIn key T s (also v vs) = KeysIn key T s v × AllKeysIn key T s vs

  pub FieldKeysIn : (ℕ → Text) → List ℕ → List ℕ → HeldFields → Type 0
  FieldKeysIn key T s no_fields = Unit {0}
  FieldKeysIn key T s (field k v ms) = KeyIn key T s k × KeysIn key T s v × FieldKeysIn key T s ms

-- One law for each answer of the functions that look at a member's key.
use mathlib.Core.Path.{refl, ◌∙◌}
use mathlib.Core.List.{List}
use Prim.Native.Nat.{ℕ, ◌+◌, ◌-◌, ◌≤◌, ◌<◌}
use native.Mathlib.Omega.{arith}
use borrow.Author.Tests.{lt-ltb, le-ltb}
use Rattle.rules.specs.Sizes.{max_room}
use Rattle.sheet_records.specs.Kinds.Contracts.{PairIs}
use Rattle.doc_items.specs.Room.{capacity}
use Rattle.doc_items.specs.Writing.{ReadIs}
use Rattle.eval_keys.specs.Columns.{keys_at}
use Rattle.eval_nodes.specs.Model.{key_number, record_key, key_at}
use Rattle.eval_nodes.specs.Clauses.{RecordKeyIs, NumberIs, KeyIs}

module _ {R : List ℕ} {o : ℕ} where
  pub key-short : o < 5 → RecordKeyIs R o 0
  unfolding record_key
  key-short h = record { is = rw (lt-ltb o 5 h, record_key) refl }

  module _ (h : 5 ≤ o) where
    pub key-far : max_room < o → RecordKeyIs R o 0
    unfolding record_key
    key-far l = record { is = rw (le-ltb o 5 h, lt-ltb max_room o l, record_key) refl }

    pub key-record : {k : ℕ} → o ≤ max_room → PairIs R (o - 4) k → RecordKeyIs R o k
    unfolding record_key
    key-record l x = record { is = rw (le-ltb o 5 h, le-ltb max_room o l, x.is, record_key) refl }

pub ruleset record-keys = (key-short, key-far, key-record)

module _ {k : ℕ} where
  pub number-held : k < capacity → NumberIs k k
  unfolding key_number
  number-held h = record { is = rw (lt-ltb k capacity h, key_number) refl; small = h }

  pub number-none : capacity ≤ k → NumberIs k 0
  unfolding key_number
  number-none h = record { is = rw (le-ltb k capacity h, key_number) refl; small = omega arith }

pub ruleset numbers = (number-held, number-none)

module _ {T R : List ℕ} {c : ℕ} where
  pub key-item : {a r : ℕ} → c < capacity → ReadIs T (keys_at + c) a → NumberIs a r → KeyIs T R c r
  unfolding key_at
  key-item {a} {r} h x y = record { is = y.is ∙ rw (lt-ltb c capacity h, ← x.is, key_at) refl; small = y.small }

  pub key-of-record : {a r : ℕ} → capacity ≤ c → RecordKeyIs R (c - capacity) a → NumberIs a r → KeyIs T R c r
  unfolding key_at
  key-of-record {a} {r} h x y = record { is = y.is ∙ rw (le-ltb c capacity h, ← x.is, key_at) refl; small = y.small }

pub ruleset keys = (key-item, key-of-record)

-- What making a document ready promises.
use Rattle.std.specs.Prelude.{◌≡◌, List, [], ℕ, ◌+◌, ◌*◌, ◌≤◌, ◌<◌, length}
use Rattle.rules.specs.Sizes.{max_document, max_unresolved}
use Rattle.rules.specs.Documents.{Setting}
use Rattle.theory.specs.Numbering.{Prepared}
use Rattle.doc_items.specs.Parts.{numbers, letters}
use Rattle.doc_items.specs.Room.{capacity, text_room}
use Rattle.read_documents.specs.Clauses.{Stands}
use Rattle.eval_keys.specs.Columns.{key_text}
use Rattle.eval_state.specs.Memories.{begun_at, job_table, job_bytes}
use Rattle.eval_state.specs.State.{State}

-- the end of an item's key
abbrev pub key_end : List ℕ → ℕ → ℕ
key_end T i = numbers T (8 * i + 2) + numbers T (8 * i + 3)

-- The key of one item ends among the document's texts. Only its length may have changed, and that only where it did not.
pub record BoundIs (i : ℕ) (T T' : List ℕ) : Type 0 where
  pub ends : key_end T' i ≤ text_room
  pub same : key_end T i ≤ text_room → numbers T' (8 * i + 3) ≡ numbers T (8 * i + 3)
  pub kept : (j : ℕ) → (j ≡ 8 * i + 3 → ⊥) → numbers T' j ≡ numbers T j
  pub len : length T' ≡ length T

-- the same of the items from 1 up to n
pub record Bounded (n : ℕ) (T T' : List ℕ) : Type 0 where
  pub ends : (i : ℕ) → 1 ≤ i → i < n → key_end T' i ≤ text_room
  pub same : (i : ℕ) → key_end T i ≤ text_room → numbers T' (8 * i + 3) ≡ numbers T (8 * i + 3)
  pub kept : (j : ℕ) → ((i : ℕ) → i < n → j ≡ 8 * i + 3 → ⊥) → numbers T' j ≡ numbers T j
  pub len : length T' ≡ length T

pub record PrepareAsked (T B : List ℕ) (items : ℕ) : Type 0 where
  pub table : job_table ≤ length T
  pub bytes : job_bytes ≤ length B
  pub few : items < capacity

-- A document that was read stands as it does before the first step; X is the text part that it was read into. Nothing is begun.
pub record PrepareIs (items : ℕ) (B T T' : List ℕ) : Type 0 where
  pub is : (x : Setting) (s X : List ℕ) (n : ℕ) → Prepared x.document → length s ≤ max_document
      → ((p : ℕ) → p < text_room → letters 0 X p ≡ letters 0 B p) → Stands s T X items n x.document
      → State x (key_text B T') items T' B []
  pub unbegun : (b : ℕ) → b < max_unresolved → numbers T' (begun_at + b) ≡ 0

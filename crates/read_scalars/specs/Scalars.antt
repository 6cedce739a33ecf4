-- What reading a simple value promises.
use Rattle.std.specs.Prelude.{Result, Ok, Err, ◌≡◌, ℕ, ◌+◌, ◌-◌, ◌≤◌, ◌<◌, List, length, take}
use Rattle.std.proofs.Math.Seq.{slice}
use Rattle.rules.specs.Refusals.{Refusal, number_of, place_of, ok, refused}
use Rattle.rules.specs.Pieces.{Token, simple_at, scalar_text}
use Rattle.text_chars.specs.declared.Cursor.{Cursor}
use Rattle.text_chars.specs.declared.Refusal.{Refusal as Refused}
use Rattle.doc_items.specs.Codes.{code_of}
use Rattle.read_scalars.specs.declared.ScalarRead.{ScalarRead}

-- the places are in the text, and the buffer has room for what stands between them
pub record WrittenAsked (s : List ℕ) (from to : ℕ) (out : List ℕ) : Type 0 where
  pub forward : from ≤ to
  pub inside : to ≤ length s
  pub room : to - from ≤ length out

-- a piece outside quotes is copied as it is written
pub record WrittenIs (s : List ℕ) (at kind : ℕ) (c : Cursor) (before after : List ℕ) (r : ScalarRead) : Type 0 where
  pub is : r ≡ record { kind = kind; next = c; size = record { 0 = c.at.0 - at } }
  pub wrote : take (c.at.0 - at) after ≡ slice at c.at.0 s
  pub kept : length after ≡ length before

-- the simple piece by the rules with its text at the start of the buffer, or its refusal
abbrev pub Scalars : List ℕ → ℕ → List ℕ → Result ScalarRead Refused → Type 0
Scalars s at after (Ok v) =
    (t : Token) × (simple_at s at ≡ ok t v.next.at.0) × (v.kind ≡ code_of t.scalar) × (v.size.0 ≡ length (scalar_text t.scalar))
    × (take v.size.0 after ≡ scalar_text t.scalar) × (at < v.next.at.0) × (v.next.at.0 ≤ length s) × (v.size.0 + at ≤ v.next.at.0)
Scalars s at after (Err e) = (x : Refusal) × (simple_at s at ≡ refused x) × (e.number ≡ number_of x) × (e.place.0 ≡ place_of x)

pub record ScalarIs (s : List ℕ) (at : ℕ) (before after : List ℕ) (r : Result ScalarRead Refused) : Type 0 where
  pub is : Scalars s at after r
  pub kept : length after ≡ length before

-- What the functions promise: by the model for any bytes, and by the rules where the room holds a value.
use Rattle.std.specs.Prelude.{◌≡◌, ◌↔◌, ℕ, ◌-◌, ◌≤◌, ◌<◌, Bool, true, List, ◌++◌, length, take, drop}
use Rattle.std.proofs.lemmas.List.Edits.{sets}
use Rattle.rules.specs.Bytes.{Text}
use Rattle.rules.specs.Values.{text_size}
use Rattle.sheet_kept.specs.Kept.{Held, named, kept, layout}
use Rattle.sheet_runs.specs.Clauses.{RunIs}
use Rattle.sheet_forms.specs.Model.{code_of}
use Rattle.sheet_forms.specs.Clauses.{Lent, two_bytes}
use Rattle.sheet_layout.specs.Model.{lays, eq_at}
use Rattle.sheet_forms.specs.declared.Form.{Form}
use Rattle.sheet_forms.specs.declared.Record.{Record}

-- the room lends len bytes, and the part has room for as many
abbrev pub Asked : List ℕ → ℕ → ℕ → List ℕ → Type 0
Asked s len t part = Lent s len × (len ≤ length part) × (t ≤ two_bytes)

-- bytes set, and bytes compared, from a place on
pub record SetIs (p : ℕ) (xs b a : List ℕ) : Type 0 where
  pub is : a ≡ sets b p xs

pub record EqIs (p : ℕ) (xs s : List ℕ) (r : Bool) : Type 0 where
  pub is : r ≡ eq_at s p xs

pub record StoreIs (p : ℕ) (r : Record) (b a : List ℕ) : Type 0 where
  pub is : a ≡ sets b p (code_of r)

pub record SameIs (p : ℕ) (r : Record) (s : List ℕ) (u : Bool) : Type 0 where
  pub is : u ≡ eq_at s p (code_of r)

-- a run of records of one byte each, as they stand
pub record RunLaidIs (s : List ℕ) (len p q : ℕ) (b a : List ℕ) : Type 0 where
  pub run : RunIs s p len q
  pub is : a ≡ sets b p (take (q - p) (drop p s))

-- the first len bytes of s are a value as kept, its texts from somewhere on
pub record Holds (key : ℕ → Text) (v : Held) (s : List ℕ) (len : ℕ) : Type 0 where
  pub from : ℕ
  pub stands : take len s ≡ kept key from v
  pub few : text_size (named key v) < two_bytes
  pub short : len < two_bytes

-- a value's records in a form
abbrev pub formed : Form → (ℕ → Text) → ℕ → Held → List ℕ
formed Form.Kept key t v = kept key t v
formed Form.Public key t v = layout key t v

-- every byte of the part after laying; and where the room holds a value, it is that value's records, and the rest as it was
pub record LayIs (form : Form) (s : List ℕ) (len t : ℕ) (b a : List ℕ) : Type 0 where
  pub is : a ≡ sets b 0 (lays form len s len 0 t)
  pub laid : (key : ℕ → Text) (v : Held) → Holds key v s len → a ≡ formed form key t v ++ drop len b

pub record SameRecordsIs (s : List ℕ) (len t : ℕ) (b : List ℕ) (r : Bool) : Type 0 where
  pub is : r ≡ eq_at b 0 (lays Form.Public len s len 0 t)
  pub same : (key : ℕ → Text) (v : Held) → Holds key v s len → (r ≡ true) ↔ (take len b ≡ layout key t v)

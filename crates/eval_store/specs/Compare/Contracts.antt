-- What comparing promises: yes exactly if what resolve would lay stands there.
use Rattle.std.specs.Prelude.{◌≡◌, ◌↔◌, ℕ, ◌+◌, ◌≤◌, Bool, true, List, ◌∷◌, length, take, drop}
use Rattle.std.proofs.Math.Option.{none, some}
use Rattle.rules.specs.Bytes.{Text}
use Rattle.rules.specs.Sheet.{two, texts, entry_record}
use Rattle.sheet_kept.specs.Kept.{Held, named, layout}
use Rattle.sheet_forms.specs.Clauses.{two_bytes}
use Rattle.eval_writer.specs.Clauses.{InRoom}
use Rattle.eval_writer.specs.declared.Out.{Out}
use Rattle.eval_store.specs.Values.Contracts.{Full}

-- the value's texts stand in the text part from t on
abbrev pub TextsAt : (ℕ → Text) → Held → Out → ℕ → List ℕ → Type 0
TextsAt key v o t text = take o.text.0 (drop t text) ≡ texts (named key v)

pub record SameValueIs (room : List ℕ) (o : Out) (t : ℕ) (part text : List ℕ) (r : Bool) : Type 0 where
  pub same : (key : ℕ → Text) (v : Held) → InRoom key v room o
      → (r ≡ true) ↔ ((take o.rec.0 part ≡ layout key t v) × TextsAt key v o t text)

pub record StartIs (kind n : ℕ) (rest : List ℕ) (r : Bool) : Type 0 where
  pub same : (r ≡ true) ↔ (take 3 rest ≡ kind ∷ two n)

-- the rest is long enough for the entry, and the text part for its texts
pub record EntryAsked (room : List ℕ) (o : Out) (t : ℕ) (rest text : List ℕ) : Type 0 where
  pub full : Full room o
  pub few : t ≤ two_bytes
  pub records : 3 + o.rec.0 ≤ length rest
  pub texts : t + o.text.0 ≤ length text

pub record SameEntryIs (room : List ℕ) (o : Out) (n t : ℕ) (rest text : List ℕ) (r : Bool) : Type 0 where
  pub same : (key : ℕ → Text) (v : Held) → InRoom key v room o
      → (r ≡ true) ↔ ((take (3 + o.rec.0) rest ≡ entry_record t n (some (named key v))) × TextsAt key v o t text)

pub record SameUndefinedIs (n : ℕ) (rest : List ℕ) (r : Bool) : Type 0 where
  pub same : (t : ℕ) → (r ≡ true) ↔ (take 3 rest ≡ entry_record t n none)

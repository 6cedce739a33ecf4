-- What the functions promise, by the rules' entries and trails.
use Rattle.std.specs.Prelude.{◌≡◌, ℕ, ◌+◌, ◌≤◌, List, ◌∷◌, ◌++◌, length, drop}
use Rattle.std.proofs.Math.Option.{none, some}
use Rattle.std.proofs.lemmas.List.Edits.{sets}
use Rattle.answers.specs.Ask.{Trail}
use Rattle.rules.specs.Bytes.{Text}
use Rattle.rules.specs.Values.{Answer}
use Rattle.rules.specs.Sheet.{two, texts, entry_record, trail_size, trail_text_size, trail_records, trail_texts}
use Rattle.sheet_kept.specs.Kept.{Held, named}
use Rattle.sheet_forms.specs.Clauses.{two_bytes}
use Rattle.eval_writer.specs.Clauses.{InRoom}
use Rattle.eval_writer.specs.declared.Out.{Out}
use Rattle.eval_store.specs.Values.Contracts.{Full}

-- ---- into the rest of the trail, before (b) and after (a)

pub record StartIs (kind n : ℕ) (b a : List ℕ) : Type 0 where
  pub is : a ≡ kind ∷ two n ++ drop 3 b

-- the rest has room for the entry, and the text part for its texts
pub record EntryAsked (room : List ℕ) (o : Out) (t : ℕ) (rest text : List ℕ) : Type 0 where
  pub full : Full room o
  pub few : t ≤ two_bytes
  pub records : 3 + o.rec.0 ≤ length rest
  pub texts : t + o.text.0 ≤ length text

pub record EntryIs (room : List ℕ) (o : Out) (n t : ℕ) (b a x y : List ℕ) : Type 0 where
  pub records : (key : ℕ → Text) (v : Held) → InRoom key v room o → a ≡ entry_record t n (some (named key v)) ++ drop (3 + o.rec.0) b
  pub texts : (key : ℕ → Text) (v : Held) → InRoom key v room o → y ≡ sets x t (texts (named key v))

-- an undefined entry has no texts: their offset plays no part
pub record UndefinedIs (n : ℕ) (b a : List ℕ) : Type 0 where
  pub is : (t : ℕ) → a ≡ entry_record t n none ++ drop 3 b

-- ---- into the trail

-- the buffers hold a trail, and behind it what is not used yet
pub record TrailIs (S : Trail Answer) (trail text rest more : List ℕ) : Type 0 where
  pub records : trail ≡ trail_records S ++ rest
  pub texts : text ≡ trail_texts S ++ more

pub record AddAsked (room : List ℕ) (o : Out) (u t : ℕ) (trail text : List ℕ) : Type 0 where
  pub full : Full room o
  pub few : t ≤ two_bytes
  pub records : u + 3 + o.rec.0 ≤ length trail
  pub texts : t + o.text.0 ≤ length text

-- one entry more; what stood before it stays, and so does what is behind it
pub record AddIs (room : List ℕ) (o : Out) (n u t : ℕ) (b a x y : List ℕ) : Type 0 where
  pub added : (key : ℕ → Text) (v : Held) → InRoom key v room o
      → (S : Trail Answer) (rest more : List ℕ) → u ≡ trail_size S → t ≡ trail_text_size S → TrailIs S b x rest more
      → TrailIs ((n, some (named key v)) ∷ S) a y (drop (3 + o.rec.0) rest) (drop o.text.0 more)

abbrev pub UndefinedAsked : ℕ → List ℕ → Type 0
UndefinedAsked u trail = u + 3 ≤ length trail

pub record AddUndefinedIs (n u : ℕ) (b a : List ℕ) : Type 0 where
  pub added : (S : Trail Answer) (x rest more : List ℕ) → u ≡ trail_size S → TrailIs S b x rest more
      → TrailIs ((n, none) ∷ S) a x (drop 3 rest) more

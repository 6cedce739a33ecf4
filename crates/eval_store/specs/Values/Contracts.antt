-- What the functions promise of a value that the room holds.
use Rattle.std.specs.Prelude.{◌≡◌, ◌⊎◌, ℕ, ◌+◌, ◌≤◌, ◌<◌, List, ◌++◌, length, drop}
use Rattle.std.proofs.lemmas.List.Edits.{sets}
use Rattle.rules.specs.Bytes.{Text}
use Rattle.rules.specs.Sizes.{max_records, max_text}
use Rattle.rules.specs.Sheet.{texts}
use Rattle.sheet_kept.specs.Kept.{Held, named, kept, layout}
use Rattle.sheet_kept.specs.Standing.{Stands}
use Rattle.sheet_forms.specs.Clauses.{two_bytes}
use Rattle.eval_writer.specs.Clauses.{Room, InRoom}
use Rattle.eval_writer.specs.declared.Out.{Out}

-- the room, and what was written there within its size
pub record Full (room : List ℕ) (o : Out) : Type 0 where
  pub whole : Room room
  pub rec : o.rec.0 ≤ max_records
  pub text : o.text.0 ≤ max_text

-- both parts have room for the value
pub record LayAsked (room : List ℕ) (o : Out) (t : ℕ) (part text : List ℕ) : Type 0 where
  pub full : Full room o
  pub few : t ≤ two_bytes
  pub records : o.rec.0 ≤ length part
  pub texts : t + o.text.0 ≤ length text

-- the part of the records and the text part, before (b, x) and after (a, y)
pub record LaidIs (room : List ℕ) (o : Out) (t : ℕ) (b a x y : List ℕ) : Type 0 where
  pub records : (key : ℕ → Text) (v : Held) → InRoom key v room o → a ≡ layout key t v ++ drop o.rec.0 b
  pub texts : (key : ℕ → Text) (v : Held) → InRoom key v room o → y ≡ sets x t (texts (named key v))

pub record KeepAsked (b room : List ℕ) (p tb t : ℕ) (o : Out) : Type 0 where
  pub full : Full room o
  pub few : t ≤ two_bytes
  pub records : p + o.rec.0 ≤ length b
  pub texts : tb + t + o.text.0 ≤ length b

-- the records at p, the texts t behind their beginning; apart from each other they stand there, and the value can be copied. Whatever the
-- room holds, no other bytes change.
pub record KeepIs (room : List ℕ) (o : Out) (p tb t : ℕ) (b a : List ℕ) : Type 0 where
  pub laid : List ℕ
  pub filled : List ℕ
  pub only : a ≡ sets (sets b p laid) (tb + t) filled
  pub bytes : (key : ℕ → Text) (v : Held) → InRoom key v room o → a ≡ sets (sets b p (kept key t v)) (tb + t) (texts (named key v))
  pub stands : (key : ℕ → Text) (v : Held) → InRoom key v room o → (p + o.rec.0 ≤ tb + t) ⊎ (tb + t + o.text.0 ≤ p)
      → t + o.text.0 < two_bytes → Stands a tb (kept key t v) (texts (named key v)) p t

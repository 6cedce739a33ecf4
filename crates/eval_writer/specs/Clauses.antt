-- What the functions promise, on the two halves of the room: by the model for any bytes, and of a value.
use Rattle.std.specs.Prelude.{◌≡◌, ℕ, ◌+◌, ◌≤◌, ◌<◌, List, [], ◌∷◌, ◌++◌, length, take, drop}
use Rattle.std.proofs.lemmas.List.Edits.{sets}
use Rattle.rules.specs.Bytes.{Text}
use Rattle.rules.specs.Sizes.{max_records, max_text}
use Rattle.rules.specs.Values.{text_size}
use Rattle.rules.specs.Sheet.{two, texts}
use Rattle.sheet_kept.specs.Kept.{Held, named, kept}
use Rattle.sheet_kept.specs.InTurn.{Word, extent, flat, words_of}
use Rattle.eval_writer.specs.Model.{word_at, whole, puts, key_at, key_len}
use Rattle.eval_writer.specs.declared.Out.{Out}

-- records, and behind them texts
abbrev pub Room : List ℕ → Type 0
Room o = length o ≡ max_records + max_text

abbrev pub records_in : List ℕ → List ℕ
records_in o = take max_records o

abbrev pub texts_in : List ℕ → List ℕ
texts_in o = drop max_records o

-- a length has two bytes
abbrev pub longest_text : ℕ
longest_text = 65535

-- Counters go on past the room, by less than 2^17 for each record: from up to 2^40 they may still be added to. A place a little further is
-- close enough for one byte more.
abbrev pub Near : ℕ → Type 0
Near n = n ≤ 1099511627776

abbrev pub Close : ℕ → Type 0
Close n = n ≤ 4611686018427387904

abbrev pub NearOut : Out → Type 0
NearOut o = Near o.rec.0 × Near o.text.0

-- bytes of a record; those past the room for records are left out
pub record Puts (at : ℕ) (xs b a : List ℕ) : Type 0 where
  pub records : records_in a ≡ sets (records_in b) at xs
  pub texts : texts_in a ≡ texts_in b

pub record FilledIs (to : ℕ) (from : List ℕ) (at n : ℕ) (b a : List ℕ) : Type 0 where
  pub is : a ≡ sets b to (take n (drop at from))

pub record PutsText (to n : ℕ) (x b a : List ℕ) : Type 0 where
  pub records : records_in a ≡ records_in b
  pub texts : texts_in a ≡ whole (texts_in b) to (n, x)

-- what was written from o on to r: bytes of records, and texts
pub record Wrote (xs : List ℕ) (ws : List Word) (o r : Out) (b a : List ℕ) : Type 0 where
  pub records : records_in a ≡ sets (records_in b) o.rec.0 xs
  pub texts : texts_in a ≡ puts (texts_in b) o.text.0 ws
  pub rec : r.rec.0 ≡ o.rec.0 + length xs
  pub text : r.text.0 ≡ o.text.0 + extent ws

pub record KeyWrote (table bytes : List ℕ) (k : ℕ) (o r : Out) (b a : List ℕ) : Type 0 where
  pub is : Wrote (8 ∷ two k ++ two (key_len table k)) ((key_len table k, word_at bytes (key_at table k) (key_len table k)) ∷ []) o r b a
  pub small : key_len table k ≤ longest_text

-- ---- values

-- v was written from o on to r
pub record Written (key : ℕ → Text) (v : Held) (o r : Out) (b a : List ℕ) : Type 0 where
  pub is : Wrote (kept key o.text.0 v) (words_of (flat key v)) o r b a

-- the room holds v up to o, and nothing of it was left out
pub record InRoom (key : ℕ → Text) (v : Held) (room : List ℕ) (o : Out) : Type 0 where
  pub records : take o.rec.0 room ≡ kept key 0 v
  pub texts : take o.text.0 (texts_in room) ≡ texts (named key v)
  pub few : text_size (named key v) < 65536

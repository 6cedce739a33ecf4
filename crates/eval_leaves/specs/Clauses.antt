-- What the functions promise.
use Rattle.std.specs.Prelude.{◌≡◌, ℕ, ◌+◌, ◌*◌, ◌%◌, ◌≤◌, List, length, get_or}
use Rattle.answers.specs.Ask.{value}
use Rattle.std.proofs.Math.Option.{some}
use Rattle.rules.specs.Bytes.{Text}
use Rattle.rules.specs.Sizes.{max_nesting, max_room}
use Rattle.rules.specs.Tree.{Scalar}
use Rattle.rules.specs.Values.{scalar, nesting_of}
use Rattle.rules.specs.Sheet.{texts}
use Rattle.rules.specs.Pieces.{scalar_text}
use Rattle.doc_items.specs.Codes.{code_of}
use Rattle.sheet_kept.specs.Kept.{Held, simple, named, kept}
use Rattle.sheet_kept.specs.Standing.{Stands}
use Rattle.eval_writer.specs.Model.{word_at}
use Rattle.eval_writer.specs.Clauses.{Room, Written, KeyWrote}
use Rattle.eval_writer.specs.Keys.{KeysIn}
use Rattle.eval_writer.specs.declared.Out.{Out}
use Rattle.eval_writer.specs.declared.Source.{Source}
use Rattle.eval_memory.specs.Keys.{KeyNumber, EachKey}
use Rattle.eval_writer.specs.Copies.Contracts.{most_bytes}
use Rattle.eval_results.specs.Extents.Contracts.{NotPast, ClipOutIs}
use Rattle.eval_results.specs.Values.Contracts.{WorkedWithin}
use Rattle.eval_results.specs.Values.Comes.{Comes}
use Rattle.eval_results.specs.declared.values.Worked.{Worked}

-- an item, a member or a piece, holds a simple value
pub record HoldsSimple (T B : List ℕ) (i : ℕ) (x : Scalar) : Type 0 where
  pub kind : get_or T (8 * i) 0 % 16 ≡ code_of x
  pub len : get_or T (8 * i + 5) 0 ≡ length (scalar_text x)
  pub text : word_at B (get_or T (8 * i + 4) 0) (get_or T (8 * i + 5) 0) ≡ scalar_text x

pub record SimpleIs (T B : List ℕ) (i : ℕ) (o r : Out) (b a : List ℕ) : Type 0 where
  pub is : (key : ℕ → Text) (x : Scalar) → HoldsSimple T B i x → Written key (simple x) o r b a

pub record SimpleValueIs (T B : List ℕ) (i : ℕ) (o : Out) (r : Worked) (b a : List ℕ) : Type 0 where
  pub is : (key : ℕ → Text) (n : ℕ) (x : Scalar) → HoldsSimple T B i x → Comes key (KeyNumber T n) (value (some (scalar x))) o r b a
  pub within : WorkedWithin r

-- the source's records have their room in the bytes
pub record FinishedAsked (B : List ℕ) (src : Source) (o : Out) (b : List ℕ) : Type 0 where
  pub room : Room b
  pub bytes : length B ≤ most_bytes
  pub records : src.rec.0 + max_room ≤ length B
  pub texts : src.text.0 ≤ most_bytes
  pub start : NotPast o

pub record FinishedIs (T B : List ℕ) (src : Source) (at : ℕ) (o : Out) (r : Worked) (b a : List ℕ) : Type 0 where
  pub is : (key : ℕ → Text) (n : ℕ) (v : Held) (u : ℕ) → at ≤ max_room → nesting_of (named key v) ≤ max_nesting → EachKey (KeyNumber T n) v → KeysIn key T B v
      → Stands B src.text.0 (kept key u v) (texts (named key v)) (src.rec.0 + at) u → Comes key (KeyNumber T n) (value (some (named key v))) o r b a
  pub within : WorkedWithin r

pub record KeyBeforeIs (T B : List ℕ) (k : ℕ) (o r : Out) (b a : List ℕ) : Type 0 where
  pub end : Out
  pub wrote : KeyWrote T B k o end b a
  pub clipped : ClipOutIs end r

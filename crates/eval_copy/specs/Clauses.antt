-- What the functions promise: by the model for any bytes, and of a value that stands there.
use Rattle.std.specs.Prelude.{◌≡◌, ℕ, ◌+◌, ◌≤◌, Bool, List, length}
use Rattle.rules.specs.Bytes.{Text}
use Rattle.rules.specs.Sizes.{max_nesting}
use Rattle.rules.specs.Values.{nesting_of}
use Rattle.rules.specs.Sheet.{texts}
use Rattle.sheet_kept.specs.Kept.{Held, named, kept}
use Rattle.sheet_kept.specs.Standing.{Stands}
use Rattle.eval_writer.specs.Clauses.{Room, Written}
use Rattle.eval_writer.specs.Keys.{KeysIn}
use Rattle.eval_writer.specs.declared.Out.{Out}
use Rattle.eval_writer.specs.declared.Source.{Source}
use Rattle.eval_writer.specs.Copies.Contracts.{most_bytes, farthest, CopiedIs}
use Rattle.eval_writer.specs.declared.copies.Copied.{Copied}
use Rattle.eval_copy.specs.Model.{copy_m, copy_ms, copy_h, copy_v}

-- values are nested less
abbrev pub most_levels : ℕ
most_levels = 65536

pub record ValueIs (n : ℕ) (T s : List ℕ) (tb p : ℕ) (o : Out) (r : Copied) (b a : List ℕ) : Type 0 where
  pub is : CopiedIs s 10 (copy_v n T s tb p o.text.0) o r b a
  pub low : r.deep ≤ n

pub record HeldIs (n : ℕ) (T s : List ℕ) (tb k p : ℕ) (o : Out) (r : Copied) (b a : List ℕ) : Type 0 where
  pub is : CopiedIs s 10 (copy_h n T s tb k p o.text.0) o r b a
  pub low : r.deep ≤ n

pub record MembersIs (n : ℕ) (T s : List ℕ) (tb : ℕ) (keyed : Bool) (count : ℕ) (c r : Copied) (b a : List ℕ) : Type 0 where
  pub is : CopiedIs s 10 (copy_ms (λ q u. copy_v n T s tb q u) T s keyed count c.next.0 c.out.text.0) c.out r b a
  pub low : r.deep ≤ n

pub record MemberIs (n : ℕ) (T s : List ℕ) (tb : ℕ) (keyed : Bool) (c r : Copied) (b a : List ℕ) : Type 0 where
  pub is : CopiedIs s 10 (copy_m (λ q u. copy_v n T s tb q u) T s keyed c.next.0 c.out.text.0) c.out r b a
  pub low : r.deep ≤ n

pub record DeeperIs (m r : Copied) : Type 0 where
  pub next : r.next.0 ≡ m.next.0
  pub out : r.out ≡ m.out
  pub deep : r.deep ≡ m.deep + 1

pub record CopyAsked (s : List ℕ) (src : Source) (at : ℕ) (o : Out) (b : List ℕ) : Type 0 where
  pub room : Room b
  pub bytes : length s ≤ most_bytes
  pub record-at : src.rec.0 + at ≤ length s
  pub texts : src.text.0 ≤ most_bytes
  pub rec : o.rec.0 ≤ farthest
  pub text : o.text.0 ≤ farthest

-- where the bytes hold a value as kept, and the table its keys, that value is written, and its depth is known
pub record CopyIs (T s : List ℕ) (tb p : ℕ) (o : Out) (r : Copied) (b a : List ℕ) : Type 0 where
  pub copied : (key : ℕ → Text) (v : Held) (u : ℕ) → nesting_of (named key v) ≤ max_nesting → KeysIn key T s v
      → Stands s tb (kept key u v) (texts (named key v)) p u → Written key v o r.out b a × (r.deep ≡ nesting_of (named key v))

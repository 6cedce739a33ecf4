-- What the functions promise, by the model.
use Rattle.std.specs.Prelude.{◌≡◌, ℕ, ◌+◌, ◌*◌, ◌≤◌, List, ◌∷◌, length}
use Rattle.rules.specs.Sheet.{two}
use Rattle.sheet_forms.specs.Model.{pair_c, members_c}
use Rattle.eval_writer.specs.Clauses.{Puts, Wrote}
use Rattle.eval_writer.specs.declared.Out.{Out}
use Rattle.eval_writer.specs.Copies.Model.{Act}
use Rattle.eval_writer.specs.declared.copies.Copied.{Copied}

-- A job's bytes are fewer, and counters begin lower: these leave room, so that no sum wraps.
abbrev pub most_bytes : ℕ
most_bytes = 1048576

abbrev pub farthest : ℕ
farthest = 4294967296

-- counters grow no quicker than places in the bytes
pub record Span (s : List ℕ) (p : ℕ) (o : Out) : Type 0 where
  pub rec : o.rec.0 ≤ farthest + p
  pub text : o.text.0 ≤ farthest + 65535 * p
  pub bytes : length s ≤ most_bytes

-- what was copied; x: how far past the bytes' end the next place may be
pub record CopiedIs (s : List ℕ) (x : ℕ) (m : Act) (o : Out) (r : Copied) (b a : List ℕ) : Type 0 where
  pub is : Wrote m.xs m.ws o r.out b a
  pub next : r.next.0 ≡ m.next
  pub deep : r.deep ≡ m.deep
  pub span : Span s r.next.0 r.out
  pub far : r.next.0 ≤ length s + x

-- the record of an array or object as it is, and how many members it has
pub record HeadIs (s : List ℕ) (k p rec r : ℕ) (b a : List ℕ) : Type 0 where
  pub count : r ≡ members_c s p
  pub head : Puts rec (k ∷ two (pair_c s (p + 1))) b a

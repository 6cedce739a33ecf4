-- What the functions promise.
use Rattle.std.specs.Prelude.{◌≡◌, ℕ, ◌+◌, ◌≤◌, ◌<◌, max, Bool, false, List, [], length, take, drop}
use Rattle.sheet_runs.specs.Clauses.{AllPlain}
use Rattle.eval_writer.specs.Clauses.{Wrote}
use Rattle.eval_writer.specs.Copies.Contracts.{Span}
use Rattle.eval_writer.specs.declared.copies.Copied.{Copied}

-- a run lies in the bytes, if there is one
pub record RunIn (s : List ℕ) (p n : ℕ) : Type 0 where
  pub inside : 0 < n → p + n ≤ length s

-- no more than are left, and only of members without keys
pub record RunOf (s : List ℕ) (keyed : Bool) (p left n : ℕ) : Type 0 where
  pub few : n ≤ left
  pub bare : 0 < n → keyed ≡ false
  pub lies : RunIn s p n
  pub plain : AllPlain s p (p + n)

-- a run behind what was copied, and before that something so deep
pub record RunCopiedIs (s : List ℕ) (n before : ℕ) (c r : Copied) (b a : List ℕ) : Type 0 where
  pub is : Wrote (take n (drop c.next.0 s)) [] c.out r.out b a
  pub next : r.next.0 ≡ c.next.0 + n
  pub deep : r.deep ≡ max before c.deep
  pub span : Span s r.next.0 r.out
  pub far : r.next.0 ≤ length s + 10

-- as many as there are
pub record RunDone (s : List ℕ) (keyed : Bool) (left before : ℕ) (c r : Copied) (b a : List ℕ) : Type 0 where
  pub n : ℕ
  pub of : RunOf s keyed c.next.0 left n
  pub is : RunCopiedIs s n before c r b a
  pub low : c.next.0 ≤ r.next.0

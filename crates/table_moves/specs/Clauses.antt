-- What the functions promise.
use Rattle.std.specs.Prelude.{◌≡◌, ℕ, ◌+◌, List, ◌++◌, length, take, drop}
use Rattle.std.proofs.Math.Seq.{slice}

-- so many bytes stand at another place as they stood before; all others are as they were
pub record Moved (from to n : ℕ) (before after : List ℕ) : Type 0 where
  pub is : after ≡ take to before ++ (slice from (from + n) before ++ drop (to + n) before)
  pub kept : length after ≡ length before

-- What the functions that test UTF-8 promise: blocks of ASCII, and how far a text is well-formed.
use Rattle.std.specs.Prelude.{◌≡◌, ℕ, ◌+◌, ◌≤◌, ◌<◌, Bool, true, List, ltb, length}
use Rattle.rules.specs.Bytes.{byte_at, skip}
use Rattle.rules.specs.Utf8.{sequence_at}

abbrev pub block_size : ℕ
block_size = 64

-- so many bytes from a place on are ASCII
abbrev pub AllAscii : (s : List ℕ) (at n : ℕ) → Type 0
AllAscii s at n = (i : ℕ) → i < n → byte_at s (at + i) < 128

pub record BlockIs (s : List ℕ) (at : ℕ) (r : Bool) : Type 0 where
  pub fits : r ≡ true → at + block_size ≤ length s
  pub all : r ≡ true → AllAscii s at block_size

-- the place after the well-formed sequences from a place on
unfoldable pub formed_from : List ℕ → ℕ → ℕ
unfolding skip sequence_at
formed_from s at = skip (λ p. ltb 0 (sequence_at s p)) (λ p. p + sequence_at s p) (length s) at

-- so many bytes from a place on are well-formed, whole sequences of them; 0: there the text is ill-formed, or ends
pub record WellFormedIs (s : List ℕ) (at r : ℕ) : Type 0 where
  pub none : r ≡ 0 → sequence_at s at ≡ 0
  pub some : (r ≡ 0 → ⊥) → at < length s → formed_from s at ≡ formed_from s (at + r)
  pub near : at < length s → at + r ≤ length s + 4
  pub small : r ≤ block_size

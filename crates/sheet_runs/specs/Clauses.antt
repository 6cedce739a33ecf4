-- What the functions promise.
use Rattle.std.specs.Prelude.{◌≡◌, ℕ, ◌+◌, ◌≤◌, ◌<◌, Bool, true, List, length, get_or}

abbrev pub block_size : ℕ
block_size = 64

-- each byte from one place up to another is a record: null, false, true, or 0, which is no value's
abbrev pub AllPlain : List ℕ → ℕ → ℕ → Type 0
AllPlain s p q = (i : ℕ) → p ≤ i → i < q → get_or s i 0 < 4

pub record BlockIs (s : List ℕ) (at end : ℕ) (r : Bool) : Type 0 where
  pub fits : r ≡ true → at + block_size ≤ end
  pub all : r ≡ true → AllPlain s at (at + block_size)

-- a run does not go past the end, nor past the bytes
pub record RunIs (s : List ℕ) (p end q : ℕ) : Type 0 where
  pub low : p ≤ q
  pub high : p < q → q ≤ end
  pub inside : p < q → q ≤ length s
  pub plain : AllPlain s p q

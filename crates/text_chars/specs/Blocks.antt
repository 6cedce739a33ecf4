-- What a block of bytes that all pass a test promises.
use Rattle.std.specs.Prelude.{◌≡◌, ℕ, ◌+◌, ◌≤◌, ◌<◌, Bool, true, List, length, get_or}

-- the test as far as a call of it says
pub record BlockPasses (n : ℕ) (Says : ℕ → Bool → Type 0) (s : List ℕ) (at : ℕ) (r : Bool) : Type 0 where
  pub fits : r ≡ true → at + n ≤ length s
  pub all : r ≡ true → (i : ℕ) → i < n → Says (get_or s (at + i) 0) true

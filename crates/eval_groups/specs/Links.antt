-- Members grouped by key, over entries from base to top: ks gives the key number of each, ln its link, and wh of each key number where its
-- first entry is. "The first member of a key links to the last, each other to the one before it."
use Rattle.std.specs.Prelude.{◌≡◌, ℕ, ◌+◌, ◌≤◌, ◌<◌}

-- no entry from i to before e has key k
abbrev pub None : (ℕ → ℕ) → ℕ → ℕ → ℕ → Type 0
None ks k i e = (j : ℕ) → i ≤ j → j < e → ks j ≡ k → ⊥

pub data Link (ks ln : ℕ → ℕ) (base top p : ℕ) : Type 0 where
  first : None ks (ks p) base p → p ≤ ln p → ln p < top → ks (ln p) ≡ ks p → None ks (ks p) (ln p + 1) top → Link ks ln base top p
  later : base ≤ ln p → ln p < p → ks (ln p) ≡ ks p → None ks (ks p) (ln p + 1) p → Link ks ln base top p

pub record Links (ks ln : ℕ → ℕ) (base top : ℕ) : Type 0 where
  pub at : (p : ℕ) → base ≤ p → p < top → Link ks ln base top p

-- f is the first entry with the key of p
pub record First (ks : ℕ → ℕ) (base p f : ℕ) : Type 0 where
  pub low : base ≤ f
  pub upto : f ≤ p
  pub same : ks f ≡ ks p
  pub none : None ks (ks p) base f

-- It is said for each entry, so that nothing is said of what a place holds from before.
pub record Wheres (ks wh : ℕ → ℕ) (base top : ℕ) : Type 0 where
  pub at : (p : ℕ) → base ≤ p → p < top → First ks base p (wh (ks p))

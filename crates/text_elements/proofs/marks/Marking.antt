-- The laws of marking an element.
use mathlib.Core.Path.{◌≡◌}
use mathlib.Core.List.{List}
use Prim.Native.Nat.{ℕ, ◌+◌, ◌*◌, ◌≤◌, ◌<◌}
use lib.ListN.{set}
use borrow.Author.Tests.{lt-ltb, le-ltb}
use Rattle.text_elements.specs.Marks.Marks.{mark_c}

module _ (n end place : ℕ) (marks : List ℕ) where
  pub mark-kept : n < 17 → set (set marks (2 * n) end) (2 * n + 1) place ≡ mark_c n end place marks
  unfolding mark_c
  mark-kept h = rw (lt-ltb n 17 h)

  pub mark-past : 17 ≤ n → marks ≡ mark_c n end place marks
  unfolding mark_c
  mark-past h = rw (le-ltb n 17 h)

pub ruleset marks-kept = (mark-kept, mark-past)

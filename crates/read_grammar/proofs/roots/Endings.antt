-- The gap behind the root, and the end of the document or a byte that may not stand there.
use Rattle.std.specs.Prelude.{Ok, Err}
use mathlib.Core.Path.{◌≡◌, refl, ap, ◌∙◌}
use mathlib.Core.Bool.{true, false}
use mathlib.Core.List.{List}
use Prim.Native.Nat.{ℕ, ◌≤◌, ◌<◌}
use native.Mathlib.Omega.{arith}
use lib.Dec.{ltb}
use lib.ListN.{length}
use borrow.Author.Tests.{lt-ltb, le-ltb}
use Rattle.rules.specs.Refusals.{placed, Read, got, refused, read_then}
use Rattle.rules.specs.Characters.{after_gap}
use Rattle.rules.specs.Tree.{Root}
use Rattle.rules.specs.Reading.{root_at, read_root}
use Rattle.text_chars.specs.Cursor.{refusal}
use Rattle.text_scan.specs.Scan.{GapIs}
use Rattle.text_scan.specs.declared.Gap.{Gap}
use Rattle.read_grammar.specs.Roots.Contracts.{EndingIs}

module _ (s : List ℕ) (nesting items : ℕ) where
  abbrev ended : Root → ℕ → ℕ → Read Root
  ended r end n = elim (ltb (after_gap s end) (length s)) [ true ↦ refused (placed 3 (after_gap s end)) | false ↦ got r (after_gap s end) n ]

  by_end : read_root s nesting items ≡ read_then (root_at s nesting (after_gap s 0) items) ended
  unfolding read_root
  by_end = refl

  module _ (r : Root) (end n : ℕ) (e : root_at s nesting (after_gap s 0) items ≡ got r end n) where
    here : read_root s nesting items ≡ ended r end n
    here = by_end ∙ ap (λ (m : Read Root). read_then m ended) e

    root-trailing : after_gap s end < length s → read_root s nesting items ≡ refused (placed 3 (after_gap s end))
    root-trailing l = here ∙ rw (lt-ltb (after_gap s end) (length s) l, ended) refl

    root-got : length s ≤ after_gap s end → read_root s nesting items ≡ got r (after_gap s end) n
    root-got l = here ∙ rw (le-ltb (after_gap s end) (length s) l, ended) refl

module _ {s : List ℕ} {at : ℕ} {g : Gap} (h : GapIs s at g) where
  pub ends-trailing : g.next.at.0 < length s → EndingIs s at (Err (refusal 3 g.next.at))
  ends-trailing l =
      let i : g.next.at.0 ≡ after_gap s at = h.is in
      record { is = (refl, λ nesting items root n e. rw i (root-trailing s nesting items root at n e (omega arith))) }

  pub ends-here : length s ≤ g.next.at.0 → EndingIs s at (Ok g.next)
  ends-here l =
      let i : g.next.at.0 ≡ after_gap s at = h.is in
      record { is = λ nesting items root n e. rw i (root-got s nesting items root at n e (omega arith)) }

pub ruleset endings = (ends-trailing, ends-here)

-- What one mark more changes.
use Rattle.std.specs.Prelude.{◌≡◌, refl, Bool, true, false, cond, List, ℕ, ◌+◌, ◌*◌, ◌≤◌, ◌<◌, ltb, length, get_or, set}
use Rattle.std.proofs.Common.{sym, ◌∙◌, arith, length-set, get_or-set_same, get_or-set_other, lt-ltb}
use Rattle.text_elements.specs.Marks.Marks.{marked, marks_room, mark_c, end_of, place_of}

pub mark-length : (n end place : ℕ) (marks : List ℕ) → length (mark_c n end place marks) ≡ length marks
unfolding mark_c
mark-length n end place marks = go (ltb n marked)
  where
    go : (b : Bool) → length (cond b (set (set marks (2 * n) end) (2 * n + 1) place) marks) ≡ length marks
    go true = simp length-set
    go false = refl

pub mark-other : (n end place : ℕ) (marks : List ℕ) (j : ℕ) → j < 2 * n → get_or marks j 0 ≡ get_or (mark_c n end place marks) j 0
unfolding mark_c
mark-other n end place marks j h = go (ltb n marked)
  where
    go : (b : Bool) → get_or marks j 0 ≡ get_or (cond b (set (set marks (2 * n) end) (2 * n + 1) place) marks) j 0
    go true =
        sym (get_or-set_other (set marks (2 * n) end) (2 * n + 1) j place 0 (λ z. omega arith)
        ∙ get_or-set_other marks (2 * n) j end 0 (λ z. omega arith))
    go false = refl

pub mark-own : (n end place : ℕ) (marks : List ℕ) → marks_room ≤ length marks → n < marked
    → (end_of (mark_c n end place marks) n ≡ end) × (place_of (mark_c n end place marks) n ≡ place)
unfolding mark_c
mark-own n end place marks l h = (
  rw (lt-ltb n marked h)
      (get_or-set_other (set marks (2 * n) end) (2 * n + 1) (2 * n) place 0 (λ z. omega arith) ∙ get_or-set_same marks (2 * n) end 0 (omega arith)),
  rw (lt-ltb n marked h) (get_or-set_same (set marks (2 * n) end) (2 * n + 1) place 0 (rw (length-set marks (2 * n) end) (omega arith))),
)

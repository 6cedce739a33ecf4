-- What the stores of an entry leave.
use Rattle.std.specs.Prelude.{◌≡◌, List, ℕ, ◌+◌, ◌*◌, ◌<◌, length, get_or, set}
use Rattle.std.proofs.Common.{◌∙◌, arith}
use Rattle.std.proofs.Math.ListN.{length-set}
use Rattle.std.proofs.Math.Seq.{get_or-set_same, get_or-set_other}
use Rattle.doc_items.specs.Room.{capacity}
use Rattle.eval_stack.specs.Model.{stack_at, entries, code_at, link_at, Work}
use Rattle.eval_groups.specs.Model.{put_entry_c, join_group_c, begin_group_c}

module _ (w : List ℕ) (p c l : ℕ) where
  pub entry_length : length (put_entry_c p c l w) ≡ length w
  unfolding put_entry_c
  entry_length = length-set (set w (stack_at + 2 * p) c) (stack_at + 2 * p + 1) l ∙ length-set w (stack_at + 2 * p) c

  entry_other : (i : ℕ) → (i ≡ stack_at + 2 * p → ⊥) → (i ≡ stack_at + 2 * p + 1 → ⊥) → get_or (put_entry_c p c l w) i 0 ≡ get_or w i 0
  unfolding put_entry_c
  entry_other i x y = get_or-set_other (set w (stack_at + 2 * p) c) (stack_at + 2 * p + 1) i l 0 y ∙ get_or-set_other w (stack_at + 2 * p) i c 0 x

  module _ (room : Work w) (high : p < entries) where
    entry-code : code_at (put_entry_c p c l w) p ≡ c
    unfolding put_entry_c
    entry-code =
        get_or-set_other (set w (stack_at + 2 * p) c) (stack_at + 2 * p + 1) (stack_at + 2 * p) l 0 (λ e. omega arith)
        ∙ get_or-set_same w (stack_at + 2 * p) c 0 (omega arith)

    entry-link : link_at (put_entry_c p c l w) p ≡ l
    unfolding put_entry_c
    entry-link = get_or-set_same (set w (stack_at + 2 * p) c) (stack_at + 2 * p + 1) l 0 (omega (arith, length-set w (stack_at + 2 * p) c))

-- a member more, of the key whose first member is p
module _ (w : List ℕ) (p top c : ℕ) where
  pub join-length : length (join_group_c p top c w) ≡ length w
  unfolding join_group_c
  join-length = length-set (put_entry_c top c (link_at w p) w) (stack_at + 2 * p + 1) top ∙ entry_length w top c (link_at w p)

  pub join-other : (i : ℕ) → (i ≡ stack_at + 2 * top → ⊥) → (i ≡ stack_at + 2 * top + 1 → ⊥) → (i ≡ stack_at + 2 * p + 1 → ⊥)
      → get_or (join_group_c p top c w) i 0 ≡ get_or w i 0
  unfolding join_group_c
  join-other i x y z = get_or-set_other (put_entry_c top c (link_at w p) w) (stack_at + 2 * p + 1) i top 0 z ∙ entry_other w top c (link_at w p) i x y

  module _ (room : Work w) (low : p < top) (high : top < entries) where
    pub join-code : code_at (join_group_c p top c w) top ≡ c
    unfolding join_group_c
    join-code =
        get_or-set_other (put_entry_c top c (link_at w p) w) (stack_at + 2 * p + 1) (stack_at + 2 * top) top 0 (λ e. omega arith)
        ∙ entry-code w top c (link_at w p) room high

    pub join-link : link_at (join_group_c p top c w) top ≡ link_at w p
    unfolding join_group_c
    join-link =
        get_or-set_other (put_entry_c top c (link_at w p) w) (stack_at + 2 * p + 1) (stack_at + 2 * top + 1) top 0 (λ e. omega arith)
        ∙ entry-link w top c (link_at w p) room high

    pub join_first : link_at (join_group_c p top c w) p ≡ top
    unfolding join_group_c
    join_first =
        get_or-set_same (put_entry_c top c (link_at w p) w) (stack_at + 2 * p + 1) top 0 (omega (arith, entry_length w top c (link_at w p)))

-- the first member of a key
module _ (w : List ℕ) (k top c : ℕ) where
  pub begin-length : length (begin_group_c k top c w) ≡ length w
  unfolding begin_group_c
  begin-length = length-set (put_entry_c top c top w) k top ∙ entry_length w top c top

  pub begin-other : (i : ℕ) → (i ≡ stack_at + 2 * top → ⊥) → (i ≡ stack_at + 2 * top + 1 → ⊥) → (i ≡ k → ⊥)
      → get_or (begin_group_c k top c w) i 0 ≡ get_or w i 0
  unfolding begin_group_c
  begin-other i x y z = get_or-set_other (put_entry_c top c top w) k i top 0 z ∙ entry_other w top c top i x y

  module _ (room : Work w) (low : k < capacity) (high : top < entries) where
    pub begin-code : code_at (begin_group_c k top c w) top ≡ c
    unfolding begin_group_c
    begin-code = get_or-set_other (put_entry_c top c top w) k (stack_at + 2 * top) top 0 (λ e. omega arith) ∙ entry-code w top c top room high

    pub begin-link : link_at (begin_group_c k top c w) top ≡ top
    unfolding begin_group_c
    begin-link = get_or-set_other (put_entry_c top c top w) k (stack_at + 2 * top + 1) top 0 (λ e. omega arith) ∙ entry-link w top c top room high

    pub begin-where : get_or (begin_group_c k top c w) k 0 ≡ top
    unfolding begin_group_c
    begin-where = get_or-set_same (put_entry_c top c top w) k top 0 (omega (arith, entry_length w top c top))

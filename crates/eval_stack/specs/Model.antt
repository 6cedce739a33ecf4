-- The slice in which layers are walked.
--
--      0              STACK = CAPACITY                                                          WORK
--      +--------------+----------------+----------------+--- .. ---+------------------------------+
--      | where: for   | entry 0:       | entry 1:       | entries  | free                         |
--      | each key     | layer, link    | layer, link    |          |                              |
--      | number       |                |                |          |                              |
--      +--------------+----------------+----------------+--- .. ---+------------------------------+
--      2,049 numbers    two numbers an entry, 32,768 entries
--
-- The layers of a path stand one above the other, the last one written on top; those one key deeper stand above them. A walk writes
-- layers alone: what lies below it, the links and the numbers before the stack stay.
use Rattle.std.specs.Prelude.{◌≡◌, refl, ℕ, zero, suc, ◌+◌, ◌*◌, ◌≤◌, cond, List, [], ◌∷◌, ltb, length, get_or, set}
use Rattle.std.proofs.Common.{ap}
use Rattle.doc_items.specs.Room.{capacity}

-- where the stack begins
abbrev pub stack_at : ℕ
stack_at = capacity

-- how many entries it has
abbrev pub entries : ℕ
entries = 32768

-- how many numbers there are in all
abbrev pub work_room : ℕ
work_room = stack_at + 2 * entries

abbrev pub Work : List ℕ → Type 0
Work w = work_room ≤ length w

-- ---- what an entry holds

abbrev pub code_place : ℕ → ℕ
code_place p = stack_at + 2 * p

abbrev pub code_at : List ℕ → ℕ → ℕ
code_at w p = get_or w (code_place p) 0

abbrev pub link_at : List ℕ → ℕ → ℕ
link_at w p = get_or w (code_place p + 1) 0

-- the layers of the entries from b on, n of them, last first
abbrev pub seg : List ℕ → ℕ → ℕ → List ℕ
seg w b zero = []
seg w b (suc n) = code_at w (b + n) ∷ seg w b n

pub seg-length : (w : List ℕ) (b n : ℕ) → length (seg w b n) ≡ n
seg-length w b zero = refl
seg-length w b (suc n) = ap suc (seg-length w b n)

-- ---- a layer more, if there is room

unfoldable pub pushed : ℕ → ℕ → List ℕ → List ℕ
pushed top c w = cond (ltb top entries) (set w (code_place top) c) w

unfoldable pub push_top : ℕ → ℕ
push_top top = cond (ltb top entries) (top + 1) top

-- on the list of layers, where the rest of the stack has room for r
unfoldable pub push_c : ℕ → ℕ → List ℕ → List ℕ
push_c c r acc = cond (ltb (length acc) r) (c ∷ acc) acc

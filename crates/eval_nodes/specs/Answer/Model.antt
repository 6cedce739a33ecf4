-- The answer of an unresolved value, by the number that the table has for it: 0 none yet, 1 undefined, else the offset of its record in the
-- trail and 2 more; as a layer's number it is that offset and the capacity more.
use Rattle.std.specs.Prelude.{ℕ, ◌+◌, ◌-◌, cond, eqb}
use Rattle.doc_items.specs.Room.{capacity}
use Rattle.eval_nodes.specs.declared.answer.Answered.{Answered}

-- the table's numbers have 16 bits
abbrev pub answer_room : ℕ
answer_room = 65536

abbrev pub answered : ℕ → ℕ → Answered
answered b a = cond (eqb a 0) (Answered.Missing b) (cond (eqb a 1) Answered.Undefined (Answered.Layer (capacity + (a - 2))))

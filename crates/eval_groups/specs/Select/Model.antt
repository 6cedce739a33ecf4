-- What the walk along a group computes, on the numbers that it has: members last first, and the objects so far, the last pushed first.
use Rattle.std.specs.Prelude.{ℕ, ◌+◌, List, [], ◌∷◌, length, Some, None}
use Rattle.eval_nodes.specs.declared.answer.Answered.{Answered}
use Rattle.eval_nodes.specs.Model.{View, answered_at, view_at}
use Rattle.eval_stack.specs.Model.{push_c}
use Rattle.eval_layers.specs.Model.{of_end_c, of_other_c}
use Rattle.eval_layers.specs.declared.Taken.{Taken}
use Rattle.eval_groups.specs.declared.select.Seen.{Seen}

-- ---- what a member shows

abbrev pub view_seen : ℕ → View → Seen
view_seen d None = Seen.Other d
view_seen d (Some m) = Seen.Object d

module _ (T R : List ℕ) where
  unfoldable pub layer_seen : ℕ → Seen
  unfolding view_at
  layer_seen d = view_seen d (view_at T R d)

  abbrev pub answer_seen : Answered → Seen
  answer_seen (Answered.Layer d) = layer_seen d
  answer_seen Answered.Undefined = Seen.Undefined
  answer_seen (Answered.Missing b) = Seen.Missing b

  unfoldable pub seen_at : ℕ → Seen
  unfolding layer_seen answered_at
  seen_at c = answer_seen (answered_at T c)

-- ---- what members come to; the objects stand from base on, where there is room for r

abbrev pub take_by : ℕ → ℕ → List ℕ → (List ℕ → Taken × List ℕ) → Seen → Taken × List ℕ
take_by base r acc more Seen.Undefined = more acc
take_by base r acc more (Seen.Missing b) = (Taken.Needs b, acc)
take_by base r acc more (Seen.Other d) = (of_other_c d base (base + length acc), acc)
take_by base r acc more (Seen.Object d) = more (push_c d r acc)

unfoldable pub take_c : List ℕ → List ℕ → ℕ → ℕ → List ℕ → List ℕ → Taken × List ℕ
unfolding seen_at push_c
take_c T R base r [] acc = (of_end_c None base (base + length acc), acc)
take_c T R base r (c ∷ cs) acc = take_by base r acc (λ os. take_c T R base r cs os) (seen_at T R c)

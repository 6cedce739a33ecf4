-- One law for each answer of `answer_of`.
use mathlib.Core.Path.{◌≡◌}
use Prim.Native.Nat.{ℕ, ◌+◌, ◌-◌}
use borrow.Author.Tests.{eq-eqb, ne_eqb}
use Rattle.doc_items.specs.Room.{capacity}
use Rattle.eval_nodes.specs.Answer.Model.{answered}
use Rattle.eval_nodes.specs.declared.answer.Answered.{Answered}

module _ (b : ℕ) {a : ℕ} where
  pub answer-none : a ≡ 0 → Answered.Missing b ≡ answered b a
  answer-none e = rw (eq-eqb a 0 e)

  pub answer-undefined : (a ≡ 0 → ⊥) → a ≡ 1 → Answered.Undefined ≡ answered b a
  answer-undefined i e = rw (ne_eqb a 0 i, eq-eqb a 1 e)

  pub answer-there : (a ≡ 0 → ⊥) → (a ≡ 1 → ⊥) → Answered.Layer (capacity + (a - 2)) ≡ answered b a
  answer-there i j = rw (ne_eqb a 0 i, ne_eqb a 1 j)

pub ruleset answers = (answer-none, answer-undefined, answer-there)

-- What a member shows: laws for `look_layer` and `look`, one for each return.
use Rattle.std.specs.Prelude.{Some, None}
use mathlib.Core.Path.{◌≡◌, sym, ap, ◌∙◌}
use mathlib.Core.List.{List}
use Prim.Native.Nat.{ℕ}
use Rattle.eval_nodes.specs.Model.{View}
use Rattle.eval_nodes.specs.declared.answer.Answered.{Answered}
use Rattle.eval_nodes.specs.Clauses.{AnsweredIs, ViewIs}
use Rattle.eval_nodes.specs.declared.Members.{Members}
use Rattle.eval_groups.specs.Select.Model.{view_seen, layer_seen, answer_seen, seen_at}
use Rattle.eval_groups.specs.Select.Contracts.{LayerSeenIs, SeenIs}
use Rattle.eval_groups.specs.declared.select.Seen.{Seen}

module _ {T R : List ℕ} {c : ℕ} {v : View} (h : ViewIs T R c v) where
  pub view-other : v ≡ None → LayerSeenIs T R c (Seen.Other c)
  unfolding layer_seen
  view-other e = record { is = sym (ap (view_seen c) (sym h.is ∙ e)) }

  pub view-object : {m : Members} → v ≡ Some m → LayerSeenIs T R c (Seen.Object c)
  unfolding layer_seen
  view-object e = record { is = sym (ap (view_seen c) (sym h.is ∙ e)) }

pub ruleset views = (view-other, view-object)

module _ {T : List ℕ} (R : List ℕ) {c : ℕ} {v : Answered} (h : AnsweredIs T c v) where
  pub look-layer : {d : ℕ} {r : Seen} → v ≡ Answered.Layer d → LayerSeenIs T R d r → SeenIs T R c r
  unfolding seen_at
  look-layer e l = record { is = l.is ∙ sym (ap (answer_seen T R) (sym h.is ∙ e)) }

  pub look-undefined : v ≡ Answered.Undefined → SeenIs T R c Seen.Undefined
  unfolding seen_at
  look-undefined e = record { is = sym (ap (answer_seen T R) (sym h.is ∙ e)) }

  pub look-missing : {b : ℕ} → v ≡ Answered.Missing b → SeenIs T R c (Seen.Missing b)
  unfolding seen_at
  look-missing e = record { is = sym (ap (answer_seen T R) (sym h.is ∙ e)) }

pub ruleset looks = (look-layer, look-undefined, look-missing)

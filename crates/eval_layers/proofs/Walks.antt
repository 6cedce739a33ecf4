-- A node, or a member with a key, above what is below it.
use Rattle.std.specs.Prelude.{Some}
use mathlib.Core.Path.{◌≡◌, refl, sym, ◌∙◌}
use mathlib.Core.List.{List, []}
use Prim.Native.Nat.{ℕ, ◌-◌, ◌≤◌}
use native.Mathlib.Omega.{arith}
use borrow.Author.Tests.{eq-eqb, ne_eqb}
use Rattle.eval_nodes.specs.declared.answer.Answered.{Answered}
use Rattle.eval_nodes.specs.Model.{key_at}
use Rattle.eval_nodes.specs.Clauses.{AnsweredIs, KeyIs}
use Rattle.eval_nodes.specs.Members.{layer-small}
use Rattle.eval_stack.specs.Model.{entries, Work}
use Rattle.eval_stack.specs.Clauses.{PushIs}
use Rattle.eval_stack.specs.Pushes.{seg-none, push-grows}
use Rattle.eval_layers.specs.Model.{Stuck, Walk, push_layer_c, push_named_c}
use Rattle.eval_layers.specs.Clauses.{walked, WalkedIs}
use Rattle.eval_layers.specs.declared.Walked.{Walked}

-- nothing changes
pub stays : {base : ℕ} {w : List ℕ} {r : Walked} {m : Walk} → base ≤ r.top → r.top ≤ entries → walked w base r ≡ m → WalkedIs base w w r m
stays l h e = record { is = e; same = λ i o. refl; low = l; high = h; len = refl }

-- all from base on is dropped
pub empties : {base : ℕ} {w : List ℕ} (st : Stuck) {m : Walk} → base ≤ entries → m ≡ ([], st) → WalkedIs base w w (record { top = base; stuck = st }) m
empties {base} {w} st h e = record {
  is = (λ i. (seg-none w base i, st)) ∙ sym e;
  same = λ i o. refl;
  low = omega arith;
  high = h;
  len = refl;
}

module _ {T : List ℕ} {base : ℕ} {w : List ℕ} (walk : Walked) {c : ℕ} {v : Answered} (h : AnsweredIs T c v) (low : base ≤ walk.top) (high : walk.top ≤ entries) where
  pub lay-plain : {d : ℕ} {w' : List ℕ} {t : ℕ} → v ≡ Answered.Layer d → Work w → PushIs walk.top d w w' t
      → WalkedIs base w w' (record { top = t; stuck = walk.stuck }) (push_layer_c T (entries - base) c (walked w base walk))
  unfolding push_layer_c
  lay-plain e k p =
      let g = push-grows low high k p in
      record { is = rw (push_layer_c, sym h.is ∙ e) (λ i. (g.list i, walk.stuck)); same = g.same; low = g.low; high = g.high; len = g.len }

  pub lay-undefined : v ≡ Answered.Undefined → WalkedIs base w w walk (push_layer_c T (entries - base) c (walked w base walk))
  unfolding push_layer_c
  lay-undefined e = stays low high (rw (push_layer_c, sym h.is ∙ e) refl)

  pub lay-missing : {b : ℕ} → v ≡ Answered.Missing b
      → WalkedIs base w w (record { top = base; stuck = Some b }) (push_layer_c T (entries - base) c (walked w base walk))
  unfolding push_layer_c
  lay-missing {b} e = empties (Some b) (omega arith) (rw (push_layer_c, sym h.is ∙ e) refl)

pub ruleset lays = (layer-small, lay-plain, lay-undefined, lay-missing)

module _ {T R : List ℕ} {base : ℕ} {w : List ℕ} (walk : Walked) {k j c : ℕ} (h : KeyIs T R c j) where
  pub named-same : {w' : List ℕ} {r : Walked} → j ≡ k → WalkedIs base w w' r (push_layer_c T (entries - base) c (walked w base walk))
      → WalkedIs base w w' r (push_named_c T R k (entries - base) c (walked w base walk))
  unfolding push_named_c
  named-same e l = record { is = l.is ∙ rw (eq-eqb (key_at T R c) k (sym h.is ∙ e), push_named_c) refl; same = l.same; low = l.low; high = l.high; len = l.len }

  pub named_other : base ≤ walk.top → walk.top ≤ entries → (j ≡ k → ⊥) → WalkedIs base w w walk (push_named_c T R k (entries - base) c (walked w base walk))
  unfolding push_named_c
  named_other low high n = stays low high (rw (ne_eqb (key_at T R c) k (λ e. n (h.is ∙ e)), push_named_c) refl)

pub ruleset nameds = (named-same, named_other)

-- One member more: laws for `holds_key`, `put_entry`, `join_group`, `begin_group` and `add`, one for each return.
use mathlib.Core.Path.{◌≡◌, refl, sym, ap, ◌∙◌}
use mathlib.Core.Bool.{Bool, true, false}
use mathlib.Core.List.{List}
use Prim.Native.Nat.{ℕ, ◌+◌, ◌*◌, ◌≤◌, ◌<◌}
use native.Mathlib.Omega.{arith}
use lib.Dec.{eqb}
use lib.ListN.{length, set, length-set}
use borrow.Author.Tests.{lt-ltb, le-ltb}
use Rattle.doc_items.specs.Writing.{ReadIs}
use Rattle.eval_nodes.specs.Model.{key_at}
use Rattle.eval_nodes.specs.Clauses.{KeyIs}
use Rattle.eval_stack.specs.Model.{stack_at, entries, Work}
use Rattle.eval_stack.specs.Clauses.{CodeIs, LinkIs}
use Rattle.eval_groups.specs.Model.{holds_key_c, put_entry_c, join_group_c, begin_group_c, placed, put_c}
use Rattle.eval_groups.specs.Clauses.{HoldsKeyIs, WorkIs, AddIs}
use Rattle.eval_groups.specs.Stores.{entry_length, join-length, begin-length}
use Rattle.eval_groups.specs.Adding.{add-room, add-full, holds-true}

module _ (T R w : List ℕ) (base top k p : ℕ) where
  pub held_below : p < base → HoldsKeyIs T R w base top k p false
  unfolding holds_key_c
  held_below l = record { is = rw (holds_key_c, lt-ltb p base l) refl }

  pub held-above : base ≤ p → top ≤ p → HoldsKeyIs T R w base top k p false
  unfolding holds_key_c
  held-above l h = record { is = rw (holds_key_c, le-ltb p base l, le-ltb p top h) refl }

  pub held-is : {c j : ℕ} → base ≤ p → p < top → CodeIs w p c → KeyIs T R c j → HoldsKeyIs T R w base top k p (eqb j k)
  unfolding holds_key_c
  held-is l h r q = record { is = rw (holds_key_c, le-ltb p base l, lt-ltb p top h, sym r.is, sym q.is) refl }

pub ruleset holdings = (held_below, held-above, held-is)

module _ (w : List ℕ) (p c l : ℕ) where
  pub put_in : Work w → p < entries → stack_at + 2 * p + 1 < length (set w (stack_at + 2 * p) c)
  put_in r h = omega (arith, length-set w (stack_at + 2 * p) c)

  pub put_is : WorkIs (put_entry_c p c l) w (set (set w (stack_at + 2 * p) c) (stack_at + 2 * p + 1) l)
  unfolding put_entry_c
  put_is = record { is = refl; len = entry_length w p c l }

pub ruleset puts = (put_in, put_is)

pub join_is : (w : List ℕ) (p top c : ℕ) {l : ℕ} {v : List ℕ} → LinkIs w p l → WorkIs (put_entry_c top c l) w v
    → WorkIs (join_group_c p top c) w (set v (stack_at + 2 * p + 1) top)
unfolding join_group_c
join_is w p top c {l} {v} r h =
    let e : set v (stack_at + 2 * p + 1) top ≡ join_group_c p top c w = rw (join_group_c, h.is, r.is) refl in
    record { is = e; len = ap length e ∙ join-length w p top c }

pub begin-is : (w : List ℕ) (k top c : ℕ) {v : List ℕ} → WorkIs (put_entry_c top c top) w v → WorkIs (begin_group_c k top c) w (set v k top)
unfolding begin_group_c
begin-is w k top c {v} h =
    let e : set v k top ≡ begin_group_c k top c w = rw (begin_group_c, h.is) refl in
    record { is = e; len = ap length e ∙ begin-length w k top c }

pub ruleset joins = (join_is)

pub ruleset begins = (begin-is)

module _ (T R : List ℕ) (base c : ℕ) (w : List ℕ) (t : ℕ) where
  pub add_none : entries ≤ t → AddIs T R base c w t w t
  add_none h = record { is = sym (add-full (key_at T R) base c w t h); len = refl }

  module _ {k p : ℕ} {b : Bool} (low : t < entries) (x : KeyIs T R c k) (y : ReadIs w k p) (m : HoldsKeyIs T R w base t k p b) where
    put-by : put_c (key_at T R) base t c w ≡ placed b k p t c w
    unfolding put_c
    put-by = rw (put_c, sym x.is, sym y.is, sym m.is) refl

    pub add-old : {v : List ℕ} → b ≡ true → WorkIs (join_group_c p t c) w v → AddIs T R base c w t v (t + 1)
    add-old {v} e h = record {
      is = sym (add-room (key_at T R) base c w t low ∙ (λ i. (((put-by ∙ ap (λ (u : Bool). placed u k p t c w) e) ∙ sym h.is) i, t + 1)));
      len = h.len;
    }

    pub add-new : {v : List ℕ} → b ≡ false → WorkIs (begin_group_c k t c) w v → AddIs T R base c w t v (t + 1)
    add-new {v} e h = record {
      is = sym (add-room (key_at T R) base c w t low ∙ (λ i. (((put-by ∙ ap (λ (u : Bool). placed u k p t c w) e) ∙ sym h.is) i, t + 1)));
      len = h.len;
    }

-- what holds the key stands below the top
pub held_place : {T R w : List ℕ} {base t k p : ℕ} {b : Bool} → HoldsKeyIs T R w base t k p b → b ≡ true → p < t
held_place {T} {R} {w} {base} {t} {k} {p} m e = (holds-true (key_at T R) w base t k p (sym m.is ∙ e)).1

pub ruleset addings = (add_none, add-old, add-new, held_place)

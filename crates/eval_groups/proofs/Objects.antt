-- The members of objects: laws for `add_members`, `add_layer` and `members`, one for each return.
use Rattle.std.specs.Prelude.{Some, None}
use mathlib.Core.Path.{◌≡◌, refl, sym, ap, ◌∙◌}
use mathlib.Core.List.{List, ◌++◌}
use Prim.Native.Nat.{ℕ, ◌+◌, ◌-◌, ◌*◌, ◌≤◌, ◌<◌}
use native.Mathlib.Omega.{arith}
use lib.ListN.{length, get_or}
use Rattle.eval_nodes.specs.Model.{View, key_at, members_of}
use Rattle.eval_nodes.specs.Clauses.{MemberIs, ViewIs}
use Rattle.eval_nodes.specs.Members.{members-end, members-skip, members-one, skip-less, one_less, member-small, key-small}
use Rattle.eval_nodes.specs.declared.Member.{Member}
use Rattle.eval_nodes.specs.declared.Members.{Members}
use Rattle.eval_stack.specs.Model.{stack_at, code_at, seg}
use Rattle.eval_stack.specs.Clauses.{CodeIs}
use Rattle.eval_stack.specs.Pushes.{seg-last}
use Rattle.eval_groups.specs.Model.{State, add_members_c, view_members, layer_members, object_members}
use Rattle.eval_groups.specs.Clauses.{AddIs, AddMembersIs, Below, MembersIs}
use Rattle.eval_groups.specs.Adding.{adds-append, adds-below, adds-rise}

-- ---- a list of members: what is left to add gives what all give

pub record AddInv (T R : List ℕ) (base : ℕ) (cs w₀ : List ℕ) (t₀ : ℕ) (w : List ℕ) (p e t : ℕ) : Type 0 where
  pub is : add_members_c (key_at T R) base (members_of T R p e) (w, t) ≡ add_members_c (key_at T R) base cs (w₀, t₀)
  pub len : length w ≡ length w₀

pub add_start : (T R : List ℕ) (base : ℕ) (w : List ℕ) (p e t : ℕ) → AddInv T R base (members_of T R p e) w t w p e t
add_start T R base w p e t = record { is = refl; len = refl }

module _ {T R : List ℕ} {base : ℕ} {cs w₀ : List ℕ} {t₀ : ℕ} {w : List ℕ} {p e t : ℕ} (I : AddInv T R base cs w₀ t₀ w p e t)
    {v : Member} (h : MemberIs T R p e v) where
  pub add-end : v ≡ Member.End → AddMembersIs T R base cs w₀ t₀ w t
  unfolding add_members_c
  add-end x = record { is = sym (ap (λ (l : List ℕ). add_members_c (key_at T R) base l (w, t)) (members-end h x)) ∙ I.is; len = I.len }

  pub add-skip : {q : ℕ} → v ≡ Member.Seam q → AddInv T R base cs w₀ t₀ w q e t
  add-skip x = record { is = sym (ap (λ (l : List ℕ). add_members_c (key_at T R) base l (w, t)) (members-skip h x)) ∙ I.is; len = I.len }

  pub add-one : {c q : ℕ} {w' : List ℕ} {r : ℕ} → v ≡ Member.At c q → AddIs T R base c w t w' r → AddInv T R base cs w₀ t₀ w' q e r
  unfolding add_members_c
  add-one {c} {q} {w'} {r} x a = record {
    is =
        ap (add_members_c (key_at T R) base (members_of T R q e)) a.is
        ∙ sym (ap (λ (l : List ℕ). add_members_c (key_at T R) base l (w, t)) (members-one h x)) ∙ I.is;
    len = a.len ∙ I.len;
  }

pub ruleset member-addings = (add_start, add-end, add-skip, add-one, skip-less, one_less, member-small)

-- ---- a layer's

module _ {T R : List ℕ} {c : ℕ} {v : View} (h : ViewIs T R c v) where
  members-by : (x : View) → v ≡ x → layer_members T R c ≡ view_members T R x
  unfolding layer_members
  members-by x e = ap (view_members T R) (sym h.is ∙ e)

  pub layer-other : {base : ℕ} {w : List ℕ} {t : ℕ} → v ≡ None → AddMembersIs T R base (layer_members T R c) w t w t
  unfolding add_members_c
  layer-other {base} {w} {t} e = record { is = sym (ap (λ (l : List ℕ). add_members_c (key_at T R) base l (w, t)) (members-by None e)); len = refl }

  pub layer-object : {base : ℕ} {w : List ℕ} {t : ℕ} {m : Members} {w' : List ℕ} {r : ℕ} → v ≡ Some m → AddMembersIs T R base (members_of T R m.first m.end) w t w' r
      → AddMembersIs T R base (layer_members T R c) w t w' r
  layer-object {base} {w} {t} {m} e a = record {
    is = a.is ∙ sym (ap (λ (l : List ℕ). add_members_c (key_at T R) base l (w, t)) (members-by (Some m) e));
    len = a.len;
  }

pub ruleset layer-addings = (layer-other, layer-object)

-- ---- several objects': those below i are left

pub record MembersInv (T R : List ℕ) (lo hi : ℕ) (w₀ w : List ℕ) (i t : ℕ) : Type 0 where
  pub is : add_members_c (key_at T R) hi (object_members T R (seg w₀ lo (i - lo))) (w, t)
      ≡ add_members_c (key_at T R) hi (object_members T R (seg w₀ lo (hi - lo))) (w₀, hi)
  pub below : Below hi w₀ w
  pub low : hi ≤ t
  pub upto : i ≤ hi
  pub len : length w ≡ length w₀

pub members-start : (T R : List ℕ) (lo hi : ℕ) (w : List ℕ) → MembersInv T R lo hi w w hi hi
members-start T R lo hi w = record { is = refl; below = λ i l h. refl; low = omega arith; upto = omega arith; len = refl }

module _ {T R : List ℕ} {lo hi : ℕ} {w₀ w : List ℕ} {i t : ℕ} (I : MembersInv T R lo hi w₀ w i t) where
  pub members-upto : i ≤ hi
  members-upto = I.upto

  pub members-again : {c : ℕ} {w' : List ℕ} {r : ℕ} → lo < i → CodeIs w (i - 1) c → AddMembersIs T R hi (layer_members T R c) w t w' r
      → MembersInv T R lo hi w₀ w' (i - 1) r
  unfolding object_members
  members-again {c} {w'} {r} l d a =
      let u = I.upto in
      let key = key_at T R in
      let rest = object_members T R (seg w₀ lo (i - 1 - lo)) in
      let read : c ≡ code_at w₀ (i - 1) = d.is ∙ I.below (stack_at + 2 * (i - 1)) (omega arith) (omega arith) in
      record {
        is =
            ap (add_members_c key hi rest) a.is
            ∙ sym (adds-append key hi (layer_members T R c) rest (w, t))
            ∙ ap (λ (x : ℕ). add_members_c key hi (layer_members T R x ++ rest) (w, t)) read
            ∙ sym (ap (λ (x : List ℕ). add_members_c key hi (object_members T R x) (w, t)) (seg-last w₀ lo i l))
            ∙ I.is;
        below = λ j x y. ap (λ (s : State). get_or s.0 j 0) a.is ∙ adds-below key hi (key-small T R) (layer_members T R c) w t I.low j x y ∙ I.below j x y;
        low = rw (ap (λ (s : State). s.1) a.is) (adds-rise key hi (layer_members T R c) w t hi I.low);
        upto = omega arith;
        len = a.len ∙ I.len;
      }

  pub members-done : i ≤ lo → MembersIs T R lo hi w₀ w t
  unfolding object_members add_members_c
  members-done l =
      let e : i - lo ≡ 0 = omega arith in
      record {
        is = sym (ap (λ (n : ℕ). add_members_c (key_at T R) hi (object_members T R (seg w₀ lo n)) (w, t)) e) ∙ I.is;
        below = I.below;
        low = I.low;
        len = I.len;
      }

pub ruleset object-addings = (members-start, members-upto, members-again, members-done)

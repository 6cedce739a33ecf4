-- The members with a key, one after the other.
use mathlib.Core.Path.{◌≡◌, refl, sym, ap, ◌∙◌}
use mathlib.Core.List.{List}
use Prim.Native.Nat.{ℕ, ◌-◌, ◌≤◌}
use native.Mathlib.Omega.{arith}
use lib.ListN.{length}
use Rattle.eval_nodes.specs.Model.{members_of}
use Rattle.eval_nodes.specs.Clauses.{MemberIs}
use Rattle.eval_nodes.specs.Members.{members-end, members-skip, members-one, skip-less, one_less, member-small}
use Rattle.eval_nodes.specs.declared.Member.{Member}
use Rattle.eval_stack.specs.Model.{entries, Work}
use Rattle.eval_stack.specs.Clauses.{Same}
use Rattle.eval_layers.specs.Model.{Walk, push_named_c, push_members_c}
use Rattle.eval_layers.specs.Clauses.{walked, WalkedIs}
use Rattle.eval_layers.specs.declared.Walked.{Walked}

-- what is still to be picked gives what all members give
pub record PickInv (T R : List ℕ) (k base : ℕ) (w₀ : List ℕ) (goal : Walk) (w : List ℕ) (walk : Walked) (p e : ℕ) : Type 0 where
  pub is : push_members_c T R k (entries - base) (members_of T R p e) (walked w base walk) ≡ goal
  pub same : Same base w₀ w
  pub low : base ≤ walk.top
  pub high : walk.top ≤ entries
  pub len : length w ≡ length w₀
  pub work : Work w

module _ (T R : List ℕ) (k base : ℕ) (w : List ℕ) (walk : Walked) (p e : ℕ) where
  pub pick-start : base ≤ walk.top → walk.top ≤ entries → Work w
      → PickInv T R k base w (push_members_c T R k (entries - base) (members_of T R p e) (walked w base walk)) w walk p e
  pick-start l h k = record { is = refl; same = λ i o. refl; low = l; high = h; len = refl; work = k }

module _ {T R : List ℕ} {k base : ℕ} {w₀ : List ℕ} {goal : Walk} {w : List ℕ} {walk : Walked} {p e : ℕ}
    (I : PickInv T R k base w₀ goal w walk p e) where
  pub pick-work : Work w
  pick-work = I.work

  module _ {v : Member} (h : MemberIs T R p e v) where
    pub pick_end : v ≡ Member.End → WalkedIs base w₀ w walk goal
    unfolding push_members_c
    pick_end t = record {
      is = sym (rw (members-end h t, push_members_c) refl) ∙ I.is;
      same = I.same;
      low = I.low;
      high = I.high;
      len = I.len;
    }

    pub pick-skip : {q : ℕ} → v ≡ Member.Seam q → PickInv T R k base w₀ goal w walk q e
    pick-skip t = record {
      is = ap (λ (l : List ℕ). push_members_c T R k (entries - base) l (walked w base walk)) (sym (members-skip h t)) ∙ I.is;
      same = I.same;
      low = I.low;
      high = I.high;
      len = I.len;
      work = I.work;
    }

    pub pick-one : {c q : ℕ} {w' : List ℕ} {r : Walked} → v ≡ Member.At c q
        → WalkedIs base w w' r (push_named_c T R k (entries - base) c (walked w base walk)) → PickInv T R k base w₀ goal w' r q e
    unfolding push_members_c
    pick-one {c} {q} {w'} {r} t g = record {
      is =
          ap (push_members_c T R k (entries - base) (members_of T R q e)) g.is
          ∙ sym (rw (members-one h t, push_members_c) refl) ∙ I.is;
      same = λ i o. g.same i o ∙ I.same i o;
      low = g.low;
      high = g.high;
      len = g.len ∙ I.len;
      work = omega (arith, g.len, I.work);
    }

pub ruleset picks = (pick-start, pick_end, pick-skip, pick-one, pick-work, skip-less, one_less, member-small)

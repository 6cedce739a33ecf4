-- The elements of an array, one by one: what stands at a place of the items, and what an element is as a layer.
use Rattle.std.specs.Prelude.{◌≡◌, ℕ, ◌+◌, ◌*◌, ◌≤◌, ◌<◌, Bool, true, false, List, ltb, leb, get_or}
use Rattle.std.proofs.Math.Path.{refl}
use Rattle.std.proofs.Common.{sym, subst, arith}
use Rattle.std.proofs.Math.Option.{some}
use borrow.Author.Tests.{ltb-true, ltb-false, leb-true, leb-false, le-leb}
use Rattle.rules.specs.Tree.{Node, Elements, no-elements, element}
use Rattle.doc_items.specs.Codes.{as_member}
use Rattle.doc_items.specs.Holds.{Seams, ElementsAt}
use Rattle.doc_items.specs.Parts.{numbers, letters}
use Rattle.eval_nodes.specs.Model.{member_at}
use Rattle.eval_nodes.specs.declared.Member.{Member}
use Rattle.eval_memory.specs.Finished.{Memory, Stored}
use Rattle.eval_memory.specs.Tables.{Number, WrittenAt, as-member}
use Rattle.eval_memory.specs.Views.{member-skip, member-one, member-small}

module _ (M : Memory) where
  abbrev T : List ℕ
  T = M.table

  abbrev R : List ℕ
  R = M.records

  abbrev SeamsIn : ℕ → ℕ → Type 0
  SeamsIn i j = Seams (numbers T) (letters 0 M.bytes) 0 M.ends (Number M) i j

  abbrev ElementsIn : ℕ → ℕ → Elements → Type 0
  ElementsIn i j es = ElementsAt (numbers T) (letters 0 M.bytes) 0 M.ends (Number M) i j es

  -- elements stand from one item up to another
  pub record ElementsShown (i end : ℕ) (es : Elements) : Type 0 where
    pub upto : end ≤ M.items
    pub at : ElementsIn i end es

  -- by what is met at p
  abbrev pub ElementStep : ℕ → Elements → Member → Type 0
  ElementStep end es Member.End = es ≡ no-elements
  ElementStep end es (Member.Seam q) = ElementsShown q end es
  ElementStep end es (Member.At c q) = (n : Node) × (ns : Elements) × (es ≡ element n ns) × WrittenAt M n c × ElementsShown q end ns

  less-seams : (i j : ℕ) → i < j → SeamsIn i j → SeamsIn (i + 1) j
  less-seams i j l s = (omega arith, λ k a b. s.1 k (omega arith) b)

  next-seam : (es : Elements) (p e : ℕ) → p < e → 16 ≤ get_or T (8 * p) 0 → ElementsIn p e es → ElementsIn (p + 1) e es
  next-seam no-elements p e l k s = less-seams p e l s
  next-seam (element n es) p e l k s = let j = s.0 in (j, less-seams p j (go (ltb p j) refl (member-small M n j s.3)) s.1, s.2, s.3, s.4)
    where
      go : (t : Bool) → ltb p s.0 ≡ t → get_or T (8 * s.0) 0 < 16 → p < s.0
      go true q a = ltb-true p s.0 q
      go false q a =
          let z : p ≡ s.0 = omega (arith, ltb-false p s.0 q, s.1.0) in
          let k' : 16 ≤ get_or T (8 * s.0) 0 = subst (λ (i : ℕ). 16 ≤ get_or T (8 * i) 0) z k in
          absurd (omega arith)

  module _ (S : Stored M) (p e : ℕ) where
    past : (es : Elements) → e ≤ p → ElementsShown p e es → ElementStep e es (member_at T R p e)
    unfolding member_at
    past no-elements l s = rw (member_at, le-leb e p l) refl
    past (element n es) l s = let x = s.at in absurd (omega (arith, x.1.0, x.2.0, x.2.1))

    first : (es : Elements) → p < e → get_or T (8 * p) 0 < 16 → ElementsShown p e es → ElementStep e es (member_at T R p e)
    first no-elements l k s = let z = s.at.1 p (omega arith) l in absurd (omega arith)
    first (element n ns) l k s = rw (member-one M p e l (omega (arith, s.upto, S.few)) k (rw (sym there) at some)) (rw (sym there) at here)
      where
        j : ℕ
        j = s.at.0

        size : ℕ
        size = get_or T (8 * j + 1) 0

        some : 1 ≤ size
        some = s.at.2.0

        there : p ≡ j
        there = go (ltb p j) refl
          where
            go : (t : Bool) → ltb p j ≡ t → p ≡ j
            go true q = let z = s.at.1.1 p (omega arith) (ltb-true p j q) in absurd (omega arith)
            go false q = omega (arith, ltb-false p j q, s.at.1.0)

        here : ElementStep e (element n ns) (Member.At j (j + size))
        here =
            let u = s.upto in
            let i : j + size ≤ e = s.at.2.1 in (
              n,
              ns,
              refl,
              record { sized = some; inside = omega arith; role = as_member; roles = as-member n; node = s.at.3 },
              record { upto = u; at = s.at.4 },
            )

    -- what is met among elements
    pub element-met : (es : Elements) → ElementsShown p e es → ElementStep e es (member_at T R p e)
    element-met es s = go (leb e p) refl
      where
        go : (t : Bool) → leb e p ≡ t → ElementStep e es (member_at T R p e)
        go true q = past es (leb-true e p q) s
        go false q = by (leb 16 (get_or T (8 * p) 0)) refl
          where
            l : p < e
            l = leb-false e p q

            by : (t : Bool) → leb 16 (get_or T (8 * p) 0) ≡ t → ElementStep e es (member_at T R p e)
            by true z =
                let k = leb-true 16 (get_or T (8 * p) 0) z in
                rw (member-skip M p e l (omega (arith, s.upto, S.few)) k) (record { upto = s.upto; at = next-seam es p e l k s.at })
            by false z = first es l (leb-false 16 (get_or T (8 * p) 0) z) s

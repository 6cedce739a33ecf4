-- One law for each answer of the functions that number the items.
use Rattle.std.specs.Prelude.{Result, Ok, Err}
use mathlib.Core.Path.{◌≡◌, refl, sym, ap, ◌∙◌}
use Prim.Native.Nat.{ℕ, suc, ◌+◌, ◌*◌, ◌≤◌, ◌<◌}
use mathlib.Core.List.{List, [], ◌∷◌}
use mathlib.Core.Bool.{Bool, true, false}
use mathlib.Core.Option.{none, some}
use mathlib.Core.Logic.{inl, inr, ⊎_elim}
use native.Mathlib.Omega.{arith}
use lib.Dec.{ltb}
use lib.ListN.{length, get_or, set, get_elem?, length-set}
use lib.Seq.{get_or-set_same, get_or-set_other}
use borrow.Author.Tests.{ltb-true, ltb-false}
use Rattle.doc_items.specs.Writing.{ReadIs}
use Rattle.doc_items.specs.Room.{index_at, capacity, table_room}
use Rattle.text_chars.specs.Cursor.{doc, refusal}
use Rattle.text_chars.specs.declared.Refusal.{Refusal}
use Rattle.rules.specs.Tree.{Pieces, Root, fields, elements, root_node, number_node, number_root}
use Rattle.rules.specs.Layers.{end}
use Rattle.rules.specs.Unresolved.{Unresolved, Openness, in_node, unresolved_in}
use Rattle.theory.specs.Numbering.{count-node}
use Rattle.doc_items.specs.Holds.{NodeAt, PiecesAt}
use Rattle.doc_items.specs.Parts.{numbers}
use Rattle.doc_items.specs.Joining.{elements-forward, fields-forward}
use Rattle.read_numbering.specs.Clauses.{GiveIs, Step, ItemIs, WithoutNumbers, ItemOf, Indexed, WithNumbers, NumberIs}
use Rattle.read_numbering.proofs.Counts.{eights, eights-one, eights-none, eights-less, eights-same}
use Rattle.read_numbering.proofs.Trees.{Any, Same, member_apart, member-fits, counts-node, Given, shown-node, shown-pieces}
use Rattle.read_numbering.proofs.Lists.{few-none, many-some, Standing, Standings, standing, Holding, standings-node}

-- ---- a number of the numbers, and an item's number

pub give-both : {t u v : List ℕ} (i number : ℕ) → u ≡ set t (8 * i + 7) number → v ≡ set u (index_at + number) i → GiveIs i number t v
give-both i number e f = record { is = f ∙ rw e }

-- ---- one item

give-length : {i number : ℕ} {t u : List ℕ} → GiveIs i number t u → length u ≡ length t
give-length {i} {number} {t} {u} k = ap length k.is ∙ simp length-set

module _ {t : List ℕ} {i count kind : ℕ} (h : ReadIs t (8 * i) kind) where
  pub item-other : (kind ≡ 8 → ⊥) → ItemIs i count t t (Ok count)
  item-other e = record { same = refl; is = inl (λ z. e (h.is ∙ z), refl, refl) }

  pub item-excess : {p : ℕ} → kind ≡ 8 → count ≡ 256 → ReadIs t (8 * (i + 1) + 6) p → ItemIs i count t t (Err (refusal 8 (doc p)))
  item-excess e l k = record { same = refl; is = (sym h.is ∙ e, l, refl, k.is, refl) }

  pub item-given : {u : List ℕ} → kind ≡ 8 → (count ≡ 256 → ⊥) → count ≤ 256 → GiveIs i count t u → ItemIs i count t u (Ok (count + 1))
  item-given e n l k = record { same = give-length k; is = inr (sym h.is ∙ e, omega (arith, n), refl, k) }

-- ---- all items

-- The items before an item are numbered, and nothing else of the items has changed.
pub record Passing (before : List ℕ) (items i count : ℕ) (now : List ℕ) : Type 0 where
  pub same : length now ≡ length before
  pub to : i ≤ items
  pub count-is : count ≡ eights (numbers before) i
  pub few : count ≤ 256
  pub kept : (k : ℕ) → k < index_at → ((j : ℕ) → k ≡ 8 * j + 7 → numbers before (8 * j) ≡ 8 → ⊥) → numbers now k ≡ numbers before k
  pub number : (j : ℕ) → j < i → numbers before (8 * j) ≡ 8 → numbers now (8 * j + 7) ≡ eights (numbers before) j
  pub index : (j : ℕ) → j < i → numbers before (8 * j) ≡ 8 → numbers now (index_at + eights (numbers before) j) ≡ j

pub pass-start : {before : List ℕ} {items : ℕ} → Passing before items 0 0 before
unfolding eights
pass-start = record {
  same = refl;
  to = omega arith;
  count-is = refl;
  few = omega arith;
  kept = λ k l n. refl;
  number = λ j l. absurd (omega arith);
  index = λ j l. absurd (omega arith);
}

module _ {before now : List ℕ} {items i count : ℕ} (P : Passing before items i count now) where
  -- a kind is never written
  kind-kept : (j : ℕ) → j < capacity → numbers now (8 * j) ≡ numbers before (8 * j)
  kind-kept j l = P.kept (8 * j) (omega arith) (λ m e k. omega arith)

  column-kept : (j c : ℕ) → j < capacity → c < 7 → numbers now (8 * j + c) ≡ numbers before (8 * j + c)
  column-kept j c l m = P.kept (8 * j + c) (omega arith) (λ n e k. omega arith)

  module _ (l : i < items) (few : items ≤ capacity) where
    other : (numbers now (8 * i) ≡ 8 → ⊥) → Passing before items (i + 1) count now
    other n =
        let z : numbers before (8 * i) ≡ 8 → ⊥ = λ e. n (kind-kept i (omega arith) ∙ e) in
        record {
          same = P.same;
          to = omega arith;
          count-is = P.count-is ∙ sym (eights-none (numbers before) i z);
          few = P.few;
          kept = P.kept;
          number = λ j m k. P.number j (less j m k z) k;
          index = λ j m k. P.index j (less j m k z) k;
        }
      where
        less : (j : ℕ) → j < i + 1 → numbers before (8 * j) ≡ 8 → (numbers before (8 * i) ≡ 8 → ⊥) → j < i
        less j m k z = go (ltb j i) refl
          where
            go : (t : Bool) → ltb j i ≡ t → j < i
            go true e = ltb-true j i e
            go false e = let q : j ≡ i = omega (arith, ltb-false j i e) in absurd (z (rw q at k))

    module _ {after : List ℕ} (k : numbers now (8 * i) ≡ 8) (m : count < 256) (G : GiveIs i count now after) (room : table_room ≤ length before) where
      kind : numbers before (8 * i) ≡ 8
      kind = sym (kind-kept i (omega arith)) ∙ k

      apart : (at : ℕ) → (at ≡ index_at + count → ⊥) → (at ≡ 8 * i + 7 → ⊥) → numbers after at ≡ numbers now at
      apart at a b =
          ap (λ t. get_or t at 0) G.is ∙ get_or-set_other (set now (8 * i + 7) count) (index_at + count) at i 0 a
          ∙ get_or-set_other now (8 * i + 7) at count 0 b

      numbered-here : numbers after (8 * i + 7) ≡ eights (numbers before) i
      numbered-here =
          ap (λ t. get_or t (8 * i + 7) 0) G.is ∙ get_or-set_other (set now (8 * i + 7) count) (index_at + count) (8 * i + 7) i 0 (λ z. omega arith)
          ∙ get_or-set_same now (8 * i + 7) count 0 (omega (arith, P.same)) ∙ P.count-is

      indexed-here : numbers after (index_at + eights (numbers before) i) ≡ i
      indexed-here =
          let c : eights (numbers before) i ≡ count = sym P.count-is in
          rw c (ap (λ t. get_or t (index_at + count) 0) G.is
          ∙ get_or-set_same (set now (8 * i + 7) count) (index_at + count) i 0 (rw (length-set now (8 * i + 7) count) (omega (arith, P.same))))

      given : Passing before items (i + 1) (count + 1) after
      given = record {
        same = give-length G ∙ P.same;
        to = omega arith;
        count-is = omega (arith, P.count-is, eights-one (numbers before) i kind);
        few = omega arith;
        kept = λ at a b. apart at (λ z. omega arith) (λ z. b i z kind) ∙ P.kept at a b;
        number = λ j u v. at-number j u v (ltb j i) refl;
        index = λ j u v. at-index j u v (ltb j i) refl;
      }
        where
          at-number : (j : ℕ) → j < i + 1 → numbers before (8 * j) ≡ 8 → (t : Bool) → ltb j i ≡ t → numbers after (8 * j + 7) ≡ eights (numbers before) j
          at-number j u v true e =
              let q = ltb-true j i e in
              apart (8 * j + 7) (λ z. omega arith) (λ z. omega arith) ∙ P.number j q v
          at-number j u v false e = let q : j ≡ i = omega (arith, ltb-false j i e) in rw q numbered-here

          at-index : (j : ℕ) → j < i + 1 → numbers before (8 * j) ≡ 8 → (t : Bool) → ltb j i ≡ t
              → numbers after (index_at + eights (numbers before) j) ≡ j
          at-index j u v true e =
              let q = ltb-true j i e in
              let w : eights (numbers before) j < count = omega (arith, P.count-is, eights-less (numbers before) j i v q) in
              apart (index_at + eights (numbers before) j) (λ z. omega arith) (λ z. omega arith) ∙ P.index j q v
          at-index j u v false e = let q : j ≡ i = omega (arith, ltb-false j i e) in rw q indexed-here

    pub pass-more : {after : List ℕ} {c : ℕ} {r : Result ℕ Refusal} → table_room ≤ length before → ItemIs i count now after r → r ≡ Ok c
        → Passing before items (i + 1) c after
    pass-more {after} {c} {r} room h e =
        let s : Step i count now after (Ok c) = rw e at h.is in
        ⊎_elim (λ a. rw (a.1, a.2) (other a.0)) (λ a. rw a.2 (given a.0 a.1 a.3 room)) s

-- ---- a document

-- the root's node with its numbers, and the list of its unresolved values
root-node : (root : Root) → root_node (number_root root) ≡ (number_node 0 (root_node root)).0
unfolding number_node
root-node (fields fs) = refl
root-node (elements es) = refl

root-list : (root : Root) → (openness : Openness) × (unresolved_in (number_root root) ≡ in_node openness (number_node 0 (root_node root)).0)
unfolding number_node unresolved_in
root-list (fields fs) = (some (record { path = []; before = end }), refl)
root-list (elements es) = (none, refl)

module _ {before : List ℕ} {items : ℕ} {h : ℕ → ℕ} {lo hi : ℕ} {root : Root} (X : WithoutNumbers before items h lo hi root) where
  begins : 0 ≡ eights (numbers before) 0
  unfolding eights
  begins = refl

  ends : 0 + numbers before (8 * 0 + 1) ≡ items
  ends = omega (arith, X.whole)

  total : (openness : Openness) → eights (numbers before) items ≡ length (in_node openness (number_node 0 (root_node root)).0)
  total openness =
      let c = counts-node (numbers before) h lo hi (root_node root) 0 0 0 member_apart (member-fits (root_node root)) begins X.shown X.read in
      let d : (number_node 0 (root_node root)).1 ≡ 0 + length (in_node openness (number_node 0 (root_node root)).0) = count-node 0 (root_node root) openness in
      sym (ap (eights (numbers before)) ends) ∙ sym c ∙ omega arith

  whole_length : eights (numbers before) items ≡ length (unresolved_in (number_root root))
  whole_length = let l = root-list root in total l.0 ∙ ap length (sym l.1)

  standings : (Q : ℕ → Pieces → Type 0) → Holding (numbers before) h lo hi items Q
      → Standings (numbers before) h lo hi items Q 0 (unresolved_in (number_root root))
  standings Q q =
      let l = root-list root in
      rw l.1 (standings-node (numbers before) h lo hi items Q q (root_node root) l.0 0 0 0 member_apart (member-fits (root_node root))
      (omega (arith, ends)) begins X.shown X.read)

  some-items : 0 < items
  some-items = go root X.shown
    where
      go : (r : Root) → NodeAt (numbers before) h lo hi Any 0 0 (root_node r) → 0 < items
      go (fields fs) s = omega (arith, ends, fields-forward (numbers before) h lo hi Any fs (0 + 1) (0 + numbers before (8 * 0 + 1)) s.1)
      go (elements es) s = omega (arith, ends, elements-forward (numbers before) h lo hi Any es (0 + 1) (0 + numbers before (8 * 0 + 1)) s.1)

  -- all are numbered
  module _ {now : List ℕ} {count : ℕ} (P : Passing before items items count now) (few : items ≤ capacity) where
    given-all : Given (numbers before) h lo hi (numbers now) items
    given-all = record {
      kind = λ j l. kind-kept P j (omega arith);
      column = λ j c l m. column-kept P j c (omega arith) m;
      count = λ j l q. P.kept (8 * j + 7) (omega arith) (λ m e k. piece j m q (omega arith) k);
      number = λ j l k. P.number j l k;
    }
      where
        piece : (j m : ℕ) → 16 ≤ numbers before (8 * j) → m ≡ j → numbers before (8 * m) ≡ 8 → ⊥
        piece j m q e k = let z : numbers before (8 * j) ≡ 8 = rw e at k in omega arith

    abbrev Kept : ℕ → Pieces → Type 0
    Kept j ps = PiecesAt (numbers now) h lo hi Same (j + 1) (j + numbers before (8 * j + 1)) ps

    item_of : (b : ℕ) (u : Unresolved) → Standing (numbers before) h lo hi items Kept b u → ItemOf now items h lo hi b u
    item_of b u S =
        let j = S.item in
        let l : j + 1 < items = S.inside in
        let e : numbers now (index_at + b) ≡ j = ap (λ c. numbers now (index_at + c)) S.number ∙ P.index j (omega arith) S.kind in
        let z : numbers now (8 * j + 1) ≡ numbers before (8 * j + 1) = column-kept P j 1 (omega arith) (omega arith) in
        record {
          inside = rw e (omega arith);
          kind = rw e (kind-kept P j (omega arith) ∙ S.kind);
          number = rw e (P.number j (omega arith) S.kind ∙ sym S.number);
          place = rw e (S.place ∙ sym (column-kept P (j + 1) 6 (omega arith) (omega arith)));
          pieces = rw (e, z) S.pieces;
        }

    indexed : (us : List Unresolved) (b : ℕ) → Standings (numbers before) h lo hi items Kept b us → Indexed now items h lo hi b us
    indexed [] b s = tt
    indexed (u ∷ us) b s = (item_of b u s.0, indexed us (suc b) s.1)

    all-numbered : WithNumbers now items h lo hi count (number_root root)
    all-numbered =
        let us = unresolved_in (number_root root) in
        let c : count ≡ length us = P.count-is ∙ whole_length in
        let q : Holding (numbers before) h lo hi items Kept =
        λ j b ps l e s p a. shown-pieces (numbers before) h lo hi (numbers now) items given-all ps (j + 1) (j + numbers before (8 * j + 1)) (suc b) l e s p a in
        record {
          count = c;
          few = few-none us 256 (omega (arith, P.few));
          shown = rw (root-node root) (shown-node (numbers before) h lo hi (numbers now) items given-all (root_node root) 0 0 0 member_apart
              (member-fits (root_node root)) some-items (omega (arith, ends)) begins X.shown X.read);
          indexed = indexed us 0 (standings Kept q);
          whole = column-kept P 0 1 (omega arith) (omega arith) ∙ X.whole;
        }

  -- there is one too many
  module _ {now : List ℕ} {i count p : ℕ} (P : Passing before items i count now) (few : items ≤ capacity) (l : i < items)
      (k : numbers now (8 * i) ≡ 8) (m : count ≡ 256) (q : p ≡ numbers now (8 * (i + 1) + 6)) where
    one-too-many : (u : Unresolved) × (get_elem? (unresolved_in (number_root root)) 256 ≡ some u) × (p ≡ u.place)
    one-too-many =
        let us = unresolved_in (number_root root) in
        let kind : numbers before (8 * i) ≡ 8 = sym (kind-kept P i (omega arith)) ∙ k in
        let s = many-some us 256 (omega (arith, P.count-is, whole_length, eights-less (numbers before) i items kind l)) in
        let S = standing (numbers before) h lo hi items (λ j ps. Unit {0}) us 0 256 s.0 (standings (λ j ps. Unit {0}) (λ j b ps a b' c d e. tt)) s.1 in
        let e : S.item ≡ i = eights-same (numbers before) S.item i S.kind kind (omega (arith, P.count-is, S.number)) in
        let inside : S.item + 1 < items = S.inside in
        let place : s.0.place ≡ numbers before (8 * (i + 1) + 6) = rw e at S.place in
        (s.0, s.1, q ∙ column-kept P (i + 1) 6 (omega arith) (omega arith) ∙ sym place)

module _ {before now : List ℕ} {items i count : ℕ} (P : Passing before items i count now) (few : items ≤ capacity) where
  pub pass-done : items ≤ i → NumberIs before items now (Ok count)
  pass-done l =
      let e : i ≡ items = omega (arith, P.to) in
      let R : Passing before items items count now = rw e at P in
      record { same = P.same; is = λ root h lo hi X. all-numbered X R few }

  pub pass-excess : {after : List ℕ} {d : Refusal} {r : Result ℕ Refusal} → i < items → ItemIs i count now after r → r ≡ Err d
      → NumberIs before items after (Err d)
  pass-excess {after} {d} {r} l h e =
      let s : Step i count now after (Err d) = rw e at h.is in
      record { same = h.same ∙ P.same; is = λ root t lo hi X. let u = one-too-many X P few l s.0 s.1 s.3 in (u.0, u.1, s.2, u.2) }

pub ruleset gives = give-both

pub ruleset steps = (item-other, item-excess, item-given)

pub ruleset passes = (pass-start, pass-more, pass-done, pass-excess)

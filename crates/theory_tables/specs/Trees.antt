-- Reading the tree of a lent table: of a plain one it ends where document 01's own walk does, so that it has a tree exactly if it is whole;
-- and a tree is nested no deeper than was allowed.
use Rattle.std.proofs.Math.Path.{◌≡◌, refl, ap, subst}
use Rattle.std.proofs.Common.{sym, ◌∙◌}
use Prim.Native.Nat.{ℕ, zero, suc, ◌+◌, ◌≤◌}
use Rattle.std.specs.Prelude.{List, Bool, ◌&&◌, length}
use Rattle.std.proofs.Math.Bool.{true, false}
use Rattle.std.proofs.Math.Option.{Option, none, some}
use native.Mathlib.Omega.{arith}
use Rattle.std.proofs.Math.Dec.{leb, eqb}
use Rattle.answers.specs.Theory.Sound.{clash}
use Rattle.rules.specs.Sizes.{max_nesting}
use Rattle.rules.specs.Bytes.{Text, byte_at, within}
use Rattle.rules.specs.Kinds as kinds
use Rattle.rules.specs.Values.{Value, scalar, array_of, object_of, Values, val, Members, member, nesting_of, deepest_value, deepest_member}
use Rattle.rules.specs.Sheet.{pair_at}
use Rattle.rules.specs.LookUp.{after_text, after_members, after_record, after_value, is_whole, text_at}
use Rattle.rules_tables.specs.Trees.{plain_head, Located, located_then, text_from, values_from, members_from, written_of}
use Rattle.rules_tables.specs.Trees.{record_from, container_from, tree_from, tree_of}

-- ---- where reading ends

-- the place behind what was read
abbrev pub end_of : {A : Type 0} → Located A → Option ℕ
end_of none = none
end_of (some p) = some p.1

-- and going on from there
abbrev from : Option ℕ → (ℕ → Option ℕ) → Option ℕ
from o f = elim o [ none ↦ none | some p ↦ f p ]

end-then : {A B : Type 0} (m : Located A) (k : A → ℕ → Located B) (f : ℕ → Option ℕ) → ((a : A) (p : ℕ) → end_of (k a p) ≡ f p)
    → end_of (located_then m k) ≡ from (end_of m) f
end-then none k f h = refl
end-then (some p) k f h = h p.0 p.1

end-made : {A B : Type 0} (m : Located A) (g : A → B) → end_of (located_then m (λ a p. some (g a, p))) ≡ end_of m
end-made none g = refl
end-made (some p) g = refl

end_test : {A : Type 0} (t : Bool) (a b : Located A) (x y : Option ℕ) → end_of a ≡ x → end_of b ≡ y
    → end_of {A = A} (elim t as (λ _. Located A) [ true ↦ a | false ↦ b ]) ≡ elim t as (λ _. Option ℕ) [ true ↦ x | false ↦ y ]
end_test true a b x y h k = h
end_test false a b x y h k = k

abbrev pub is_some : Option Value → Bool
is_some none = false
is_some (some v) = true

module _ (table text : List ℕ) where
  text-end : (kind at : ℕ) → end_of (text_from table text kind at) ≡ after_text table (length text) kind at
  unfolding text_from
  text-end kind at = go (after_text table (length text) kind at)
    where
      go : (o : Option ℕ) → end_of {A = Text}
          (elim o as (λ _. Located Text) [ none ↦ none | some end ↦ some (text_at table text at, end) ]) ≡ o
      go none = refl
      go (some end) = refl

  module _ (one : ℕ → Located Value) (after : ℕ → Option ℕ) (h : (p : ℕ) → end_of (one p) ≡ after p) where
    values-end : (n at : ℕ) → end_of (values_from one n at) ≡ after_members false after table (length text) n at
    unfolding values_from after_members
    values-end zero at = refl
    values-end (suc n) at =
        end-then (one at) _ (λ p. after_members false after table (length text) n p)
        (λ v p. end-made (values_from one n p) (val v) ∙ values-end n p)
        ∙ ap (λ o. from o (λ p. after_members false after table (length text) n p)) (h at)

    members-end : (n at : ℕ) → end_of (members_from one table text n at) ≡ after_members true after table (length text) n at
    unfolding members_from after_members
    members-end zero at = refl
    members-end (suc n) at =
        let rest : ℕ → Option ℕ = λ p. after_members true after table (length text) n p in
        end-then (text_from table text kinds.key at) _ (λ p. from (after p) rest)
        (λ k p. end-then (one p) _ rest (λ v q. end-made (members_from one table text n q) (member k v) ∙ members-end n q)
        ∙ ap (λ o. from o rest) (h p))
        ∙ ap (λ o. from o (λ p. from (after p) rest)) (text-end kinds.key at)

  record-end : (at : ℕ) (container : Bool → Located Value) (inner : Bool → Option ℕ)
      → ((keyed : Bool) → end_of (container keyed) ≡ inner keyed)
      → end_of (record_from (byte_at table at) plain_head table text at container) ≡ after_record table (length text) at inner
  unfolding record_from after_record
  record-end at container inner h =
      let kind = byte_at table at in
      end_test (within kinds.null kinds.true kind) _ _ _ _ refl
      (end_test (within kinds.number kinds.string kind) _ _ _ _
      (end-made (text_from table text kind at) (λ t. scalar (written_of kind t)) ∙ text-end kind at)
      (end_test (within kinds.array kinds.object kind && leb (at + plain_head) (length table)) _ _ _ _ (h (eqb kind kinds.object)) refl))

  container-end : (n at : ℕ) → ((p : ℕ) → end_of (tree_from plain_head n table text p) ≡ after_value n table (length text) p) → (keyed : Bool)
      → end_of (container_from (tree_from plain_head n table text) plain_head table text at keyed)
      ≡ after_members keyed (λ p. after_value n table (length text) p) table (length text) (pair_at table (at + 1)) (at + 3)
  unfolding container_from
  container-end n at h true =
      end-made (members_from (tree_from plain_head n table text) table text (pair_at table (at + 1)) (at + 3)) object_of
      ∙ members-end (tree_from plain_head n table text) (λ p. after_value n table (length text) p) h (pair_at table (at + 1)) (at + 3)
  container-end n at h false =
      end-made (values_from (tree_from plain_head n table text) (pair_at table (at + 1)) (at + 3)) array_of
      ∙ values-end (tree_from plain_head n table text) (λ p. after_value n table (length text) p) h (pair_at table (at + 1)) (at + 3)

  pub tree-end : (levels at : ℕ) → end_of (tree_from plain_head levels table text at) ≡ after_value levels table (length text) at
  unfolding tree_from after_value
  tree-end zero at = record-end at (λ keyed. none) (λ keyed. none) (λ keyed. refl)
  tree-end (suc n) at =
      record-end at (container_from (tree_from plain_head n table text) plain_head table text at)
      (λ keyed. after_members keyed (λ p. after_value n table (length text) p) table (length text) (pair_at table (at + 1)) (at + 3))
      (container-end n at (tree-end n))

  -- a plain table has a tree exactly if it is whole
  pub whole_is : is_whole table (length text) ≡ is_some (tree_of plain_head table text)
  unfolding is_whole tree_of
  whole_is =
      ap (λ o. elim o as (λ _. Bool) [ none ↦ false | some end ↦ eqb end (length table) ]) (sym (tree-end max_nesting 0))
      ∙ go (tree_from plain_head max_nesting table text 0)
    where
      ended : (t : Bool) (v : Value) → t ≡ is_some (elim t as (λ _. Option Value) [ true ↦ some v | false ↦ none ])
      ended true v = refl
      ended false v = refl

      go : (m : Located Value)
          → elim (end_of m) as (λ _. Bool) [ none ↦ false | some end ↦ eqb end (length table) ]
          ≡ is_some (elim m as (λ _. Option Value) [
            | none ↦ none
            | some p ↦ elim (eqb p.1 (length table)) as (λ _. Option Value) [ true ↦ some p.0 | false ↦ none ]
          ])
      go none = refl
      go (some p) = ended (eqb p.1 (length table)) p.0

-- ---- how deep a tree is

abbrev Holds : {A : Type 0} (P : A → Type 0) → Located A → Type 0
Holds P none = Unit {0}
Holds P (some p) = P p.0

holds_then : {A B : Type 0} (P : A → Type 0) (Q : B → Type 0) (m : Located A) (k : A → ℕ → Located B) → Holds P m
    → ((a : A) (p : ℕ) → P a → Holds Q (k a p)) → Holds Q (located_then m k)
holds_then P Q none k h f = tt
holds_then P Q (some p) k h f = f p.0 p.1 h

holds_test : {A : Type 0} (P : A → Type 0) (t : Bool) (a b : Located A) → Holds P a → Holds P b
    → Holds P (elim t as (λ _. Located A) [ true ↦ a | false ↦ b ])
holds_test P true a b h k = h
holds_test P false a b h k = k

anything : {A : Type 0} (m : Located A) → Holds (λ _. Unit {0}) m
anything none = tt
anything (some p) = tt

abbrev AtMost : ℕ → Value → Type 0
AtMost n v = nesting_of v ≤ n

abbrev ValuesAtMost : ℕ → Values → Type 0
ValuesAtMost n vs = deepest_value vs ≤ n

abbrev MembersAtMost : ℕ → Members → Type 0
MembersAtMost n ms = deepest_member ms ≤ n

abbrev AnyText : Text → Type 0
AnyText t = Unit {0}

module _ (head : ℕ) (table text : List ℕ) where
  module _ (one : ℕ → Located Value) (n : ℕ) (h : (p : ℕ) → Holds (AtMost n) (one p)) where
    values-nested : (count at : ℕ) → Holds (ValuesAtMost n) (values_from one count at)
    unfolding values_from nesting_of
    values-nested zero at = omega arith
    values-nested (suc c) at =
        holds_then (AtMost n) (ValuesAtMost n) (one at) _ (h at)
        (λ v p a. holds_then (ValuesAtMost n) (ValuesAtMost n) (values_from one c p) _ (values-nested c p) (λ vs q b. omega arith))

    members-nested : (count at : ℕ) → Holds (MembersAtMost n) (members_from one table text count at)
    unfolding members_from nesting_of
    members-nested zero at = omega arith
    members-nested (suc c) at =
        holds_then AnyText (MembersAtMost n) (text_from table text kinds.key at) _ (anything (text_from table text kinds.key at))
        (λ k p _. holds_then (AtMost n) (MembersAtMost n) (one p) _ (h p)
        (λ v q a. holds_then (MembersAtMost n) (MembersAtMost n) (members_from one table text c q) _ (members-nested c q)
        (λ ms r b. omega arith)))

  record-nested : (kind n at : ℕ) (container : Bool → Located Value) → ((keyed : Bool) → Holds (AtMost n) (container keyed))
      → Holds (AtMost n) (record_from kind head table text at container)
  unfolding record_from nesting_of
  record-nested kind n at container h =
      holds_test (AtMost n) (within kinds.null kinds.true kind) _ _ (omega arith)
      (holds_test (AtMost n) (within kinds.number kinds.string kind) _ _
      (holds_then AnyText (AtMost n) (text_from table text kind at) _ (anything (text_from table text kind at)) (λ t p _. omega arith))
      (holds_test (AtMost n) (within kinds.array kinds.object kind && leb (at + head) (length table)) _ _ (h (eqb kind kinds.object)) tt))

  container-nested : (n at : ℕ) → ((p : ℕ) → Holds (AtMost n) (tree_from head n table text p)) → (keyed : Bool)
      → Holds (AtMost (suc n)) (container_from (tree_from head n table text) head table text at keyed)
  unfolding container_from nesting_of
  container-nested n at h true =
      holds_then (MembersAtMost n) (AtMost (suc n))
      (members_from (tree_from head n table text) table text (pair_at table (at + 1)) (at + head)) _
      (members-nested (tree_from head n table text) n h (pair_at table (at + 1)) (at + head)) (λ ms p a. omega arith)
  container-nested n at h false =
      holds_then (ValuesAtMost n) (AtMost (suc n)) (values_from (tree_from head n table text) (pair_at table (at + 1)) (at + head)) _
      (values-nested (tree_from head n table text) n h (pair_at table (at + 1)) (at + head)) (λ vs p a. omega arith)

  tree-nested : (levels at : ℕ) → Holds (AtMost levels) (tree_from head levels table text at)
  unfolding tree_from
  tree-nested zero at = record-nested (byte_at table at) 0 at (λ keyed. none) (λ keyed. tt)
  tree-nested (suc n) at =
      record-nested (byte_at table at) (suc n) at (container_from (tree_from head n table text) head table text at)
      (container-nested n at (tree-nested n))

  pub nested-tree : (v : Value) → tree_of head table text ≡ some v → nesting_of v ≤ max_nesting
  unfolding tree_of
  nested-tree v h = go (tree_from head max_nesting table text 0) (tree-nested max_nesting 0) h
    where
      go : (m : Located Value) → Holds (AtMost max_nesting) m
          → ◌≡◌ {A = Option Value}
          (elim m as (λ _. Option Value) [
            | none ↦ none
            | some p ↦ elim (eqb p.1 (length table)) as (λ _. Option Value) [ true ↦ some p.0 | false ↦ none ]
          ])
          (some v)
          → nesting_of v ≤ max_nesting
      go none d e = clash (cc)
      go (some p) d e = test (eqb p.1 (length table)) e
        where
          test : (t : Bool) → ◌≡◌ {A = Option Value} (elim t as (λ _. Option Value) [ true ↦ some p.0 | false ↦ none ]) (some v)
              → nesting_of v ≤ max_nesting
          test true f = let z : p.0 ≡ v = cc in subst (λ w. nesting_of w ≤ max_nesting) z d
          test false f = clash (cc)

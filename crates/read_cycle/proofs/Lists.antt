-- The loop over the members of a container, elements and fields alike: its invariant, and one law for each way out of a turn.
use mathlib.Core.Path.{◌≡◌, refl, sym, ap, ◌∙◌}
use Prim.Native.Nat.{ℕ, suc, ◌+◌, ◌*◌, ◌-◌, ◌≤◌, ◌<◌}
use mathlib.Core.Bool.{false}
use mathlib.Core.List.{List, [], ◌∷◌, ◌++◌}
use native.Mathlib.Omega.{arith}
use lib.Dec.{eqb}
use lib.ListN.{length}
use Rattle.rules.specs.Sizes.{max_items}
use Rattle.rules.specs.Refusals.{Read, got}
use Rattle.rules.specs.Characters.{after_gap}
use Rattle.rules.specs.Tree.{Node, no-elements, element, no_fields, field}
use Rattle.rules.specs.Bytes.{byte_at}
use Rattle.rules.specs.Reading.{the_end, FieldRead, fields_of, elements_from}
use Rattle.doc_items.specs.Holds.{ElementsAt, FieldsAt}
use Rattle.doc_items.specs.Moving.{Grown, Agree, move-elements, move-fields}
use Rattle.doc_items.specs.Joining.{no-seam, elements-join, fields_join}
use Rattle.text_chars.specs.Parts.{part, back, part_length, back-length}
use Rattle.doc_items.specs.Parts.{numbers, letters, agree-back, agree-kept, grown-back, grown-kept}
use Rattle.read_cycle.specs.Clauses.{Free, Asked, Reached, parted_after}
use Rattle.read_cycle.proofs.Members as M

-- how members stand in a table
pub record Holding (A : Type 0) : Type 1 where
  pub H : (ℕ → ℕ) → (ℕ → ℕ) → ℕ → ℕ → ℕ → ℕ → List A → Type 0
  pub none : (g h : ℕ → ℕ) (lo hi i : ℕ) → H g h lo hi i i []
  pub snoc : (g h : ℕ → ℕ) (lo hi i j k : ℕ) (ms : List A) (m : A) → H g h lo hi i j ms → H g h lo hi j k (m ∷ []) → H g h lo hi i k (ms ++ (m ∷ []))
  pub move : (g g' h h' : ℕ → ℕ) (lo hi lo' hi' : ℕ) → Grown h h' lo hi lo' hi' → (d i end : ℕ) (ms : List A) → Agree g g' d i end
      → H g h lo hi i end ms → H g' h' lo' hi' (i + d) (end + d) ms

pub elements-none : (g h : ℕ → ℕ) (lo hi i : ℕ) → ElementsAt g h lo hi Free i i (elements_from [])
unfolding elements_from
elements-none g h lo hi i = no-seam g h lo hi Free i

pub one-element : (n : Node) → elements_from (n ∷ []) ≡ element n no-elements
unfolding elements_from
one-element n = refl

abbrev pub elements_held : Holding Node
elements_held = record {
  H = λ g h lo hi i end ns. ElementsAt g h lo hi Free i end (elements_from ns);
  none = elements-none;
  snoc = λ g h lo hi i j k ns n a b.
      rw (M.elements-snoc ns n) (elements-join g h lo hi Free i j k (elements_from ns) (element n no-elements) a (rw (one-element n) at b));
  move = λ g g' h h' lo hi lo' hi' G d i end ns a x. move-elements Free g g' G d (elements_from ns) i end a x;
}

pub fields-none : (g h : ℕ → ℕ) (lo hi i : ℕ) → FieldsAt g h lo hi Free i i (fields_of [])
unfolding fields_of
fields-none g h lo hi i = no-seam g h lo hi Free i

pub one_field : (m : FieldRead) → fields_of (m ∷ []) ≡ field m.key m.value no_fields
unfolding fields_of
one_field m = refl

abbrev pub fields_held : Holding FieldRead
fields_held = record {
  H = λ g h lo hi i end ms. FieldsAt g h lo hi Free i end (fields_of ms);
  none = fields-none;
  snoc = λ g h lo hi i j k ms m a b.
      rw (M.fields_snoc ms m) (fields_join g h lo hi Free i j k (fields_of ms) (field m.key m.value no_fields) a (rw (one_field m) at b));
  move = λ g g' h h' lo hi lo' hi' G d i end ms a x. move-fields Free g g' G d (fields_of ms) i end a x;
}

-- ---- the loop

pub record ListInv {A : Type 0} (K : Holding A) (closing : ℕ) (member_at : ℕ → ℕ → Read A) (s : List ℕ) (at₀ items₀ : ℕ) (table₀ text₀ : List ℕ) (at items : ℕ)
    (table text : List ℕ) : Type 0 where
  pub done : List A
  pub rest : M.Rest closing member_at s at₀ items₀ at items done
  pub held : K.H (numbers table) (letters (2 * at₀) text) (2 * at₀) (2 * at) 0 (items - items₀) done
  pub behind : at₀ ≤ at
  pub inside : at ≤ length s
  pub more : items₀ ≤ items
  pub few : items ≤ max_items
  pub kept_table : length table ≡ length table₀
  pub kept-text : length text ≡ length text₀

-- a member that was read, in the parts that were lent for it
pub record MemberRead {A : Type 0} (K : Holding A) (closing : ℕ) (member_at : ℕ → ℕ → Read A) (s : List ℕ) (at items : ℕ) (table text : List ℕ) (after n : ℕ) : Type 0 where
  pub member : A
  pub is : parted_after closing s (member_at at items) ≡ got member after n
  pub reached : Reached s (suc at) items after n
  pub held : K.H (numbers table) (letters (2 * at) text) (2 * at) (2 * after) 0 (n - items) (member ∷ [])

-- the members so far leave room in the table and the text part
module _ {A : Type 0} {K : Holding A} {closing : ℕ} {member_at : ℕ → ℕ → Read A} {s : List ℕ} {at₀ left items₀ : ℕ} {table₀ text₀ : List ℕ} {at items : ℕ} {x t : List ℕ}
    (a : Asked s at₀ left items₀ table₀ text₀) (I : ListInv K closing member_at s at₀ items₀ table₀ text₀ at items x t) where
  pub list-in-table : 8 * (items - items₀) ≤ length x
  list-in-table = omega (arith, a.table-room, I.kept_table, I.few, I.more)

  pub list-in-text : 2 * (at - at₀) ≤ length t
  list-in-text = omega (arith, a.text-room, I.kept-text, I.inside, I.behind)

module _ {A : Type 0} (K : Holding A) (closing : ℕ) (member_at : ℕ → ℕ → Read A) {s : List ℕ} {at₀ left items₀ : ℕ} {table₀ text₀ : List ℕ}
    (a : Asked s at₀ left items₀ table₀ text₀) where
  pub list-start : (at : ℕ) → at ≡ after_gap s at₀ → at₀ ≤ at → at ≤ length s → ListInv K closing member_at s at₀ items₀ table₀ text₀ at items₀ table₀ text₀
  list-start at e l m = record {
    done = [];
    rest = rw e (M.rest-start closing member_at s at₀ items₀);
    held = let z : items₀ - items₀ ≡ 0 = omega arith in rw z (K.none (numbers table₀) (letters (2 * at₀) text₀) (2 * at₀) (2 * at) 0);
    behind = l;
    inside = m;
    more = omega arith;
    few = a.few;
    kept_table = refl;
    kept-text = refl;
  }

  module _ {at items : ℕ} {x t : List ℕ} (I : ListInv K closing member_at s at₀ items₀ table₀ text₀ at items x t) {y z : List ℕ} {after n : ℕ}
      (m : MemberRead K closing member_at s at items y z after n)
      (ly : length y ≡ length (part (8 * (items - items₀)) x)) (lz : length z ≡ length (part (2 * (at - at₀)) t))
      (forward : (p i : ℕ) (b : A) (end k : ℕ) → member_at p i ≡ got b end k → p < end) where
    in_table : 8 * (items - items₀) ≤ length x
    in_table = list-in-table a I

    in-text : 2 * (at - at₀) ≤ length t
    in-text = list-in-text a I

    there : 2 * at₀ + 2 * (at - at₀) ≡ 2 * at
    there = omega (arith, I.behind)

    abbrev X : List ℕ
    X = back (8 * (items - items₀)) x y

    abbrev T : List ℕ
    T = back (2 * (at - at₀)) t z

    kept : K.H (numbers X) (letters (2 * at₀) T) (2 * at₀) (2 * after) 0 (items - items₀) I.done
    kept =
        let e : 0 + 0 ≡ 0 = omega arith in
        let f : items - items₀ + 0 ≡ items - items₀ = omega arith in
        rw (e, f) at (K.move (numbers x) (numbers X) (letters (2 * at₀) t) (letters (2 * at₀) T) (2 * at₀) (2 * at) (2 * at₀) (2 * after)
        (grown-kept t z (2 * at₀) (2 * (at - at₀)) in-text (2 * at₀) (2 * at) (2 * at₀) (2 * after) (omega arith) (omega (arith, there)) (omega arith)
        (omega (arith, m.reached.forward))) 0 0 (items - items₀) I.done
        (agree-kept x y (items - items₀) in_table 0 (items - items₀) (omega arith)) I.held)

    added : K.H (numbers X) (letters (2 * at₀) T) (2 * at₀) (2 * after) (items - items₀) (n - items₀) (m.member ∷ [])
    added =
        let e : 0 + (items - items₀) ≡ items - items₀ = omega arith in
        let f : n - items + (items - items₀) ≡ n - items₀ = omega (arith, m.reached.more, I.more) in
        let h : K.H (numbers y) (letters (2 * at₀ + 2 * (at - at₀)) z) (2 * at) (2 * after) 0 (n - items) (m.member ∷ []) = rw there m.held in
        rw (e, f) at (K.move (numbers y) (numbers X) (letters (2 * at₀ + 2 * (at - at₀)) z) (letters (2 * at₀) T) (2 * at) (2 * after) (2 * at₀) (2 * after)
        (grown-back t z (2 * at₀) (2 * (at - at₀)) in-text (2 * at) (2 * after) (2 * at₀) (2 * after) (omega (arith, there)) (omega (arith, I.behind)) (omega arith))
        (items - items₀) 0 (n - items) (m.member ∷ []) (agree-back x y (items - items₀) in_table 0 (n - items)) h)

    pub list-turn : eqb (byte_at s at) closing ≡ false → eqb (byte_at s at) the_end ≡ false → ListInv K closing member_at s at₀ items₀ table₀ text₀ after n X T
    list-turn c d = record {
      done = I.done ++ (m.member ∷ []);
      rest = M.rest-turn closing member_at s I.rest c d forward m.is (omega (arith, m.reached.forward)) m.reached.inside;
      held = K.snoc (numbers X) (letters (2 * at₀) T) (2 * at₀) (2 * after) 0 (items - items₀) (n - items₀) I.done m.member kept added;
      behind = omega (arith, I.behind, m.reached.forward);
      inside = m.reached.inside;
      more = omega (arith, I.more, m.reached.more);
      few = m.reached.few;
      kept_table = back-length (8 * (items - items₀)) x y in_table ly ∙ I.kept_table;
      kept-text = back-length (2 * (at - at₀)) t z in-text lz ∙ I.kept-text;
    }

-- ---- at the end

-- the bounds of the texts may grow
pub list-wider : {A : Type 0} (K : Holding A) (g h : ℕ → ℕ) (lo hi hi' i end : ℕ) (ms : List A) → hi ≤ hi' → K.H g h lo hi i end ms → K.H g h lo hi' i end ms
list-wider K g h lo hi hi' i end ms l x =
    let e : i + 0 ≡ i = omega arith in
    let f : end + 0 ≡ end = omega arith in
    rw (e, f) at (K.move g g h h lo hi lo hi' (record { low = omega arith; high = l; text = λ p u v. refl }) 0 i end ms
    (λ k u v. let w : k + 8 * 0 ≡ k = omega arith in ap g (sym w)) x)

-- what a reader is lent for a member
pub list-asks : {A : Type 0} {K : Holding A} {closing : ℕ} {member_at : ℕ → ℕ → Read A} {s : List ℕ} {at₀ left items₀ : ℕ} {table₀ text₀ : List ℕ} {at items : ℕ} {x t : List ℕ}
    → Asked s at₀ left items₀ table₀ text₀ → ListInv K closing member_at s at₀ items₀ table₀ text₀ at items x t
    → Asked s at left items (part (8 * (items - items₀)) x) (part (2 * (at - at₀)) t)
list-asks {A} {K} {closing} {member_at} {s} {at₀} {left} {items₀} {table₀} {text₀} {at} {items} {x} {t} a I = record {
  short = a.short;
  inside = I.inside;
  nested = a.nested;
  few = I.few;
  table-room = omega (arith, a.table-room, I.kept_table, I.more, part_length (8 * (items - items₀)) x);
  text-room = omega (arith, a.text-room, I.kept-text, I.behind, I.inside, part_length (2 * (at - at₀)) t);
}

-- What the jobs come to, case by case.
use Rattle.std.specs.Prelude.{◌≡◌, refl, ℕ, ◌≤◌, List, [], ◌∷◌, Bool, true, false, ◌&&◌, leb, ltb, length}
use Rattle.std.proofs.Common.{sym, subst, ◌∙◌, arith, leb-true}
use Rattle.std.proofs.Math.Path.{ap}
use Rattle.std.proofs.Math.Option.{Option, none, some}
use Rattle.answers.specs.Theory.Sound.{clash}
use Rattle.rules.specs.Sizes.{max_nesting, max_path}
use Rattle.rules.specs.Bytes.{Text}
use Rattle.rules.specs.Refusals.{Refusal, placed, nowhere, number_of, Scan, ok, refused, and_then}
use Rattle.rules.specs.Utf8.{ill_formed}
use Rattle.rules.specs.Characters.{after_inline}
use Rattle.rules.specs.Paths.{Element, Segment, segments_at, elements_of, judge, judged, texts_of, path_text}
use Rattle.rules.specs.Values.{Value, scalar, array_of, object_of, Members, nesting_of, text_size}
use Rattle.rules.specs.Sheet.{texts}
use Rattle.rules.specs.Jobs.{room_of}
use Rattle.rules.specs.NamedValues.{value_at, Distinct, DistinctAnswer}
use Rattle.rules_tables.specs.SizedTables.{sized_size, sized_records, sized_tree, sized_fits}
use Rattle.rules_tables.specs.Edits.{Edit, replace, remove, append, says, is_simple, is_object, above, set_at, Outcome, becomes, became}
use Rattle.rules_tables.specs.Edits.{edited}
use Rattle.rules_tables.specs.Jobs.{path_names, edit_numbers}
use Rattle.theory.specs.Layout.{both_true}
use Rattle.theory.specs.Scanning.{Among, among-all}
use Rattle.theory.specs.PathNumbers.{path_numbers, path-text-numbers}
use Rattle.theory_text.specs.Choices.{by-test, by-option}
use Rattle.theory_tables.specs.Edits.{parent-object, set-distinct}
use Rattle.theory_tables.specs.Sized.{sized-complete}

-- ---- the path text

-- what is read of a path text, as look-up reads it
pub path-read : (path : List ℕ) (names : List Text) (end : ℕ) → path_names path ≡ ok names end
    → (ill_formed path ≡ none) × (path_text path ≡ ok names end)
unfolding path_names
path-read path names end h = go (ill_formed path) refl h
  where
    go : (o : Option ℕ) → ill_formed path ≡ o
        → ◌≡◌ {A = Scan (List Text)} (elim o as (λ _. Scan (List Text)) [ some place ↦ refused (placed 2 place) | none ↦ path_text path ])
        (ok names end)
        → (ill_formed path ≡ none) × (path_text path ≡ ok names end)
    go none e f = (e, f)
    go (some place) e f = clash (cc)

-- or refused
pub data PathRefused (path : List ℕ) (x : Refusal) : Type 0 where
  ill-formed : (place : ℕ) → ill_formed path ≡ some place → x ≡ placed 2 place → PathRefused path x
  unread : ill_formed path ≡ none → path_text path ≡ refused x → PathRefused path x

pub path-refused : (path : List ℕ) (x : Refusal) → path_names path ≡ refused x → PathRefused path x
unfolding path_names
path-refused path x h = go (ill_formed path) refl h
  where
    go : (o : Option ℕ) → ill_formed path ≡ o
        → ◌≡◌ {A = Scan (List Text)} (elim o as (λ _. Scan (List Text)) [ some place ↦ refused (placed 2 place) | none ↦ path_text path ])
        (refused x)
        → PathRefused path x
    go none e f = unread e f
    go (some place) e f = let z : placed 2 place ≡ x = cc in ill-formed place e (sym z)

pub path-numbers : (path : List ℕ) (x : Refusal) → path_names path ≡ refused x → Among edit_numbers x
path-numbers path x h = go (path-refused path x h)
  where
    go : PathRefused path x → Among edit_numbers x
    go (ill-formed place e z) = subst (Among edit_numbers) (sym z) refl
    go (unread e f) =
        among-all path_numbers edit_numbers (refl, (refl, (refl, (refl, (refl, tt))))) (number_of x) (path-text-numbers path x f)

-- a path text has an element
pub path-element : (path : List ℕ) (names : List Text) (end : ℕ) → path_names path ≡ ok names end
    → (k : Text) × (ks : List Text) × (names ≡ k ∷ ks)
unfolding path_text judge
path-element path names end h = go (segments_at false path (after_inline path 0)) (path-read path names end h).1
  where
    Some : Type 0
    Some = (k : Text) × (ks : List Text) × (names ≡ k ∷ ks)

    read : (o : Option Refusal) (e : Element) (es : List Element) (at : ℕ) → judged o (texts_of (e ∷ es)) at ≡ ok names end → Some
    read none e es at f = let z : texts_of (e ∷ es) ≡ names = cc in (e.text, texts_of es, sym z)
    read (some x) e es at f = clash (cc)

    elements : (es : List Element) (at : ℕ) → judged (judge 0 max_path es) (texts_of es) at ≡ ok names end → Some
    elements [] at f = clash (cc)
    elements (e ∷ es) at f = read (judge 0 max_path (e ∷ es)) e es at f

    test : (t : Bool) (gs : List Segment) (at : ℕ)
        → ◌≡◌ {A = Scan (List Text)}
        (elim t as (λ _. Scan (List Text)) [
          | true ↦ refused (placed 3 at)
          | false ↦ judged (judge 0 max_path (elements_of gs))
              (texts_of (elements_of gs)) at
        ])
        (ok names end)
        → Some
    test true gs at f = clash (cc)
    test false gs at f = elements (elements_of gs) at f

    go : (m : Scan (List Segment))
        → and_then m (λ gs at. elim (ltb at (length path)) as (λ _. Scan (List Text)) [
          | true ↦ refused (placed 3 at)
          | false ↦ judged (judge 0 max_path (elements_of gs)) (texts_of (elements_of gs)) at
        ]) ≡ ok names end
        → Some
    go (refused x) f = clash (cc)
    go (ok gs at) f = test (ltb at (length path)) gs at f

-- ---- edits of a tree

-- what an edit that is not refused makes of a tree
pub record Changed (e : Edit) (path : List Text) (v w : Value) : Type 0 where
  pub set : set_at path (says e) (some v) ≡ some w
  pub parent : Members
  pub in-object : value_at (above path) v ≡ some (object_of parent)
  pub new-distinct : DistinctAnswer (says e)

pub data Happens (e : Edit) (path : List Text) (v : Value) : Outcome → Type 0 where
  refusal : (x : Refusal) → Among edit_numbers x → Happens e path v (Outcome.refused x)
  change : {w : Value} → Changed e path v w → Happens e path v (becomes w)

module _ (k : Text) (p : List Text) (v : Value) where
  -- with an element a tree is left
  became-some : (e : Edit) → ((w : Value) → set_at (k ∷ p) (says e) (some v) ≡ some w → Changed e (k ∷ p) v w)
      → Happens e (k ∷ p) v (became (set_at (k ∷ p) (says e) (some v)))
  unfolding set_at
  became-some e h = change (h _ refl)

  simple-distinct : (new : Value) → is_simple new ≡ true → Distinct new
  simple-distinct (scalar x) e = tt
  simple-distinct (array_of vs) e = clash (cc)
  simple-distinct (object_of ms) e = clash (cc)

  object-is : (u : Value) → is_object u ≡ true → (ms : Members) × (u ≡ object_of ms)
  object-is (scalar x) e = clash (cc)
  object-is (array_of vs) e = clash (cc)
  object-is (object_of ms) e = (ms, refl)

  pub edit-happens : (e : Edit) → Happens e (k ∷ p) v (edited e (k ∷ p) v)
  unfolding edited
  edit-happens (replace new) =
      let P = Happens (replace new) (k ∷ p) v in
      by-option P (value_at (k ∷ p) v) (λ _. refusal (nowhere 16) refl)
      (λ old named. by-test P (is_simple old && is_simple new)
      (λ simple. became-some (replace new) (λ w e.
      let (ms, in-object) = parent-object k p v old named in
      record {
        set = e;
        parent = ms;
        in-object = in-object;
        new-distinct = simple-distinct new
            (both_true (is_simple old) (is_simple new) simple).1;
      }))
      (λ _. refusal (nowhere 34) refl))
  edit-happens remove =
      by-option (Happens remove (k ∷ p) v) (value_at (k ∷ p) v) (λ _. refusal (nowhere 16) refl)
      (λ old named. became-some remove (λ w e.
      let (ms, in-object) = parent-object k p v old named in
      record { set = e; parent = ms; in-object = in-object; new-distinct = tt }))
  edit-happens (append new) =
      let P = Happens (append new) (k ∷ p) v in
      by-option P (value_at (above (k ∷ p)) v) (λ _. refusal (nowhere 16) refl)
      (λ u named. by-test P (is_object u && is_simple new)
      (λ kinds. by-option P (value_at (k ∷ p) v)
      (λ _. became-some (append new) (λ w e.
      let (object, simple) = both_true (is_object u) (is_simple new) kinds in
      let (ms, is) = object-is u object in
      record { set = e; parent = ms; in-object = named ∙ ap (λ (z : Value). some z) is; new-distinct = simple-distinct new simple }))
      (λ old _. refusal (nowhere 35) refl))
      (λ _. refusal (nowhere 34) refl))

  -- so an edited tree has no equal keys either
  pub changed-distinct : (e : Edit) (w : Value) → Distinct v → Changed e (k ∷ p) v w → Distinct w
  changed-distinct e w d c =
      let kept : DistinctAnswer (some w) = subst DistinctAnswer c.set
      (set-distinct (says e) c.new-distinct (k ∷ p) (some v) d) in kept

-- ---- rooms

pub sized-fits : (table_room text_room : ℕ) (v : Value) → sized_fits table_room text_room v ≡ true
    → (sized_size v ≤ table_room) × (text_size v ≤ text_room)
unfolding sized_fits
sized-fits a b v e =
    let (f, g) = both_true (leb (sized_size v) a) (leb (text_size v) b) e in (leb-true (sized_size v) a f, leb-true (text_size v) b g)

-- a tree that fits its rooms has a sized table
pub fitting-sized : (table_length text_length : ℕ) (v : Value) → Distinct v → nesting_of v ≤ max_nesting
    → sized_fits (room_of table_length) (room_of text_length) v ≡ true → sized_tree (sized_records 0 v) (texts v) ≡ some v
fitting-sized a b v d n f =
    let (table, text) = sized-fits (room_of a) (room_of b) v f in
    sized-complete v d n (omega (arith, table)) (omega (arith, text))

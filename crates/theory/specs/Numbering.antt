-- Numbers of unresolved values: the one numbered b is the b-th of the document's list, and there are at most 256.
use Rattle.std.specs.Prelude.{◌≡◌, refl, ℕ, zero, suc, ◌+◌, ◌≤◌, ◌<◌, List, [], ◌∷◌, ◌++◌, Bool, true, false, ◌&&◌, leb, length, drop}
use Rattle.std.proofs.Common.{sym, ap, ◌∙◌, append_assoc, append-nil, arith, length-append, drop-drop}
use Rattle.std.proofs.Math.Option.{Option, none, some}
use Rattle.std.proofs.Math.ListN.{get_elem?}
use Rattle.std.proofs.Math.Seq.{drop-append_seam}
use Rattle.answers.specs.Theory.Sound.{clash}
use Rattle.rules.specs.Sizes.{max_document}
use Rattle.rules.specs.Refusals.{placed, nowhere, Read, got, refused}
use Rattle.rules.specs.Environment.{Environment, Variable, entries_of, text_of}
use Rattle.rules.specs.Tree.{Node, simple, array, object, unresolved, Elements, no-elements, element, Fields, no_fields, field, Pieces, no_pieces, node_piece, substituted, Root, fields, elements, root_node, AllNode, AllElements, AllFields, AllPieces, number_node, number_elements, number_fields, number_pieces, number_root, first_place}
use Rattle.rules.specs.Layers.{end}
use Rattle.rules.specs.Unresolved.{Unresolved, Openness, field_openness, with_field, in_node, in_elements, in_fields, in_pieces, unresolved_in}
use Rattle.rules.specs.Documents.{Document, Setting, Input, valid, refused, of_root, read_tree, read_document, with_environment, inputs}
use Rattle.theory_text.specs.Choices.{get_elem-length, get_elem-none}

module _ {P Q : ℕ → Pieces → Type 0} (h : (b : ℕ) (ps : Pieces) → P b ps → Q b ps) where
  mutual
    pub all-node : (n : Node) → AllNode P n → AllNode Q n
    all-node (simple x) a = tt
    all-node (array es) a = all-elements es a
    all-node (object fs) a = all-fields fs a
    all-node (unresolved b ps) a = (h b ps a.0, all-pieces ps a.1)

    pub all-elements : (es : Elements) → AllElements P es → AllElements Q es
    all-elements no-elements a = tt
    all-elements (element n es) a = (all-node n a.0, all-elements es a.1)

    pub all-fields : (fs : Fields) → AllFields P fs → AllFields Q fs
    all-fields no_fields a = tt
    all-fields (field k n fs) a = (all-node n a.0, all-fields fs a.1)

    pub all-pieces : (ps : Pieces) → AllPieces P ps → AllPieces Q ps
    all-pieces no_pieces a = tt
    all-pieces (node_piece place gap n ps) a = (all-node n a.0, all-pieces ps a.1)
    all-pieces (substituted gap s ps) a = all-pieces ps a

-- ---- as many numbers are given as there are unresolved values

mutual
  unfolding number_node in_node

  pub count-node : (b : ℕ) (n : Node) (openness : Openness) → (number_node b n).1 ≡ b + length (in_node openness (number_node b n).0)
  count-node b (simple x) openness = omega arith
  count-node b (array es) openness = count-elements b es
  count-node b (object fs) openness = count-fields b fs openness no_fields
  count-node b (unresolved _ ps) openness = omega (arith, count-pieces (suc b) ps)

  pub count-elements : (b : ℕ) (es : Elements) → (number_elements b es).1 ≡ b + length (in_elements (number_elements b es).0)
  count-elements b no-elements = omega arith
  count-elements b (element n es) =
      let (n', c) = number_node b n in
      let rest = in_elements (number_elements c es).0 in
      omega (arith, count-node b n none, count-elements c es, length-append (in_node none n') rest)

  pub count-fields : (b : ℕ) (fs : Fields) (openness : Openness) (earlier : Fields)
      → (number_fields b fs).1 ≡ b + length (in_fields (number_fields b fs).0 openness earlier)
  count-fields b no_fields openness earlier = omega arith
  count-fields b (field k n fs) openness earlier =
      let (n', c) = number_node b n in
      let rest = in_fields (number_fields c fs).0 openness (with_field earlier k n') in
      let inner = field_openness openness earlier k in
      omega (arith, count-node b n inner, count-fields c fs openness (with_field earlier k n'), length-append (in_node inner n') rest)

  pub count-pieces : (b : ℕ) (ps : Pieces) → (number_pieces b ps).1 ≡ b + length (in_pieces (number_pieces b ps).0)
  count-pieces b no_pieces = omega arith
  count-pieces b (node_piece place gap n ps) =
      let (n', c) = number_node b n in
      let rest = in_pieces (number_pieces c ps).0 in
      omega (arith, count-node b n none, count-pieces c ps, length-append (in_node none n') rest)
  count-pieces b (substituted gap s ps) = count-pieces b ps

-- ---- and a number is the place in their list

-- the part of a list from the i-th on begins with xs
abbrev Part : {A : Type 0} → List A → ℕ → List A → Type 0
Part {A} l i xs = (rest : List A) × (drop i l ≡ xs ++ rest)

module _ {A : Type 0} (l : List A) (i : ℕ) (xs ys : List A) (p : Part l i (xs ++ ys)) where
  part_left : Part l i xs
  part_left = (ys ++ p.0, p.1 ∙ append_assoc xs ys p.0)

  part_right : (j : ℕ) → j ≡ i + length xs → Part l j ys
  part_right j e =
      let seam = ap (drop (length xs)) (p.1 ∙ append_assoc xs ys p.0) ∙ drop-append_seam xs (ys ++ p.0) in
      (p.0, rw e (sym (drop-drop (length xs) i l) ∙ seam))

part-head : {A : Type 0} (l : List A) (i : ℕ) (x : A) (xs : List A) → Part l i (x ∷ xs) → get_elem? l i ≡ some x
part-head [] zero x xs p = clash (cc p.1)
part-head [] (suc i) x xs p = clash (cc p.1)
part-head (y ∷ l) zero x xs p = cc p.1
part-head (y ∷ l) (suc i) x xs p = part-head l i x xs p

module _ (l : List Unresolved) where
  -- the unresolved value numbered b is the b-th of the list
  abbrev pub Stands : ℕ → Pieces → Type 0
  Stands b ps = (u : Unresolved) × (get_elem? l b ≡ some u) × (u.pieces ≡ ps)

  mutual
    unfolding number_node in_node

    stands-node : (b : ℕ) (n : Node) (openness : Openness) → Part l b (in_node openness (number_node b n).0) → AllNode Stands (number_node b n).0
    stands-node b (simple x) openness p = tt
    stands-node b (array es) openness p = stands-elements b es p
    stands-node b (object fs) openness p = stands-fields b fs openness no_fields p
    stands-node b (unresolved _ ps) openness p =
        let ps' = (number_pieces (suc b) ps).0 in
        let u : Unresolved = record { place = first_place ps'; pieces = ps'; openness = openness } in (
          (u, part-head l b u (in_pieces ps') p, refl),
          stands-pieces (suc b) ps (part_right l b (u ∷ []) (in_pieces ps') p (suc b) (omega arith)),
        )

    stands-elements : (b : ℕ) (es : Elements) → Part l b (in_elements (number_elements b es).0) → AllElements Stands (number_elements b es).0
    stands-elements b no-elements p = tt
    stands-elements b (element n es) p =
        let (n', c) = number_node b n in
        let rest = in_elements (number_elements c es).0 in (
          stands-node b n none (part_left l b (in_node none n') rest p),
          stands-elements c es (part_right l b (in_node none n') rest p c (count-node b n none)),
        )

    stands-fields : (b : ℕ) (fs : Fields) (openness : Openness) (earlier : Fields)
        → Part l b (in_fields (number_fields b fs).0 openness earlier) → AllFields Stands (number_fields b fs).0
    stands-fields b no_fields openness earlier p = tt
    stands-fields b (field k n fs) openness earlier p =
        let (n', c) = number_node b n in
        let inner = field_openness openness earlier k in
        let rest = in_fields (number_fields c fs).0 openness (with_field earlier k n') in (
          stands-node b n inner (part_left l b (in_node inner n') rest p),
          stands-fields c fs openness (with_field earlier k n') (part_right l b (in_node inner n') rest p c (count-node b n inner)),
        )

    stands-pieces : (b : ℕ) (ps : Pieces) → Part l b (in_pieces (number_pieces b ps).0) → AllPieces Stands (number_pieces b ps).0
    stands-pieces b no_pieces p = tt
    stands-pieces b (node_piece place gap n ps) p =
        let (n', c) = number_node b n in
        let rest = in_pieces (number_pieces c ps).0 in (
          stands-node b n none (part_left l b (in_node none n') rest p),
          stands-pieces c ps (part_right l b (in_node none n') rest p c (count-node b n none)),
        )
    stands-pieces b (substituted gap s ps) p = stands-pieces b ps p

stands-root : (r : Root) → AllNode (Stands (unresolved_in (number_root r))) (root_node (number_root r))
unfolding number_node unresolved_in
stands-root (fields fs) =
    let l = unresolved_in (number_root (fields fs)) in
    stands-fields l 0 fs (some (record { path = []; before = end })) no_fields ([], sym (append-nil l))
stands-root (elements es) = let l = unresolved_in (number_root (elements es)) in stands-elements l 0 es ([], sym (append-nil l))

-- ---- what is known of a setting that the inputs give

-- a document that was read: its root is numbered, and its list is of all its unresolved values
pub record Prepared (d : Document) : Type 0 where
  pub read : Root
  pub root : d.root ≡ number_root read
  pub listed : d.unresolved ≡ unresolved_in d.root
  pub at_most : length d.unresolved ≤ 256

-- P of what an input gives
abbrev Gives : {A : Type 0} → (A → Type 0) → Input A → Type 0
Gives P (valid a) = P a
Gives P (refused x) = Unit {0}

gives-root : (read : Read Root) → Gives Prepared (of_root read)
unfolding of_root
gives-root (refused x) = tt
gives-root (got r place items) = go (get_elem? d.unresolved 256) refl
  where
    d : Document
    d = record { root = number_root r; unresolved = unresolved_in (number_root r) }

    go : (o : Option Unresolved) → get_elem? d.unresolved 256 ≡ o
        → Gives Prepared (elim o as (λ _. Input Document) [ none ↦ valid d | some u ↦ refused (placed 8 u.place) ])
    go none e = record { read = r; root = refl; listed = refl; at_most = get_elem-none d.unresolved 256 e }
    go (some u) e = tt

gives-document : (s : List ℕ) → Gives Prepared (read_document s)
unfolding read_document
gives-document s = gives-root (read_tree s 1 0)

gives-setting : (env : Environment) (i : Input Document) → Gives Prepared i
    → Gives {A = Setting} (λ x. Prepared x.document) (with_environment env i)
gives-setting env (valid d) p = p
gives-setting env (refused x) p = tt

gives-inputs : (others : Bool) (document environment : List ℕ)
    → Gives {A = Setting} (λ x. Prepared x.document) (inputs others document environment)
unfolding inputs
gives-inputs others document environment = go (others && leb (length document) max_document) (entries_of environment)
  where
    go : (t : Bool) (o : Option (List Variable)) → Gives {A = Setting} (λ x. Prepared x.document) (elim t as (λ _. Input Setting) [
      | false ↦ refused (nowhere 1)
      | true ↦ elim o as (λ _. Input Setting) [ none ↦ refused (nowhere 1) | some es ↦ with_environment (text_of es) (read_document document) ]
    ])
    go false o = tt
    go true none = tt
    go true (some es) = gives-setting (text_of es) (read_document document) (gives-document document)

pub prepared : (others : Bool) (document environment : List ℕ) (x : Setting) → inputs others document environment ≡ valid x
    → Prepared x.document
prepared others document environment x e = rw e at (gives-inputs others document environment)

module _ (d : Document) (p : Prepared d) where
  -- the unresolved value numbered b is the b-th of the list
  pub numbers : AllNode (Stands d.unresolved) (root_node d.root)
  numbers = rw (p.listed, p.root) (stands-root p.read)

  pub numbers-below : AllNode (λ b ps. b < length d.unresolved) (root_node d.root)
  numbers-below = all-node (λ b ps s. get_elem-length d.unresolved b s.0 s.1) (root_node d.root) numbers

-- The places of a document's unresolved values, numbered and listed, are places in its text or its length; and so is the place where its
-- inputs are refused.
use Rattle.std.specs.Prelude.{◌≡◌, ℕ, suc, ◌≤◌, Bool, ◌&&◌, List, length}
use Rattle.std.proofs.Math.Option.{none}
use Rattle.std.proofs.Common.{arith}
use Rattle.std.proofs.Math.Dec.{leb}
use Rattle.std.proofs.Math.ListN.{get_elem?}
use Rattle.rules.specs.Sizes.{max_unresolved, max_document}
use Rattle.rules.specs.Refusals.{Refusal, nowhere, place_of, Read, refused}
use Rattle.rules.specs.Environment.{Environment, entries_of, text_of}
use Rattle.rules.specs.Tree.{Node, simple, array, object, unresolved, Elements, no-elements, element, Fields, no_fields, field}
use Rattle.rules.specs.Tree.{Pieces, no_pieces, node_piece, substituted, Root, fields, elements, first_place}
use Rattle.rules.specs.Tree.{AllElements, AllFields, AllPieces, number_node, number_elements, number_fields, number_pieces, number_root}
use Rattle.rules.specs.Unresolved.{Openness, field_openness, with_field, in_node, in_elements, in_fields, in_pieces, unresolved_in}
use Rattle.rules.specs.Documents.{Document, Setting, Input, valid, refused, limited, of_root, read_document, with_environment, inputs}
use Rattle.theory_text.specs.Choices.{by-test, by-option}
use Rattle.theory.specs.Reach.{Each, each_append, each_at}
use Rattle.theory.specs.RuleRefusals.{PlacesIn, Placed}
use Rattle.theory.specs.ReadingPlaces.{In, PiecesIn, NodeIn, RootIn, Kept, gots, read-refuses, tree-in}

module _ (s : List ℕ) where
  -- ---- numbers change no place

  mutual
    unfolding number_node

    number-node : (b : ℕ) (n : Node) → NodeIn s n → NodeIn s (number_node b n).0
    number-node b (simple x) w = tt
    number-node b (array es) w = number-elements b es w
    number-node b (object fs) w = number-fields b fs w
    number-node b (unresolved c ps) w = (number-places (suc b) ps w.0, number-pieces (suc b) ps w.1)

    number-elements : (b : ℕ) (es : Elements) → AllElements (PiecesIn s) es → AllElements (PiecesIn s) (number_elements b es).0
    number-elements b no-elements w = tt
    number-elements b (element n es) w = (number-node b n w.0, number-elements (number_node b n).1 es w.1)

    number-fields : (b : ℕ) (fs : Fields) → AllFields (PiecesIn s) fs → AllFields (PiecesIn s) (number_fields b fs).0
    number-fields b no_fields w = tt
    number-fields b (field k n fs) w = (number-node b n w.0, number-fields (number_node b n).1 fs w.1)

    number-pieces : (b : ℕ) (ps : Pieces) → AllPieces (PiecesIn s) ps → AllPieces (PiecesIn s) (number_pieces b ps).0
    number-pieces b no_pieces w = tt
    number-pieces b (node_piece place gap n ps) w = (number-node b n w.0, number-pieces (number_node b n).1 ps w.1)
    number-pieces b (substituted gap x ps) w = number-pieces b ps w

    number-places : (b : ℕ) (ps : Pieces) → PlacesIn (In s) ps → PlacesIn (In s) (number_pieces b ps).0
    number-places b no_pieces w = tt
    number-places b (node_piece place gap n ps) w = (w.0, number-places (number_node b n).1 ps w.1)
    number-places b (substituted gap x ps) w = (w.0, number-places b ps w.1)

  number-root : (r : Root) → RootIn s r → RootIn s (number_root r)
  unfolding number_node
  number-root (fields fs) w = number-fields 0 fs w
  number-root (elements es) w = number-elements 0 es w

  -- ---- the list of unresolved values

  first-in : (ps : Pieces) → PlacesIn (In s) ps → In s (first_place ps)
  first-in no_pieces w = omega arith
  first-in (node_piece place gap n ps) w = w.0
  first-in (substituted gap x ps) w = w.0

  mutual
    unfolding in_node

    listed-node : (openness : Openness) (n : Node) → NodeIn s n → Each (Placed (In s)) (in_node openness n)
    listed-node openness (simple x) w = tt
    listed-node openness (array es) w = listed-elements es w
    listed-node openness (object fs) w = listed-fields fs openness no_fields w
    listed-node openness (unresolved b ps) w = ((first-in ps w.0, w.0), listed-pieces ps w.1)

    listed-elements : (es : Elements) → AllElements (PiecesIn s) es → Each (Placed (In s)) (in_elements es)
    listed-elements no-elements w = tt
    listed-elements (element n es) w =
        each_append (Placed (In s)) (in_node none n) (in_elements es) (listed-node none n w.0) (listed-elements es w.1)

    listed-fields : (fs : Fields) (openness : Openness) (earlier : Fields) → AllFields (PiecesIn s) fs → Each (Placed (In s)) (in_fields fs openness earlier)
    listed-fields no_fields openness earlier w = tt
    listed-fields (field k n fs) openness earlier w =
        each_append (Placed (In s)) (in_node (field_openness openness earlier k) n) (in_fields fs openness (with_field earlier k n))
        (listed-node (field_openness openness earlier k) n w.0) (listed-fields fs openness (with_field earlier k n) w.1)

    listed-pieces : (ps : Pieces) → AllPieces (PiecesIn s) ps → Each (Placed (In s)) (in_pieces ps)
    listed-pieces no_pieces w = tt
    listed-pieces (node_piece place gap n ps) w =
        each_append (Placed (In s)) (in_node none n) (in_pieces ps) (listed-node none n w.0) (listed-pieces ps w.1)
    listed-pieces (substituted gap x ps) w = listed-pieces ps w

  listed-root : (r : Root) → RootIn s r → Each (Placed (In s)) (unresolved_in r)
  unfolding unresolved_in
  listed-root (fields fs) w = listed-fields fs _ no_fields w
  listed-root (elements es) w = listed-elements es w

  -- ---- the document

  -- an input whose refusal has a place inside, or that has Q
  data Given {A : Type 0} (Q : A → Type 0) : Input A → Type 0 where
    gives : {a : A} → Q a → Given Q (valid a)
    input-refuses : {x : Refusal} → In s (place_of x) → Given Q (refused x)

  abbrev ListIn : Document → Type 0
  ListIn d = Each (Placed (In s)) d.unresolved

  limited-in : (d : Document) → ListIn d → Given ListIn (limited d)
  unfolding limited
  limited-in d w =
      by-option (Given ListIn) (get_elem? d.unresolved max_unresolved) (λ e. gives w)
      (λ u e. input-refuses (each_at (Placed (In s)) d.unresolved w max_unresolved u e).0)

  root-given : {m : Read Root} → Kept s (RootIn s) m → Given ListIn (of_root m)
  unfolding of_root
  root-given (gots {a = r} h w) =
      let n = number_root r in
      limited-in (record { root = n; unresolved = unresolved_in n }) (listed-root n (number-root r w))
  root-given (read-refuses h) = input-refuses h

  document-in : Given ListIn (read_document s)
  unfolding read_document
  document-in = root-given (tree-in s 1 0)

  abbrev SettingIn : Setting → Type 0
  SettingIn x = ListIn x.document

  with-environment : (env : Environment) {m : Input Document} → Given ListIn m → Given SettingIn (with_environment env m)
  with-environment env (gives w) = gives w
  with-environment env (input-refuses h) = input-refuses h

  inputs_in : (others : Bool) (e : List ℕ) → Given SettingIn (inputs others s e)
  unfolding inputs
  inputs_in others e =
      by-test (Given SettingIn) (others && leb (length s) max_document)
      (λ f. by-option (Given SettingIn) (entries_of e) (λ g. input-refuses {x = nowhere 1} (omega arith)) (λ es g. with-environment (text_of es) document-in))
      (λ f. input-refuses {x = nowhere 1} (omega arith))

  -- a refusal of the inputs has its place in the document, or at its end
  pub inputs-places : (others : Bool) (e : List ℕ) (x : Refusal) → inputs others s e ≡ refused x → place_of x ≤ length s
  inputs-places others e x h = go (rw h at (inputs_in others e))
    where
      go : Given SettingIn (refused x) → In s (place_of x)
      go (input-refuses k) = k

  -- the first bytes of the unresolved values stand in it, and so do their pieces
  pub unresolved-places : (others : Bool) (e : List ℕ) (x : Setting) → inputs others s e ≡ valid x → Each (Placed (In s)) x.document.unresolved
  unresolved-places others e x h = go (rw h at (inputs_in others e))
    where
      go : Given SettingIn (valid x) → SettingIn x
      go (gives w) = w

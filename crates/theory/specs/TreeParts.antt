-- What holds of all unresolved values inside the parts of a tree holds inside what the parts make: joined pieces, and the members that were read.
use mathlib.Core.List.{List, [], ◌∷◌}
use Rattle.std.specs.Prelude.{ℕ}
use Rattle.rules.specs.Tree.{Key, Node, simple, array, object, unresolved, Elements, no-elements, element, Fields, no_fields, field}
use Rattle.rules.specs.Tree.{Pieces, no_pieces, node_piece, substituted, join_elements, join_fields, AllNode, AllElements, AllFields, AllPieces}
use Rattle.rules.specs.Reading.{elements_joined, fields_joined, FieldRead, inside, fields_of, elements_from}
use Rattle.theory.specs.Reach.{Each}

module _ (Q : ℕ → Pieces → Type 0) where
  join-elements : (es fs : Elements) → AllElements Q es → AllElements Q fs → AllElements Q (join_elements es fs)
  unfolding join_elements
  join-elements no-elements fs a b = b
  join-elements (element n es) fs a b = (a.0, join-elements es fs a.1 b)

  join-fields : (fs gs : Fields) → AllFields Q fs → AllFields Q gs → AllFields Q (join_fields fs gs)
  unfolding join_fields
  join-fields no_fields gs a b = b
  join-fields (field k n fs) gs a b = (a.0, join-fields fs gs a.1 b)

  pub elements-joined : (ps : Pieces) → AllPieces Q ps → AllElements Q (elements_joined ps)
  unfolding elements_joined
  elements-joined no_pieces a = tt
  elements-joined (node_piece place gap (simple x) ps) a = elements-joined ps a.1
  elements-joined (node_piece place gap (array es) ps) a = join-elements es (elements_joined ps) a.0 (elements-joined ps a.1)
  elements-joined (node_piece place gap (object fs) ps) a = elements-joined ps a.1
  elements-joined (node_piece place gap (unresolved b qs) ps) a = elements-joined ps a.1
  elements-joined (substituted gap x ps) a = elements-joined ps a

  pub fields-joined : (ps : Pieces) → AllPieces Q ps → AllFields Q (fields_joined ps)
  unfolding fields_joined
  fields-joined no_pieces a = tt
  fields-joined (node_piece place gap (simple x) ps) a = fields-joined ps a.1
  fields-joined (node_piece place gap (array es) ps) a = fields-joined ps a.1
  fields-joined (node_piece place gap (object fs) ps) a = join-fields fs (fields_joined ps) a.0 (fields-joined ps a.1)
  fields-joined (node_piece place gap (unresolved b qs) ps) a = fields-joined ps a.1
  fields-joined (substituted gap x ps) a = fields-joined ps a

  -- ---- the members of a container

  pub inside-all : (ks : List Key) (n : Node) → AllNode Q n → AllNode Q (inside ks n)
  unfolding inside
  inside-all [] n w = w
  inside-all (k ∷ ks) n w = (inside-all ks n w, tt)

  pub fields-all : (ms : List FieldRead) → Each (λ (m : FieldRead). AllNode Q m.value) ms → AllFields Q (fields_of ms)
  unfolding fields_of
  fields-all [] w = tt
  fields-all (m ∷ ms) w = (w.0, fields-all ms w.1)

  pub elements-all : (ns : List Node) → Each (AllNode Q) ns → AllElements Q (elements_from ns)
  unfolding elements_from
  elements-all [] w = tt
  elements-all (n ∷ ns) w = (w.0, elements-all ns w.1)

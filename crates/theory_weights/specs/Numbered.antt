-- A numbered tree weighs its own nodes and the answers of its numbers, each once; so does each node that is a piece of an unresolved value.
use Rattle.std.specs.Prelude.{◌≡◌, ℕ, suc, ◌+◌, ◌-◌, ◌≤◌, []}
use Rattle.std.proofs.Math.Path.{ap}
use Rattle.std.proofs.Math.Option.{Option, none, some}
use Rattle.std.proofs.Common.{arith}
use Rattle.std.proofs.Math.ListN.{length, get_elem?}
use Rattle.rules.specs.Tree.{Node, simple, array, object, unresolved, Elements, no-elements, element, Fields, no_fields, field, Pieces, no_pieces, node_piece, substituted, Root, fields, elements, root_node}
use Rattle.rules.specs.Tree.{number_node, number_elements, number_fields, number_pieces, number_root, AllNode, AllElements, AllFields, AllPieces}
use Rattle.rules.specs.Values.{Answer}
use Rattle.rules.specs.Weights.{weight_of_answer, weight_of, weight_of_elements, weight_of_fields}
use Rattle.rules.specs.Layers.{end}
use Rattle.rules.specs.Unresolved.{Unresolved, Openness, field_openness, with_field, in_node, in_elements, in_fields, in_pieces, unresolved_in}
use Rattle.rules.specs.Documents.{Document}
use Rattle.theory.specs.Numbering.{Prepared, count-elements, count-fields, count-pieces}
use Rattle.theory.specs.Reach.{Each, each_append, each_at}
use Rattle.theory_weights.specs.Sums.{sum_below, sum-rises}

-- no answer is known
abbrev pub unknown : ℕ → Option Answer
unknown b = none

-- the nodes of a tree, without those in the pieces of its unresolved values
abbrev pub nodes_of : Node → ℕ
nodes_of n = weight_of unknown n

module _ (known : ℕ → Option Answer) where
  -- what the answers of the numbers below n weigh
  abbrev pub answers_weigh : ℕ → ℕ
  answers_weigh n = sum_below (λ b. weight_of_answer (known b)) n

  rises : (b c k : ℕ) → c ≡ b + k → answers_weigh b ≤ answers_weigh c
  rises b c k e = rw e (sum-rises (λ b. weight_of_answer (known b)) b k)

  pieces-rise : (b : ℕ) (ps : Pieces) → answers_weigh b ≤ answers_weigh (number_pieces b ps).1
  pieces-rise b ps = rises b (number_pieces b ps).1 (length (in_pieces (number_pieces b ps).0)) (count-pieces b ps)

  -- ---- numbered from b on

  mutual
    unfolding number_node weight_of sum_below

    pub node-weighs : (b : ℕ) (n : Node)
        → weight_of known (number_node b n).0 + answers_weigh b ≤ nodes_of (number_node b n).0 + answers_weigh (number_node b n).1
    node-weighs b (simple x) = omega arith
    node-weighs b (array es) = omega (arith, elements-weigh b es)
    node-weighs b (object fs) = omega (arith, fields-weigh b fs)
    node-weighs b (unresolved _ ps) = omega (arith, pieces-rise (suc b) ps)

    elements-weigh : (b : ℕ) (es : Elements)
        → weight_of_elements known (number_elements b es).0 + answers_weigh b
        ≤ weight_of_elements unknown (number_elements b es).0 + answers_weigh (number_elements b es).1
    elements-weigh b no-elements = omega arith
    elements-weigh b (element n es) = omega (arith, node-weighs b n, elements-weigh (number_node b n).1 es)

    fields-weigh : (b : ℕ) (fs : Fields)
        → weight_of_fields known (number_fields b fs).0 + answers_weigh b
        ≤ weight_of_fields unknown (number_fields b fs).0 + answers_weigh (number_fields b fs).1
    fields-weigh b no_fields = omega arith
    fields-weigh b (field k n fs) = omega (arith, node-weighs b n, fields-weigh (number_node b n).1 fs)

  -- ---- the nodes among the pieces of unresolved values

  -- each weighs no more than its own nodes and m
  abbrev pub LightPieces : ℕ → Pieces → Type 0
  LightPieces m no_pieces = Unit {0}
  LightPieces m (node_piece place gap n ps) = (weight_of known n ≤ nodes_of n + m) × LightPieces m ps
  LightPieces m (substituted gap x ps) = LightPieces m ps

  module _ (last : ℕ) where
    abbrev Light : ℕ → Pieces → Type 0
    Light b ps = LightPieces (answers_weigh last) ps

    below : (c : ℕ) → c ≤ last → answers_weigh c ≤ answers_weigh last
    below c l = rises c last (last - c) (omega arith)

    mutual
      unfolding number_node

      node-light : (b : ℕ) (n : Node) → (number_node b n).1 ≤ last → AllNode Light (number_node b n).0
      node-light b (simple x) l = tt
      node-light b (array es) l = elements-light b es l
      node-light b (object fs) l = fields-light b fs l
      node-light b (unresolved _ ps) l = pieces-light (suc b) ps l

      elements-light : (b : ℕ) (es : Elements) → (number_elements b es).1 ≤ last → AllElements Light (number_elements b es).0
      elements-light b no-elements l = tt
      elements-light b (element n es) l =
          (node-light b n (omega (arith, count-elements (number_node b n).1 es)), elements-light (number_node b n).1 es l)

      fields-light : (b : ℕ) (fs : Fields) → (number_fields b fs).1 ≤ last → AllFields Light (number_fields b fs).0
      fields-light b no_fields l = tt
      fields-light b (field k n fs) l =
          (node-light b n (omega (arith, count-fields (number_node b n).1 fs none no_fields)), fields-light (number_node b n).1 fs l)

      pieces-light : (b : ℕ) (ps : Pieces) → (number_pieces b ps).1 ≤ last
          → LightPieces (answers_weigh last) (number_pieces b ps).0 × AllPieces Light (number_pieces b ps).0
      pieces-light b no_pieces l = (tt, tt)
      pieces-light b (node_piece place gap n ps) l =
          let c = (number_node b n).1 in
          let (f, g) = pieces-light c ps l in
          let m : c ≤ last = omega (arith, count-pieces c ps) in
          ((omega (arith, node-weighs b n, below c m), f), (node-light b n m, g))
      pieces-light b (substituted gap x ps) l = pieces-light b ps l

-- ---- unresolved values as they are listed

module _ (P : Pieces → Type 0) where
  abbrev pub Of : Unresolved → Type 0
  Of u = P u.pieces

  mutual
    unfolding in_node

    listed-node : (openness : Openness) (n : Node) → AllNode (λ b ps. P ps) n → Each Of (in_node openness n)
    listed-node openness (simple x) a = tt
    listed-node openness (array es) a = listed-elements es a
    listed-node openness (object fs) a = listed-fields fs openness no_fields a
    listed-node openness (unresolved b ps) a = (a.0, listed-pieces ps a.1)

    pub listed-elements : (es : Elements) → AllElements (λ b ps. P ps) es → Each Of (in_elements es)
    listed-elements no-elements a = tt
    listed-elements (element n es) a = each_append Of (in_node none n) (in_elements es) (listed-node none n a.0) (listed-elements es a.1)

    pub listed-fields : (fs : Fields) (openness : Openness) (earlier : Fields) → AllFields (λ b ps. P ps) fs → Each Of (in_fields fs openness earlier)
    listed-fields no_fields openness earlier a = tt
    listed-fields (field k n fs) openness earlier a =
        each_append Of (in_node (field_openness openness earlier k) n) (in_fields fs openness (with_field earlier k n))
        (listed-node (field_openness openness earlier k) n a.0) (listed-fields fs openness (with_field earlier k n) a.1)

    listed-pieces : (ps : Pieces) → AllPieces (λ b ps. P ps) ps → Each Of (in_pieces ps)
    listed-pieces no_pieces a = tt
    listed-pieces (node_piece place gap n ps) a =
        each_append Of (in_node none n) (in_pieces ps) (listed-node none n a.0) (listed-pieces ps a.1)
    listed-pieces (substituted gap x ps) a = listed-pieces ps a

-- ---- a document that was read

module _ (known : ℕ → Option Answer) where
  root-counts : (r : Root) → weight_of known (root_node (number_root r)) ≤ nodes_of (root_node (number_root r)) + answers_weigh known (length (unresolved_in (number_root r)))
  unfolding weight_of unresolved_in number_node sum_below
  root-counts (fields fs) =
      let e : (number_fields 0 fs).1 ≡ length (unresolved_in (number_root (fields fs))) =
      omega (arith, count-fields 0 fs (some (record { path = []; before = end })) no_fields) in
      omega (arith, fields-weigh known 0 fs, ap (answers_weigh known) e)
  root-counts (elements es) =
      let e : (number_elements 0 es).1 ≡ length (unresolved_in (number_root (elements es))) = omega (arith, count-elements 0 es) in
      omega (arith, elements-weigh known 0 es, ap (answers_weigh known) e)

  root-light : (r : Root) → Each (λ (u : Unresolved). LightPieces known (answers_weigh known (length (unresolved_in (number_root r)))) u.pieces) (unresolved_in (number_root r))
  unfolding unresolved_in number_node
  root-light (fields fs) =
      let m = length (unresolved_in (number_root (fields fs))) in
      let openness : Openness = some (record { path = []; before = end }) in
      listed-fields (LightPieces known (answers_weigh known m)) (number_fields 0 fs).0 openness no_fields
      (fields-light known m 0 fs (omega (arith, count-fields 0 fs openness no_fields)))
  root-light (elements es) =
      let m = length (unresolved_in (number_root (elements es))) in
      listed-elements (LightPieces known (answers_weigh known m)) (number_elements 0 es).0 (elements-light known m 0 es (omega (arith, count-elements 0 es)))

  module _ (d : Document) (p : Prepared d) where
    pub root-weighs : weight_of known (root_node d.root) ≤ nodes_of (root_node d.root) + answers_weigh known (length d.unresolved)
    root-weighs = rw (p.listed, p.root) (root-counts p.read)

    pub pieces-weigh : (b : ℕ) (u : Unresolved) → get_elem? d.unresolved b ≡ some u → LightPieces known (answers_weigh known (length d.unresolved)) u.pieces
    pieces-weigh b u e =
        each_at (λ (u : Unresolved). LightPieces known (answers_weigh known (length d.unresolved)) u.pieces) d.unresolved
        (rw (p.listed, p.root) (root-light p.read)) b u e

-- The numbers in a node go on from one: what a document that was read has. So the number is there, where the descent counts to it.
use Rattle.std.specs.Prelude.{◌≡◌, refl, ℕ, suc, ◌+◌}
use Rattle.std.proofs.Common.{ap, subst, ◌∙◌, arith}
use Rattle.std.proofs.Math.Option.{none}
use Rattle.rules.specs.Tree.{Node, simple, array, object, unresolved, Elements, no-elements, element, Fields, no_fields, field, Pieces, no_pieces, node_piece, substituted, Root, fields, elements, root_node, join_fields, number_node, number_elements, number_fields, number_pieces, number_root}
use Rattle.rules.specs.Documents.{Document}
use Rattle.theory.specs.Numbering.{count-node, Prepared}
use Rattle.theory_back.specs.Descent.{count_node, count_fields}
use Rattle.theory_back.specs.Openness.{length-node}

abbrev mutual
  pub FromNode : ℕ → Node → Type 0
  FromNode from (simple x) = Unit {0}
  FromNode from (array es) = FromElements from es
  FromNode from (object fs) = FromFields from fs
  FromNode from (unresolved b ps) = (b ≡ from) × FromPieces (suc from) ps

  pub FromElements : ℕ → Elements → Type 0
  FromElements from no-elements = Unit {0}
  FromElements from (element n es) = FromNode from n × FromElements (from + count_node n) es

  pub FromFields : ℕ → Fields → Type 0
  FromFields from no_fields = Unit {0}
  FromFields from (field k n fs) = FromNode from n × FromFields (from + count_node n) fs

  pub FromPieces : ℕ → Pieces → Type 0
  FromPieces from no_pieces = Unit {0}
  FromPieces from (node_piece place gap n ps) = FromNode from n × FromPieces (from + count_node n) ps
  FromPieces from (substituted gap x ps) = FromPieces from ps

next-node : (b : ℕ) (n : Node) → (number_node b n).1 ≡ b + count_node (number_node b n).0
next-node b n = count-node b n none ∙ ap (λ c. b + c) (length-node none (number_node b n).0)

mutual
  unfolding number_node

  from-node : (b : ℕ) (n : Node) → FromNode b (number_node b n).0
  from-node b (simple x) = tt
  from-node b (array es) = from-elements b es
  from-node b (object fs) = from_fields b fs
  from-node b (unresolved c ps) = (refl, from_pieces (suc b) ps)

  from-elements : (b : ℕ) (es : Elements) → FromElements b (number_elements b es).0
  from-elements b no-elements = tt
  from-elements b (element n es) =
      let (m, c) = number_node b n in
      (from-node b n, subst (λ (i : ℕ). FromElements i (number_elements c es).0) (next-node b n) (from-elements c es))

  from_fields : (b : ℕ) (fs : Fields) → FromFields b (number_fields b fs).0
  from_fields b no_fields = tt
  from_fields b (field k n fs) =
      let (m, c) = number_node b n in
      (from-node b n, subst (λ (i : ℕ). FromFields i (number_fields c fs).0) (next-node b n) (from_fields c fs))

  from_pieces : (b : ℕ) (ps : Pieces) → FromPieces b (number_pieces b ps).0
  from_pieces b no_pieces = tt
  from_pieces b (node_piece place gap n ps) =
      let (m, c) = number_node b n in
      (from-node b n, subst (λ (i : ℕ). FromPieces i (number_pieces c ps).0) (next-node b n) (from_pieces c ps))
  from_pieces b (substituted gap x ps) = from_pieces b ps

pub from-root : (root : Root) → FromNode 0 (root_node (number_root root))
unfolding number_node
from-root (fields fs) = from_fields 0 fs
from-root (elements es) = from-elements 0 es

-- of a document that was read
pub from-read : (d : Document) → Prepared d → FromNode 0 (root_node d.root)
from-read d p = rw p.root (from-root p.read)

-- the numbers behind some fields
pub from-behind : (from : ℕ) (passed rest : Fields) → FromFields from (join_fields passed rest) → FromFields (from + count_fields passed) rest
unfolding join_fields count_node
from-behind from no_fields rest f = let here : from ≡ from + 0 = omega arith in subst (λ (i : ℕ). FromFields i rest) here f
from-behind from (field k n fs) rest f =
    let here : from + count_node n + count_fields fs ≡ from + (count_node n + count_fields fs) = omega arith in
    subst (λ (i : ℕ). FromFields i rest) here (from-behind (from + count_node n) fs rest f.1)

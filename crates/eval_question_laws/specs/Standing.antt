-- The pieces of an unresolved value in a job's memory, one behind the other: what each of them gives its reader.
use Rattle.std.specs.Prelude.{◌≡◌, refl, Bool, true, false, ℕ, ◌+◌, ◌*◌, ◌≤◌, ◌<◌, List, eqb, get_or}
use Rattle.std.proofs.Common.{sym, ap, subst, ◌∙◌, inr, arith, eqb-true}
use Rattle.std.proofs.Math.Option.{some}
use Rattle.std.proofs.Math.ListN.{get_elem?}
use Rattle.std.proofs.lemmas.Bool.{eqb-false}
use Rattle.answers.specs.Ask.{Trail, lookup}
use Rattle.rules.specs.Bytes.{Text}
use Rattle.rules.specs.Tree.{Substitution, Node, simple, array, object, unresolved, Pieces, no_pieces, node_piece, substituted, Root, fields, elements, root_node, height_of, highest_piece}
use Rattle.rules.specs.Values.{Answer}
use Rattle.rules.specs.Unresolved.{Unresolved}
use Rattle.rules.specs.Documents.{Setting, count_of}
use Rattle.theory.specs.Numbering.{Prepared, numbers-below}
use Rattle.theory.specs.Depths.{shallow-within}
use Rattle.theory.specs.Reach.{Each, each_at}
use Rattle.theory.specs.Rules.{top, Listed, all_listed}
use Rattle.theory_back.specs.Numbers.{from-read}
use Rattle.doc_items.specs.Codes.{as_member, as_piece, number_at}
use Rattle.doc_items.specs.Holds.{PiecesAt, Shown}
use Rattle.doc_items.specs.Joining.{Simples}
use Rattle.doc_items.specs.Parts.{numbers, letters}
use Rattle.doc_items.specs.Room.{text_room}
use Rattle.read_numbering.specs.Clauses.{PathsFit}
use Rattle.eval_memory.specs.Finished.{Memory}
use Rattle.eval_memory.specs.Tables.{Number, Role, WrittenAt}
use Rattle.eval_substitutions.specs.Documents as references
use Rattle.eval_concat.specs.Standing.{PieceAt, piece-at}
use Rattle.eval_state.specs.Memories.{answers_of}
use Rattle.eval_state.specs.State.{state-tables}
use Rattle.eval_pieces.specs.Clauses.{ReferenceGiven, LiteralGiven}
use Rattle.eval_question_laws.specs.Clauses.{PiecesFit, Questioned}

module _ {x : Setting} {key : ℕ → Text} {items : ℕ} {T B E : List ℕ} {S : Trail Answer} {base item b : ℕ} {u : Unresolved}
    (Q : Questioned x key items T B E S base item b u) where
  abbrev memory : Memory
  memory = answers_of key items T B

  abbrev root : Root
  root = x.document.root

  abbrev prepared : Prepared x.document
  prepared = Q.state.document.read

  its-item : WrittenAt memory (unresolved b u.pieces) item
  its-item = rw Q.at (Q.state.document.unresolved b u Q.listed).value

  its-kind : get_or T (8 * item) 0 ≡ 8
  its-kind = omega (arith, its-item.roles, its-item.node.0)

  -- the root is no unresolved value
  root-kind : (r : Root) → Shown (numbers T) (letters 0 B) 0 text_room (Number memory) as_member (get_or T 0 0) (get_or T 4 0) (get_or T 5 0) (get_or T 7 0) 1 (0 + get_or T 1 0) (root_node r)
      → get_or T 0 0 ≡ 8 → ⊥
  root-kind (fields fs) s e = omega (arith, s.0)
  root-kind (elements es) s e = omega (arith, s.0)

  item-low : 0 < item
  item-low = go (eqb item 0) refl
    where
      go : (t : Bool) → eqb item 0 ≡ t → 0 < item
      go true e =
          let z : item ≡ 0 = eqb-true item 0 e in
          let k : get_or T (8 * 0) 0 ≡ 8 = subst (λ (i : ℕ). get_or T (8 * i) 0 ≡ 8) z its-kind in
          absurd (root-kind root Q.state.document.keyed.shown k)
      go false e = let n = eqb-false item 0 e in omega (arith, n)

  standing : references.Standing memory root
  standing = record { items = items; all = refl; keyed = Q.state.document.keyed; from = from-read x.document prepared }

  its-value : references.UnresolvedAt memory item
  its-value = record { low = item-low; inside = omega (arith, its-item.sized, its-item.inside); kind = its-kind }

  its-number : get_elem? x.document.unresolved (number_at (numbers T) item) ≡ some u
  its-number = ap (get_elem? x.document.unresolved) its-item.node.1.0 ∙ Q.listed

  pieces-low : highest_piece u.pieces ≤ 32
  pieces-low =
      let N = count_of x in
      let all = all_listed true N root (numbers-below x.document prepared) in
      let listed = subst (λ l. Each (Listed true N (top root)) l) (sym prepared.listed) all in
      let at = each_at (Listed true N (top root)) x.document.unresolved listed b u Q.listed in
      omega (arith, at.low refl, Q.nested)

  -- ---- the pieces that are left

  pub record PiecesLeft (i end : ℕ) (ps : Pieces) : Type 0 where
    pub upto : end ≤ items + 1
    pub at : PiecesAt (numbers T) (letters 0 B) 0 text_room (Number memory) i end ps
    pub simples : Simples ps
    pub paths : PathsFit ps
    pub low : highest_piece ps ≤ 32
    pub fits : PiecesFit (lookup S) base ps

  pub pieces-begin : PiecesLeft (item + 1) (item + get_or T (8 * item + 1) 0) u.pieces
  pieces-begin = record {
    upto = its-item.inside;
    at = its-item.node.2;
    simples = Q.read.1;
    paths = Q.read.2;
    low = pieces-low;
    fits = Q.fits.pieces;
  }

  pub pieces_end : {i end : ℕ} → PiecesLeft i end no_pieces → i ≡ end
  pieces_end L = L.at

  -- a piece that is written
  module _ {i end place : ℕ} {gap : Text} {n : Node} {ps : Pieces} (L : PiecesLeft i end (node_piece place gap n ps)) where
    pub node-rest : PiecesLeft (i + get_or T (8 * i + 1) 0) end ps
    unfolding height_of
    node-rest = record {
      upto = L.upto;
      at = L.at.4;
      simples = simples n L.simples;
      paths = L.paths;
      low = omega (arith, L.low);
      fits = L.fits.1;
    }
      where
        simples : (n : Node) → Simples (node_piece place gap n ps) → Simples ps
        simples (simple x) s = s
        simples (array es) s = s
        simples (object fs) s = s
        simples (unresolved c qs) s = absurd s

    pub node-inside : (1 ≤ get_or T (8 * i + 1) 0) × (i + get_or T (8 * i + 1) 0 ≤ end)
    node-inside = L.at.0

    pub node_at : PieceAt T B i place gap
    node_at = piece-at (omega (arith, Q.state.document.bytes)) L.at.2 L.at.1

    roles : (n : Node) → Simples (node_piece place gap n ps) → Role as_piece n
    roles (simple x) s = inr refl
    roles (array es) s = inr refl
    roles (object fs) s = inr refl
    roles (unresolved c qs) s = absurd s

    kind : (n : Node) → Shown (numbers T) (letters 0 B) 0 text_room (Number memory) as_piece (get_or T (8 * i) 0) (get_or T (8 * i + 4) 0) (get_or T (8 * i + 5) 0)
        (get_or T (8 * i + 7) 0) (i + 1) (i + get_or T (8 * i + 1) 0) n → as_piece ≤ get_or T (8 * i) 0
    kind (simple x) s = omega (arith, s.0)
    kind (array es) s = omega (arith, s.0)
    kind (object fs) s = omega (arith, s.0)
    kind (unresolved c qs) s = omega (arith, s.0)

    pub node-given : LiteralGiven memory (lookup S) base i n
    unfolding height_of
    node-given = record {
      tables = state-tables Q.state;
      shallow = shallow-within (lookup S) Q.within;
      shown = record {
        sized = L.at.0.0;
        inside = omega (arith, L.at.0.1, L.upto);
        role = as_piece;
        roles = roles n L.simples;
        node = L.at.3;
      };
      piece = kind n L.at.3;
      low = omega (arith, L.low);
      fits = L.fits.0;
    }

  -- a substitution
  module _ {i end : ℕ} {gap : Text} {y : Substitution} {ps : Pieces} (L : PiecesLeft i end (substituted gap y ps)) where
    pub reference-rest : PiecesLeft (i + get_or T (8 * i + 1) 0) end ps
    unfolding height_of
    reference-rest = record { upto = L.upto; at = L.at.5; simples = L.simples; paths = L.paths.1; low = L.low; fits = L.fits }

    pub reference-inside : (1 ≤ get_or T (8 * i + 1) 0) × (i + get_or T (8 * i + 1) 0 ≤ end)
    reference-inside = L.at.0

    pub reference-at : PieceAt T B i y.place gap
    reference-at = piece-at (omega (arith, Q.state.document.bytes)) L.at.2 L.at.1

    pub reference-given : ReferenceGiven x memory E (lookup S) base item i u y
    reference-given = record {
      tables = state-tables Q.state;
      within = Q.within;
      read = prepared;
      nested = Q.nested;
      standing = standing;
      value = its-value;
      listed = its-number;
      path = L.paths.0;
      place = L.at.2;
      reference = L.at.3;
      variables = Q.variables;
      entered = Q.entered;
      environment = Q.environment;
      fits = Q.fits.tree;
    }

-- The document as it was read: a tree of nodes. A node is a value as it is written.
use Rattle.std.specs.Prelude.{ℕ, suc, max, List, Bool}
use Rattle.rules.specs.Bytes.{Text}

-- a simple value; a number's text is as written
pub data Scalar : Type 0 where
  null : Scalar
  boolean : Bool → Scalar
  number string : Text → Scalar

-- one element of a key's path: its text, and the place of its first byte (of its quote too)
pub record Key : Type 0 where
  pub text : Text
  pub place : ℕ

-- `${path}`, or `${?path}`, which is optional; the place is that of its `$`
pub record Substitution : Type 0 where
  pub place : ℕ
  pub optional : Bool
  pub path : List Text

mutual
  pub data Node : Type 0 where
    simple : Scalar → Node
    array : Elements → Node
    object : Fields → Node
    -- a value with a substitution among its pieces (the paper's blend), by its number
    unresolved : ℕ → Pieces → Node

  pub data Elements : Type 0 where
    no-elements : Elements
    element : Node → Elements → Elements

  pub data Fields : Type 0 where
    no_fields : Fields
    field : Key → Node → Fields → Fields

  -- the pieces of one value, each with the whitespace between the one before it and itself
  pub data Pieces : Type 0 where
    no_pieces : Pieces
    -- a piece that is a node: a simple value, an array or an object literal, with the place of its first byte
    node_piece : (place : ℕ) (gap : Text) (n : Node) (ps : Pieces) → Pieces
    -- a substitution, which has its own place
    substituted : (gap : Text) (x : Substitution) (ps : Pieces) → Pieces

-- The root is an object, in braces or without, or an array.
pub data Root : Type 0 where
  fields : Fields → Root
  elements : Elements → Root

abbrev pub root_node : Root → Node
root_node (fields fs) = object fs
root_node (elements es) = array es

-- the first byte of the first piece
abbrev pub first_place : Pieces → ℕ
first_place no_pieces = 0
first_place (node_piece place gap node ps) = place
first_place (substituted gap s ps) = s.place

unfoldable pub join_elements : Elements → Elements → Elements
join_elements no-elements fs = fs
join_elements (element n es) fs = element n (join_elements es fs)

unfoldable pub join_fields : Fields → Fields → Fields
join_fields no_fields gs = gs
join_fields (field k n fs) gs = field k n (join_fields fs gs)

-- The height of a node: as many containers as stand inside one another in it, those inside pieces too.
unfoldable mutual
  pub height_of : Node → ℕ
  height_of (simple x) = 0
  height_of (array es) = suc (highest_element es)
  height_of (object fs) = suc (highest_field fs)
  height_of (unresolved b ps) = highest_piece ps

  pub highest_element : Elements → ℕ
  highest_element no-elements = 0
  highest_element (element n es) = max (height_of n) (highest_element es)

  pub highest_field : Fields → ℕ
  highest_field no_fields = 0
  highest_field (field k n fs) = max (height_of n) (highest_field fs)

  pub highest_piece : Pieces → ℕ
  highest_piece no_pieces = 0
  highest_piece (node_piece place gap n ps) = max (height_of n) (highest_piece ps)
  highest_piece (substituted gap s ps) = highest_piece ps

-- "blends are numbered from 0 by first byte, hidden ones too": a node's first byte is before those inside it, so the numbers go by
-- preorder (module FirstBytes of `theory`). Each function gives the next number too.
unfoldable mutual
  pub number_node : ℕ → Node → Node × ℕ
  number_node b (simple x) = (simple x, b)
  number_node b (array es) = let (es', c) = number_elements b es in (array es', c)
  number_node b (object fs) = let (fs', c) = number_fields b fs in (object fs', c)
  number_node b (unresolved _ ps) = let (ps', c) = number_pieces (suc b) ps in (unresolved b ps', c)

  pub number_elements : ℕ → Elements → Elements × ℕ
  number_elements b no-elements = (no-elements, b)
  number_elements b (element n es) =
      let (n', c) = number_node b n in
      let (es', d) = number_elements c es in
      (element n' es', d)

  pub number_fields : ℕ → Fields → Fields × ℕ
  number_fields b no_fields = (no_fields, b)
  number_fields b (field k n fs) =
      let (n', c) = number_node b n in
      let (fs', d) = number_fields c fs in
      (field k n' fs', d)

  pub number_pieces : ℕ → Pieces → Pieces × ℕ
  number_pieces b no_pieces = (no_pieces, b)
  number_pieces b (node_piece place gap n ps) =
      let (n', c) = number_node b n in
      let (ps', d) = number_pieces c ps in
      (node_piece place gap n' ps', d)
  number_pieces b (substituted gap s ps) = let (ps', c) = number_pieces b ps in (substituted gap s ps', c)

abbrev pub number_root : Root → Root
unfolding number_node
number_root (fields fs) = fields (number_fields 0 fs).0
number_root (elements es) = elements (number_elements 0 es).0

-- ---- Q of every unresolved value in a node, by its number and its pieces; of those inside its pieces too

module _ (Q : ℕ → Pieces → Type 0) where
  abbrev mutual
    pub AllNode : Node → Type 0
    AllNode (simple x) = Unit {0}
    AllNode (array es) = AllElements es
    AllNode (object fs) = AllFields fs
    AllNode (unresolved b ps) = Q b ps × AllPieces ps

    pub AllElements : Elements → Type 0
    AllElements no-elements = Unit {0}
    AllElements (element n es) = AllNode n × AllElements es

    pub AllFields : Fields → Type 0
    AllFields no_fields = Unit {0}
    AllFields (field k n fs) = AllNode n × AllFields fs

    pub AllPieces : Pieces → Type 0
    AllPieces no_pieces = Unit {0}
    AllPieces (node_piece place gap n ps) = AllNode n × AllPieces ps
    AllPieces (substituted gap s ps) = AllPieces ps

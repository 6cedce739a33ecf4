-- Document 01, "Resolving": "Blend: pieces left to right, each worked out, then its size tested (13), its kind against the first defined
-- one (11), and the size of the join so far (13)." A blend is an unresolved value here.
use Rattle.std.specs.Prelude.{ℕ, ◌+◌, List, [], ◌∷◌, ◌++◌, true, false}
use Rattle.std.proofs.Math.Option.{Option, none, some}
use Rattle.answers.specs.Ask.{done, refused, bind}
use Rattle.rules.specs.Sizes.{max_nesting}
use Rattle.rules.specs.Bytes.{Text, same}
use Rattle.rules.specs.Ascii as ascii
use Rattle.rules.specs.Refusals.{placed, nowhere}
use Rattle.rules.specs.Environment.{Environment}
use Rattle.rules.specs.Pieces.{scalar_text}
use Rattle.rules.specs.Tree.{string, Key, Substitution, Node, simple, array, object, unresolved, Elements, no-elements, element, Fields, no_fields, field, Pieces, no_pieces, node_piece, substituted, Root, fields, elements, root_node, first_place, height_of}
use Rattle.rules.specs.Values.{Value, scalar, array_of, object_of, Values, Members, Answer, join_values, within_size, merge_members}
use Rattle.rules.specs.Layers.{Work, Layers, end, layer, written, named, deeper, walk_path, node_value, element_values, merged_of, value_of}

-- ---- where the unresolved values stand

-- "The root object is open, and so is a literal that is the whole value of a field of an open object." Of what is open, an object or a field,
-- the path, and the layers of that path before it: "A substitution standing directly in the blend of an open object's field with path P
-- looks back if its path is P or longer by further elements: only layers of P before that field count".
pub record Open : Type 0 where
  pub path : List Text
  pub before : Layers

-- Whether an object or a field is open: "All other objects (in arrays, or pieces of blends) are closed".
abbrev pub Openness : Type 0
Openness = Option Open

abbrev pub closed : Openness
closed = none

-- an unresolved value: its first byte, its pieces, and whether the field that it is the whole value of is open
pub record Unresolved : Type 0 where
  pub place : ℕ
  pub pieces : Pieces
  pub openness : Openness

-- The field of key k behind the fields `earlier` of its object: "earlier fields of that key in the same literal, then the literal's
-- lower layers". "closed objects never look back".
unfoldable pub field_openness : (openness : Openness) (earlier : Fields) (k : Key) → Openness
unfolding named deeper
field_openness none earlier k = none
field_openness (some h) earlier k =
    some (record { path = h.path ++ (k.text ∷ []); before = named k.text earlier (deeper k.text h.before) })

unfoldable pub with_field : Fields → Key → Node → Fields
with_field no_fields k n = field k n no_fields
with_field (field j m fs) k n = field j m (with_field fs k n)

-- All unresolved values in the order of their numbers. `openness` is a field's own; elements and pieces are closed.
unfoldable mutual
  unfolding field_openness with_field

  pub in_node : Openness → Node → List Unresolved
  in_node openness (simple x) = []
  in_node openness (array es) = in_elements es
  in_node openness (object fs) = in_fields fs openness no_fields
  in_node openness (unresolved b ps) = record { place = first_place ps; pieces = ps; openness = openness } ∷ in_pieces ps

  pub in_elements : Elements → List Unresolved
  in_elements no-elements = []
  in_elements (element n es) = in_node closed n ++ in_elements es

  pub in_fields : (fs : Fields) (openness : Openness) (earlier : Fields) → List Unresolved
  in_fields no_fields openness earlier = []
  in_fields (field k n fs) openness earlier = in_node (field_openness openness earlier k) n ++ in_fields fs openness (with_field earlier k n)

  pub in_pieces : Pieces → List Unresolved
  in_pieces no_pieces = []
  in_pieces (node_piece place gap n ps) = in_node closed n ++ in_pieces ps
  in_pieces (substituted gap x ps) = in_pieces ps

-- the root object has the empty path and no layers below it
unfoldable pub unresolved_in : Root → List Unresolved
unfolding in_node
unresolved_in (fields fs) = in_fields fs (some (record { path = []; before = end })) no_fields
unresolved_in (elements es) = in_elements es

-- ---- substitutions

-- the rest of a path behind a prefix of it
unfoldable pub behind : (prefix path : List Text) → Option (List Text)
unfolding same
behind [] p = some p
behind (k ∷ ks) [] = none
behind (k ∷ ks) (j ∷ js) = elim (same k j) [ true ↦ behind ks js | false ↦ none ]

-- "Otherwise it looks forward": from the root, whose layers are itself ("The root has one.")
unfoldable pub forward : Root → List Text → Layers
unfolding walk_path
forward root p = walk_path p (layer (written (root_node root)) end)

unfoldable pub layers_for : (root : Root) (openness : Openness) (path : List Text) → Layers
unfolding behind forward walk_path
layers_for root none p = forward root p
layers_for root (some h) p = elim (behind h.path p) [ none ↦ forward root p | some rest ↦ walk_path rest h.before ]

-- "the elements joined by dots"
unfoldable pub dotted : List Text → Text
dotted [] = []
dotted (k ∷ []) = k
dotted (k ∷ (j ∷ js)) = k ++ (ascii.dot ∷ dotted (j ∷ js))

-- "If undefined, the environment is asked for the elements joined by dots; its text is a string, an empty one too. Then a required one
-- is 9."
unfoldable pub or_environment : Environment → Substitution → Answer → Work Answer
unfolding dotted
or_environment env x (some v) = done (some v)
or_environment env x none =
    elim (env (dotted x.path)) [
      | some t ↦ done (some (scalar (string t)))
      | none ↦ elim x.optional [ true ↦ done none | false ↦ refused (placed 9 x.place) ]
    ]

-- ---- joins

-- what the pieces so far have come to: nothing defined yet (the whitespace between them is kept for a string), a string, an array or an
-- object
pub data Join : Type 0 where
  blank text : Text → Join
  joined_array : Values → Join
  joined_object : Members → Join

-- a defined piece: all objects are merged, all arrays joined, all simple ones are one string; else number 11 at the piece
unfoldable pub join_value : (place : ℕ) (gap : Text) (v : Value) (so_far : Join) → Work Join
unfolding scalar_text join_values merge_members
join_value place gap (scalar x) (blank t) = done (text (t ++ gap ++ scalar_text x))
join_value place gap (scalar x) (text t) = done (text (t ++ gap ++ scalar_text x))
join_value place gap (scalar x) (joined_array vs) = refused (placed 11 place)
join_value place gap (scalar x) (joined_object ms) = refused (placed 11 place)
join_value place gap (array_of ws) (blank t) = done (joined_array ws)
join_value place gap (array_of ws) (text t) = refused (placed 11 place)
join_value place gap (array_of ws) (joined_array vs) = done (joined_array (join_values vs ws))
join_value place gap (array_of ws) (joined_object ms) = refused (placed 11 place)
join_value place gap (object_of ns) (blank t) = done (joined_object ns)
join_value place gap (object_of ns) (text t) = refused (placed 11 place)
join_value place gap (object_of ns) (joined_array vs) = refused (placed 11 place)
join_value place gap (object_of ns) (joined_object ms) = done (joined_object (merge_members ns ms))

-- "undefined ones are empty"
unfoldable pub join_nothing : Text → Join → Join
join_nothing gap (blank t) = blank (t ++ gap)
join_nothing gap (text t) = text (t ++ gap)
join_nothing gap (joined_array vs) = joined_array vs
join_nothing gap (joined_object ms) = joined_object ms

-- "but if every piece is undefined so is the blend"
unfoldable pub join_answer : Join → Answer
join_answer (blank t) = none
join_answer (text t) = some (scalar (string t))
join_answer (joined_array vs) = some (array_of vs)
join_answer (joined_object ms) = some (object_of ms)

-- number 13: "a value over its size"
unfoldable pub sized : {A : Type 0} → Answer → A → Work A
unfolding within_size
sized none a = done a
sized (some v) a = elim (within_size v) [ true ↦ done a | false ↦ refused (nowhere 13) ]

-- one piece's value: its size, its kind, and the size of the join so far
unfoldable pub join_piece : (place : ℕ) (gap : Text) (a : Answer) (so_far : Join) → Work Join
unfolding sized join_value join_nothing join_answer
join_piece place gap none j = let k = join_nothing gap j in sized (join_answer k) k
join_piece place gap (some v) j =
    bind (sized (some v) v) (λ w. bind (join_value place gap w j) (λ k. sized (join_answer k) k))

-- ---- the rules of one unresolved value

module _ (root : Root) (env : Environment) where
  -- how far values may go down inside one another: through the containers of the document, then those of an answer, and one step more
  abbrev pub depth_of : ℕ
  unfolding height_of
  depth_of = height_of (root_node root) + max_nesting + 1

  abbrev pub evaluate : Layers → Work Answer
  unfolding height_of value_of
  evaluate = value_of depth_of

  unfoldable pub substitution_value : Openness → Substitution → Work Answer
  unfolding height_of value_of layers_for or_environment
  substitution_value openness x = bind (evaluate (layers_for root openness x.path)) (λ a. or_environment env x a)

  -- "Several: all objects (merged), all arrays (joined), or all simple (one string, numbers as written)"
  unfoldable pub several : Openness → Pieces → Join → Work Answer
  unfolding height_of value_of node_value substitution_value join_piece join_answer
  several openness no_pieces j = done (join_answer j)
  several openness (node_piece place gap n ps) j =
      bind (node_value evaluate n) (λ a. bind (join_piece place gap a j) (λ k. several openness ps k))
  several openness (substituted gap x ps) j =
      bind (substitution_value openness x) (λ a. bind (join_piece x.place gap a j) (λ k. several openness ps k))

  -- "One piece keeps its type."
  unfoldable pub answer_of : Openness → Pieces → Work Answer
  unfolding substitution_value several sized
  answer_of openness no_pieces = done none
  answer_of openness (substituted gap x no_pieces) = bind (substitution_value openness x) (λ a. sized a a)
  answer_of openness (substituted gap x (node_piece place g n ps)) = several openness (substituted gap x (node_piece place g n ps)) (blank [])
  answer_of openness (substituted gap x (substituted g y ps)) = several openness (substituted gap x (substituted g y ps)) (blank [])
  answer_of openness (node_piece place gap n ps) = several openness (node_piece place gap n ps) (blank [])

  -- the root's value
  unfoldable pub root_value : Work Value
  unfolding height_of value_of element_values merged_of
  root_value = elim root [
    | fields fs ↦ merged_of evaluate (written (object fs) ∷ [])
    | elements es ↦ bind (element_values evaluate es) (λ vs. done (array_of vs))
  ]

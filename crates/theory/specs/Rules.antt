-- The rules of each unresolved value and the root's, in a document whose numbers are below N: they need only numbers below N, what they give is
-- within its size, and they never refuse with `spent`. The depth `height_of root + 33` would do.
use Rattle.std.specs.Prelude.{◌≡◌, ℕ, pred, ◌+◌, ◌≤◌, List, [], ◌∷◌, Bool}
use Rattle.std.proofs.Math.Path.{refl}
use Rattle.std.proofs.Math.Bool.{true, false}
use Rattle.std.proofs.Math.Option.{Option, none, some}
use native.Mathlib.Omega.{arith}
use Rattle.answers.specs.Ask.{done, refused}
use Rattle.rules.specs.Bytes.{Text}
use Rattle.rules.specs.Refusals.{Refusal, placed, nowhere}
use Rattle.rules.specs.Environment.{Environment}
use Rattle.rules.specs.Tree.{string, Key, Substitution, Node, simple, array, object, unresolved, Elements, no-elements, element, Fields, no_fields, field, Pieces, no_pieces, node_piece, substituted, Root, fields, elements, root_node, height_of, highest_field, highest_element, highest_piece}
use Rattle.rules.specs.Values.{Value, scalar, array_of, object_of, Answer, within_size}
use Rattle.rules.specs.Layers.{Work, written, Layers, end, layer, deeper, walk_path, value_of}
use Rattle.rules.specs.Unresolved.{Open, Unresolved, Openness, field_openness, with_field, in_node, in_elements, in_fields, in_pieces, unresolved_in, behind, forward, layers_for, dotted, or_environment, Join, blank, text, joined_array, joined_object, join_value, join_nothing, join_answer, sized, join_piece, depth_of, evaluate, substitution_value, several, answer_of, root_value}
use Rattle.rules.specs.Tree.{AllNode, AllElements, AllFields, AllPieces}
use Rattle.theory.specs.Ends.{When, WithinSize, Ordinary, Ends, dones, refuses, ends-bind}
use Rattle.theory.specs.Reach.{Each, each_append, InRange, AllLow, all-low-up, named-low, deeper-low, path-low, Quiet, node-ends, elements-end, merged-ends, value-ends}

-- ---- sizes and joins

module _ (strict : Bool) (N : ℕ) where
  refused-with : {A : Type 0} {Q : A → Type 0} (x : Refusal) → Ordinary x → Ends strict N Q (refused x)
  refused-with x l = refuses (λ e. l)

  sized-ends : {A : Type 0} (Q : A → Type 0) (o : Answer) (a : A) → (When strict (WithinSize o) → Q a) → Ends strict N Q (sized o a)
  unfolding sized
  sized-ends Q none a h = dones (h (λ e. tt))
  sized-ends {A} Q (some v) a h = go (within_size v) refl
    where
      go : (t : Bool) → within_size v ≡ t → Ends strict N Q (elim t as (λ _. Work A) [ true ↦ done a | false ↦ refused (nowhere 13) ])
      go true w = dones (h (λ e. w))
      go false w = refused-with (nowhere 13) (omega arith, omega arith)

  -- number 11 or a join
  value-joins : (place : ℕ) (gap : Text) (v : Value) (j : Join) → Quiet strict N (join_value place gap v j)
  unfolding join_value
  value-joins place gap (scalar x) (blank t) = dones tt
  value-joins place gap (scalar x) (text t) = dones tt
  value-joins place gap (scalar x) (joined_array vs) = refused-with (placed 11 place) (omega arith, omega arith)
  value-joins place gap (scalar x) (joined_object ms) = refused-with (placed 11 place) (omega arith, omega arith)
  value-joins place gap (array_of ws) (blank t) = dones tt
  value-joins place gap (array_of ws) (text t) = refused-with (placed 11 place) (omega arith, omega arith)
  value-joins place gap (array_of ws) (joined_array vs) = dones tt
  value-joins place gap (array_of ws) (joined_object ms) = refused-with (placed 11 place) (omega arith, omega arith)
  value-joins place gap (object_of ns) (blank t) = dones tt
  value-joins place gap (object_of ns) (text t) = refused-with (placed 11 place) (omega arith, omega arith)
  value-joins place gap (object_of ns) (joined_array vs) = refused-with (placed 11 place) (omega arith, omega arith)
  value-joins place gap (object_of ns) (joined_object ms) = dones tt

  -- the join so far is within its size
  abbrev Sized : Join → Type 0
  Sized j = When strict (WithinSize (join_answer j))

  piece-joins : (place : ℕ) (gap : Text) (a : Answer) (j : Join) → Ends strict N Sized (join_piece place gap a j)
  unfolding join_piece
  piece-joins place gap none j = sized-ends Sized (join_answer (join_nothing gap j)) (join_nothing gap j) (λ s. s)
  piece-joins place gap (some v) j =
      ends-bind (sized-ends (λ w. Unit {0}) (some v) v (λ s. tt)) (λ w _.
      ends-bind (value-joins place gap w j) (λ k _. sized-ends Sized (join_answer k) k (λ s. s)))

  environment-ends : (env : Environment) (x : Substitution) (a : Answer) → Quiet strict N (or_environment env x a)
  unfolding or_environment
  environment-ends env x (some v) = dones tt
  environment-ends env x none = go (env (dotted x.path)) x.optional
    where
      go : (o : Option Text) (t : Bool) → Quiet strict N {A = Answer} (elim o as (λ _. Work Answer) [
        | some s ↦ done (some (scalar (string s)))
        | none ↦ elim t as (λ _. Work Answer) [ true ↦ done none | false ↦ refused (placed 9 x.place) ]
      ])
      go (some s) t = dones tt
      go none true = dones tt
      go none false = refused-with (placed 9 x.place) (omega arith, omega arith)

-- ---- the list of unresolved values: their pieces and the layers before them, of a height

module _ (strict : Bool) (N h : ℕ) where
  abbrev pub HomeLow : Openness → Type 0
  HomeLow none = Unit {0}
  HomeLow (some openness) = AllLow strict N h openness.before

  pub record Listed (u : Unresolved) : Type 0 where
    pub inside : AllPieces (InRange N) u.pieces
    pub low : When strict (highest_piece u.pieces + 32 ≤ h)
    pub before : HomeLow u.openness

  -- fields of a height, with their numbers
  abbrev LowFields : Fields → Type 0
  LowFields fs = AllFields (InRange N) fs × When strict (highest_field fs + 32 ≤ h)

  field-openness-low : (openness : Openness) (earlier : Fields) (k : Key) → HomeLow openness → LowFields earlier → HomeLow (field_openness openness earlier k)
  unfolding field_openness
  field-openness-low none earlier k w l = tt
  field-openness-low (some openness) earlier k w l =
      let lower = deeper k.text openness.before in
      named-low strict N h k.text earlier lower l.0 l.1
      (all-low-up strict N (pred h) h (omega arith) lower (deeper-low strict N h k.text openness.before w))

  with-field : (fs : Fields) (k : Key) (n : Node) → LowFields fs → AllNode (InRange N) n → When strict (height_of n + 32 ≤ h)
      → LowFields (with_field fs k n)
  unfolding with_field height_of
  with-field no_fields k n l a r = ((a, tt), λ e. omega (arith, r e))
  with-field (field j m fs) k n l a r =
      let more = with-field fs k n (l.0.1, λ e. omega (arith, l.1 e)) a r in
      ((l.0.0, more.0), λ e. omega (arith, l.1 e, more.1 e))

  mutual
    unfolding in_node height_of

    in-node : (openness : Openness) (n : Node) → HomeLow openness → AllNode (InRange N) n → When strict (height_of n + 32 ≤ h)
        → Each Listed (in_node openness n)
    in-node openness (simple x) w a r = tt
    in-node openness (array es) w a r = in-elements es a (λ e. omega (arith, r e))
    in-node openness (object fs) w a r = in-fields fs openness no_fields w (a, λ e. omega (arith, r e)) (tt, λ e. omega (arith, r e))
    in-node openness (unresolved b ps) w a r = (record { inside = a.1; low = r; before = w }, in-pieces ps a.1 r)

    in-elements : (es : Elements) → AllElements (InRange N) es → When strict (highest_element es + 32 ≤ h) → Each Listed (in_elements es)
    in-elements no-elements a r = tt
    in-elements (element n es) a r =
        each_append Listed (in_node none n) (in_elements es) (in-node none n tt a.0 (λ e. omega (arith, r e)))
        (in-elements es a.1 (λ e. omega (arith, r e)))

    in-fields : (fs : Fields) (openness : Openness) (earlier : Fields) → HomeLow openness → LowFields fs → LowFields earlier
        → Each Listed (in_fields fs openness earlier)
    in-fields no_fields openness earlier w l m = tt
    in-fields (field k n fs) openness earlier w l m =
        let r : When strict (height_of n + 32 ≤ h) = λ e. omega (arith, l.1 e) in
        each_append Listed (in_node (field_openness openness earlier k) n) (in_fields fs openness (with_field earlier k n))
        (in-node (field_openness openness earlier k) n (field-openness-low openness earlier k w m) l.0.0 r)
        (in-fields fs openness (with_field earlier k n) w (l.0.1, λ e. omega (arith, l.1 e)) (with-field earlier k n m l.0.0 r))

    in-pieces : (ps : Pieces) → AllPieces (InRange N) ps → When strict (highest_piece ps + 32 ≤ h) → Each Listed (in_pieces ps)
    in-pieces no_pieces a r = tt
    in-pieces (node_piece place gap n ps) a r =
        each_append Listed (in_node none n) (in_pieces ps) (in-node none n tt a.0 (λ e. omega (arith, r e)))
        (in-pieces ps a.1 (λ e. omega (arith, r e)))
    in-pieces (substituted gap s ps) a r = in-pieces ps a r

-- ---- the rules

-- the height of the root's layer
abbrev pub top : Root → ℕ
top root = height_of (root_node root) + 32

module _ (strict : Bool) (N : ℕ) (root : Root) (env : Environment) (numbers : AllNode (InRange N) (root_node root)) where
  pub evaluate-ends : (ls : Layers) → AllLow strict N (top root) ls → Quiet strict N (evaluate root env ls)
  unfolding height_of value_of
  evaluate-ends ls w = value-ends strict N (depth_of root env) (top root) (λ e. omega arith) ls w

  path-from : (openness : Option Open) (p : List Text) → HomeLow strict N (top root) openness → AllLow strict N (top root) (layers_for root openness p)
  unfolding layers_for
  path-from none p w = path-low strict N (top root) p (layer (written (root_node root)) end) ((numbers, λ e. omega arith), tt)
  path-from (some h) p w = go (behind h.path p)
    where
      go : (o : Option (List Text))
          → AllLow strict N (top root) (elim o as (λ _. Layers) [ none ↦ forward root p | some rest ↦ walk_path rest h.before ])
      go none = path-low strict N (top root) p (layer (written (root_node root)) end) ((numbers, λ e. omega arith), tt)
      go (some rest) = path-low strict N (top root) rest h.before w

  pub substitution-ends : (openness : Option Open) (x : Substitution) → HomeLow strict N (top root) openness → Quiet strict N (substitution_value root env openness x)
  unfolding substitution_value
  substitution-ends openness x w =
      ends-bind (evaluate-ends (layers_for root openness x.path) (path-from openness x.path w)) (λ a _. environment-ends strict N env x a)

  -- what is given is within its size
  abbrev pub Answers : Work Answer → Type 0
  Answers m = Ends strict N (λ a. When strict (WithinSize a)) m

  several-end : (openness : Option Open) → HomeLow strict N (top root) openness → (ps : Pieces) → AllPieces (InRange N) ps
      → When strict (highest_piece ps + 32 ≤ top root) → (j : Join) → Sized strict N j → Answers (several root env openness ps j)
  unfolding several height_of
  several-end openness w no_pieces a r j s = dones s
  several-end openness w (node_piece place gap n ps) a r j s =
      ends-bind (node-ends strict N (top root) (evaluate root env) evaluate-ends n a.0 (λ e. omega (arith, r e))) (λ v _.
      ends-bind (piece-joins strict N place gap v j) (λ k s'. several-end openness w ps a.1 (λ e. omega (arith, r e)) k s'))
  several-end openness w (substituted gap x ps) a r j s =
      ends-bind (substitution-ends openness x w) (λ v _.
      ends-bind (piece-joins strict N x.place gap v j) (λ k s'. several-end openness w ps a r k s'))

  pub answer-ends : (u : Unresolved) → Listed strict N (top root) u → Answers (answer_of root env u.openness u.pieces)
  unfolding answer_of
  answer-ends u l = go u.pieces l.inside l.low
    where
      many : (ps : Pieces) → AllPieces (InRange N) ps → When strict (highest_piece ps + 32 ≤ top root)
          → Answers (several root env u.openness ps (blank []))
      many ps a r = several-end u.openness l.before ps a r (blank []) (λ e. tt)

      go : (ps : Pieces) → AllPieces (InRange N) ps → When strict (highest_piece ps + 32 ≤ top root) → Answers (answer_of root env u.openness ps)
      go no_pieces a r = dones (λ e. tt)
      go (substituted gap x no_pieces) a r =
          ends-bind (substitution-ends u.openness x l.before) (λ v _. sized-ends strict N (λ v. When strict (WithinSize v)) v v (λ s. s))
      go (substituted gap x (node_piece place g n ps)) a r = many (substituted gap x (node_piece place g n ps)) a r
      go (substituted gap x (substituted g y ps)) a r = many (substituted gap x (substituted g y ps)) a r
      go (node_piece place gap n ps) a r = many (node_piece place gap n ps) a r

-- ---- by the kind of the root

module _ (strict : Bool) (N : ℕ) where
  pub all_listed : (root : Root) → AllNode (InRange N) (root_node root)
      → Each (Listed strict N (top root)) (unresolved_in root)
  unfolding unresolved_in height_of
  all_listed (fields fs) a =
      in-fields strict N (height_of (object fs) + 32) fs (some (record { path = []; before = end })) no_fields tt
      (a, λ e. omega arith) (tt, λ e. omega arith)
  all_listed (elements es) a = in-elements strict N (height_of (array es) + 32) es a (λ e. omega arith)

  pub root_ends : (root : Root) (env : Environment) → AllNode (InRange N) (root_node root) → Quiet strict N (root_value root env)
  unfolding root_value
  root_ends (fields fs) env a =
      let r = fields fs in
      let h = top r in
      let ls = layer (written (object fs)) end in
      merged-ends strict N h (evaluate r env) (evaluate-ends strict N r env a) (written (object fs) ∷ [])
      (λ k. all-low-up strict N (pred h) h (omega arith) (deeper k ls) (deeper-low strict N h k ls ((a, λ e. omega arith), tt)))
  root_ends (elements es) env a =
      let r = elements es in
      let h = top r in
      ends-bind (elements-end strict N h (evaluate r env) (evaluate-ends strict N r env a) es a (λ e. omega arith)) (λ vs _. dones tt)

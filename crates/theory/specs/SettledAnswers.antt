-- The rules of one unresolved value and the root's, with the answers given: computations on settled layers, in which nothing waits.
use Rattle.std.specs.Prelude.{◌≡◌, ℕ, ◌≤◌, ◌<◌, List, [], ◌∷◌, ◌++◌, Bool}
use Rattle.std.proofs.Math.Path.{refl, ap, subst}
use Rattle.std.proofs.Common.{sym, ◌∙◌, arith}
use Rattle.std.proofs.Math.Bool.{true, false}
use Rattle.std.proofs.Math.Option.{Option, none, some}
use Rattle.std.proofs.Math.ListN.{get_elem?}
use Rattle.answers.specs.Ask.{done, refused, bind, value, run, then}
use Rattle.answers.specs.Theory.Bind.{run_bind}
use Rattle.rules.specs.Bytes.{Text}
use Rattle.rules.specs.Refusals.{Refusal, placed, nowhere}
use Rattle.rules.specs.Environment.{Environment}
use Rattle.rules.specs.Pieces.{scalar_text}
use Rattle.rules.specs.Tree.{string, Key, Substitution, Node, object, Fields, Pieces, no_pieces, node_piece, substituted, Root, fields, elements, root_node, height_of, highest_piece}
use Rattle.rules.specs.Values.{Value, scalar, array_of, object_of, Answer, join_values, within_size, merge_members}
use Rattle.rules.specs.Layers.{Work, written, Layers, end, layer, named, deeper, walk_path, element_values, node_value, value_of}
use Rattle.rules.specs.Unresolved.{Open, Unresolved, Openness, field_openness, behind, forward, layers_for, dotted, or_environment, Join, blank, text, joined_array, joined_object, join_value, join_nothing, join_answer, sized, join_piece, depth_of, evaluate, substitution_value, several, answer_of, root_value}
use Rattle.rules.specs.Documents.{Setting, rule_of, count_of}
use Rattle.theory.specs.Numbering.{Prepared, numbers-below}
use Rattle.theory.specs.Ends.{WithinSize}
use Rattle.theory.specs.Reach.{Each, each_at}
use Rattle.theory.specs.Rules.{HomeLow, top, Listed, all_listed}
use Rattle.theory.specs.Resolving.{root_of}
use Rattle.theory.specs.Settled.{flat-named, flat-deeper, flat_walk, then_same, run-merged, run-node, run-elements, run_value}
use Rattle.rules.specs.Settled.{no, Settled, Given, push_node, flat, named_in, deeper_in, deeper_of, walk_in, merged_in, node_in, elements_in, value_in}
use Rattle.theory.specs.Depths.{height_in, Shallow, walk-low, same-depth, node-depth, elements-depth, merged-depth, forward-low, shallow-within, flat-low}

-- ---- sizes and joins, for which no answers are needed

unfoldable pub sized_in : {A : Type 0} → Answer → A → Given A
unfolding within_size
sized_in none a = value a
sized_in (some v) a = elim (within_size v) [ true ↦ value a | false ↦ refused (nowhere 13) ]

unfoldable pub join_value_in : ℕ → Text → Value → Join → Given Join
unfolding scalar_text join_values merge_members
join_value_in place gap (scalar x) (blank t) = value (text (t ++ gap ++ scalar_text x))
join_value_in place gap (scalar x) (text t) = value (text (t ++ gap ++ scalar_text x))
join_value_in place gap (scalar x) (joined_array vs) = refused (placed 11 place)
join_value_in place gap (scalar x) (joined_object ms) = refused (placed 11 place)
join_value_in place gap (array_of ws) (blank t) = value (joined_array ws)
join_value_in place gap (array_of ws) (text t) = refused (placed 11 place)
join_value_in place gap (array_of ws) (joined_array vs) = value (joined_array (join_values vs ws))
join_value_in place gap (array_of ws) (joined_object ms) = refused (placed 11 place)
join_value_in place gap (object_of ns) (blank t) = value (joined_object ns)
join_value_in place gap (object_of ns) (text t) = refused (placed 11 place)
join_value_in place gap (object_of ns) (joined_array vs) = refused (placed 11 place)
join_value_in place gap (object_of ns) (joined_object ms) = value (joined_object (merge_members ns ms))

unfoldable pub join_piece_in : ℕ → Text → Answer → Join → Given Join
unfolding sized_in join_value_in join_nothing join_answer
join_piece_in place gap none j = let k = join_nothing gap j in sized_in (join_answer k) k
join_piece_in place gap (some v) j =
    then (sized_in (some v) v) (λ w. then (join_value_in place gap w j) (λ k. sized_in (join_answer k) k))

unfoldable pub or_environment_in : Environment → Substitution → Answer → Given Answer
unfolding dotted
or_environment_in env x (some v) = value (some v)
or_environment_in env x none =
    elim (env (dotted x.path)) [
      | some t ↦ value (some (scalar (string t)))
      | none ↦ elim x.optional [ true ↦ value none | false ↦ refused (placed 9 x.place) ]
    ]

module _ (known : ℕ → Option Answer) where
  run-sized : {A : Type 0} (o : Answer) (a : A) → run known (sized o a) ≡ sized_in o a
  unfolding sized sized_in
  run-sized none a = refl
  run-sized {A} (some v) a = go (within_size v)
    where
      go : (t : Bool) → run {F = Refusal} {A = A} known (elim t as (λ _. Work A) [ true ↦ done a | false ↦ refused (nowhere 13) ])
          ≡ elim t as (λ _. Given A) [ true ↦ value a | false ↦ refused (nowhere 13) ]
      go true = refl
      go false = refl

  run_join : (place : ℕ) (gap : Text) (v : Value) (j : Join) → run known (join_value place gap v j) ≡ join_value_in place gap v j
  unfolding join_value join_value_in
  run_join place gap (scalar x) (blank t) = refl
  run_join place gap (scalar x) (text t) = refl
  run_join place gap (scalar x) (joined_array vs) = refl
  run_join place gap (scalar x) (joined_object ms) = refl
  run_join place gap (array_of ws) (blank t) = refl
  run_join place gap (array_of ws) (text t) = refl
  run_join place gap (array_of ws) (joined_array vs) = refl
  run_join place gap (array_of ws) (joined_object ms) = refl
  run_join place gap (object_of ns) (blank t) = refl
  run_join place gap (object_of ns) (text t) = refl
  run_join place gap (object_of ns) (joined_array vs) = refl
  run_join place gap (object_of ns) (joined_object ms) = refl

  pub run-piece : (place : ℕ) (gap : Text) (a : Answer) (j : Join) → run known (join_piece place gap a j) ≡ join_piece_in place gap a j
  unfolding join_piece join_piece_in
  run-piece place gap none j = run-sized (join_answer (join_nothing gap j)) (join_nothing gap j)
  run-piece place gap (some v) j =
      run_bind known (sized (some v) v) (λ w. bind (join_value place gap w j) (λ k. sized (join_answer k) k))
      ∙ then_same known (run-sized (some v) v) (λ w.
      run_bind known (join_value place gap w j) (λ k. sized (join_answer k) k)
      ∙ then_same known (run_join place gap w j) (λ k. run-sized (join_answer k) k))

  run-environment : (env : Environment) (x : Substitution) (a : Answer) → run known (or_environment env x a) ≡ or_environment_in env x a
  unfolding or_environment or_environment_in
  run-environment env x (some v) = refl
  run-environment env x none = go (env (dotted x.path)) x.optional
    where
      go : (o : Option Text) (t : Bool) → run {F = Refusal} {A = Answer} known (elim o as (λ _. Work Answer) [
        | some s ↦ done (some (scalar (string s)))
        | none ↦ elim t as (λ _. Work Answer) [ true ↦ done none | false ↦ refused (placed 9 x.place) ]
      ]) ≡ elim o as (λ _. Given Answer) [
        | some s ↦ value (some (scalar (string s)))
        | none ↦ elim t as (λ _. Given Answer) [ true ↦ value none | false ↦ refused (placed 9 x.place) ]
      ]
      go (some s) t = refl
      go none true = refl
      go none false = refl

-- ---- look-back: a field's path and the settled layers before it

pub record HomeIn : Type 0 where
  pub path : List Text
  pub before : Settled

module _ (known : ℕ → Option Answer) where
  abbrev pub open_in : Option Open → Option HomeIn
  open_in none = none
  open_in (some h) = some (record { path = h.path; before = flat known h.before })

  unfoldable pub field_open : Option HomeIn → Fields → Key → Option HomeIn
  unfolding named_in deeper_in
  field_open none earlier k = none
  field_open (some h) earlier k =
      some (record { path = h.path ++ (k.text ∷ []); before = named_in known k.text earlier (deeper_of known k.text h.before) })

  flat-before : (k : Text) (earlier : Fields) (ls : Layers)
      → flat known (named k earlier (deeper k ls)) ≡ named_in known k earlier (deeper_of known k (flat known ls))
  flat-before k earlier ls = flat-named known k earlier (deeper k ls) ∙ ap (named_in known k earlier) (flat-deeper known k ls)

  pub flat-openness : (openness : Openness) (earlier : Fields) (k : Key) → open_in (field_openness openness earlier k) ≡ field_open (open_in openness) earlier k
  unfolding field_openness field_open
  flat-openness none earlier k = refl
  flat-openness (some h) earlier k =
      ap (λ (w : Settled). some (record { path = h.path ++ (k.text ∷ []); before = w })) (flat-before k.text earlier h.before)

-- ---- the layers of a substitution's path, and the rules, with values by a depth

module _ (known : ℕ → Option Answer) (root : Root) where
  unfoldable pub forward_in : List Text → Settled
  unfolding walk_in push_node
  forward_in p = walk_in known p (push_node known (root_node root) ([], no))

  unfoldable pub layers_in : Option HomeIn → List Text → Settled
  unfolding behind forward_in walk_in
  layers_in none p = forward_in p
  layers_in (some h) p = elim (behind h.path p) [ none ↦ forward_in p | some rest ↦ walk_in known rest h.before ]

  module _ (depth : ℕ) where
    unfoldable pub root_in : Given Value
    unfolding value_in elements_in merged_in
    root_in = elim root [
      | fields fs ↦ merged_in known (value_in known depth) (written (object fs) ∷ [])
      | elements es ↦ then (elements_in known (value_in known depth) es) (λ vs. value (array_of vs))
    ]

    module _ (env : Environment) where
      unfoldable pub substitution_in : Option HomeIn → Substitution → Given Answer
      unfolding value_in layers_in or_environment_in
      substitution_in openness x = then (value_in known depth (layers_in openness x.path)) (λ a. or_environment_in env x a)

      unfoldable pub several_in : Option HomeIn → Pieces → Join → Given Answer
      unfolding value_in node_in substitution_in join_piece_in join_answer
      several_in openness no_pieces j = value (join_answer j)
      several_in openness (node_piece place gap n ps) j =
          then (node_in known (value_in known depth) n) (λ a. then (join_piece_in place gap a j) (λ k. several_in openness ps k))
      several_in openness (substituted gap x ps) j =
          then (substitution_in openness x) (λ a. then (join_piece_in x.place gap a j) (λ k. several_in openness ps k))

      unfoldable pub answer_in : Option HomeIn → Pieces → Given Answer
      unfolding substitution_in several_in sized_in
      answer_in openness no_pieces = value none
      answer_in openness (substituted gap x no_pieces) = then (substitution_in openness x) (λ a. sized_in a a)
      answer_in openness (substituted gap x (node_piece place g n ps)) = several_in openness (substituted gap x (node_piece place g n ps)) (blank [])
      answer_in openness (substituted gap x (substituted g y ps)) = several_in openness (substituted gap x (substituted g y ps)) (blank [])
      answer_in openness (node_piece place gap n ps) = several_in openness (node_piece place gap n ps) (blank [])

-- ---- they are what the rules come to

module _ (known : ℕ → Option Answer) where
  flat-forward : (root : Root) (p : List Text) → flat known (forward root p) ≡ forward_in known root p
  unfolding forward forward_in flat
  flat-forward root p = flat_walk known p (layer (written (root_node root)) end)

  pub flat-layers-for : (root : Root) (openness : Option Open) (p : List Text)
      → flat known (layers_for root openness p) ≡ layers_in known root (open_in known openness) p
  unfolding layers_for layers_in
  flat-layers-for root none p = flat-forward root p
  flat-layers-for root (some h) p = go (behind h.path p)
    where
      go : (o : Option (List Text)) → flat known (elim o as (λ _. Layers) [ none ↦ forward root p | some rest ↦ walk_path rest h.before ])
          ≡ elim o as (λ _. Settled) [ none ↦ forward_in known root p | some rest ↦ walk_in known rest (flat known h.before) ]
      go none = flat-forward root p
      go (some rest) = flat_walk known rest h.before

  module _ (root : Root) (env : Environment) where
    run-evaluate : (ls : Layers) → run known (evaluate root env ls) ≡ value_in known (depth_of root env) (flat known ls)
    unfolding height_of value_of
    run-evaluate ls = run_value known (depth_of root env) ls

    pub run-substitution : (openness : Option Open) (x : Substitution)
        → run known (substitution_value root env openness x) ≡ substitution_in known root (depth_of root env) env (open_in known openness) x
    unfolding substitution_value substitution_in
    run-substitution openness x =
        run_bind known (evaluate root env (layers_for root openness x.path)) (λ a. or_environment env x a)
        ∙ then_same known
        (run-evaluate (layers_for root openness x.path) ∙ ap (value_in known (depth_of root env)) (flat-layers-for root openness x.path))
        (λ a. run-environment known env x a)

    pub run-several : (openness : Option Open) (ps : Pieces) (j : Join)
        → run known (several root env openness ps j) ≡ several_in known root (depth_of root env) env (open_in known openness) ps j
    unfolding several several_in
    run-several openness no_pieces j = refl
    run-several openness (node_piece place gap n ps) j =
        run_bind known (node_value (evaluate root env) n) (λ a. bind (join_piece place gap a j) (λ k. several root env openness ps k))
        ∙ then_same known (run-node known (evaluate root env) (value_in known (depth_of root env)) run-evaluate n) (λ a.
        run_bind known (join_piece place gap a j) (λ k. several root env openness ps k)
        ∙ then_same known (run-piece known place gap a j) (λ k. run-several openness ps k))
    run-several openness (substituted gap x ps) j =
        run_bind known (substitution_value root env openness x) (λ a. bind (join_piece x.place gap a j) (λ k. several root env openness ps k))
        ∙ then_same known (run-substitution openness x) (λ a.
        run_bind known (join_piece x.place gap a j) (λ k. several root env openness ps k)
        ∙ then_same known (run-piece known x.place gap a j) (λ k. run-several openness ps k))

    pub run-answer : (openness : Option Open) (ps : Pieces)
        → run known (answer_of root env openness ps) ≡ answer_in known root (depth_of root env) env (open_in known openness) ps
    unfolding answer_of answer_in
    run-answer openness no_pieces = refl
    run-answer openness (substituted gap x no_pieces) =
        run_bind known (substitution_value root env openness x) (λ a. sized a a)
        ∙ then_same known (run-substitution openness x) (λ a. run-sized known a a)
    run-answer openness (substituted gap x (node_piece place g n ps)) = run-several openness (substituted gap x (node_piece place g n ps)) (blank [])
    run-answer openness (substituted gap x (substituted g y ps)) = run-several openness (substituted gap x (substituted g y ps)) (blank [])
    run-answer openness (node_piece place gap n ps) = run-several openness (node_piece place gap n ps) (blank [])

  pub run-root : (root : Root) (env : Environment) → run known (root_value root env) ≡ root_in known root (depth_of root env)
  unfolding root_value root_in
  run-root (fields fs) env =
      let r = fields fs in
      run-merged known (evaluate r env) (value_in known (depth_of r env)) (run-evaluate r env) (written (object fs) ∷ [])
  run-root (elements es) env =
      let r = elements es in
      run_bind known (element_values (evaluate r env) es) (λ vs. done (array_of vs))
      ∙ then_same known (run-elements known (evaluate r env) (value_in known (depth_of r env)) (run-evaluate r env) es) (λ vs. refl)

-- ---- any two depths above the root's height, where known answers are within 32 nestings

module _ (root : Root) where
  -- the layers before a field are no higher than the root's
  abbrev pub LowBefore : Option HomeIn → Type 0
  LowBefore none = Unit {0}
  LowBefore (some h) = height_in h.before.0 ≤ top root

module _ (known : ℕ → Option Answer) (shallow : Shallow known) (root : Root) (env : Environment)
    (d e : ℕ) (r : top root < d) (l : top root < e) where
  layers-low : (openness : Option HomeIn) (p : List Text) → LowBefore root openness → height_in (layers_in known root openness p).0 ≤ top root
  unfolding layers_in forward_in
  layers-low none p w = forward-low known shallow root p
  layers-low (some h) p w = go (behind h.path p)
    where
      go : (o : Option (List Text))
          → height_in (elim o as (λ _. Settled) [ none ↦ forward_in known root p | some rest ↦ walk_in known rest h.before ]).0
          ≤ top root
      go none = forward-low known shallow root p
      go (some rest) = walk-low known shallow (top root) rest h.before w

  substitution-depth : (openness : Option HomeIn) (x : Substitution) → LowBefore root openness
      → substitution_in known root d env openness x ≡ substitution_in known root e env openness x
  unfolding substitution_in
  substitution-depth openness x w =
      let low = layers-low openness x.path w in
      then_same known (same-depth known shallow d e (layers_in known root openness x.path) (omega arith) (omega arith)) (λ a. refl)

  several-depth : (openness : Option HomeIn) → LowBefore root openness → (ps : Pieces) → highest_piece ps ≤ height_of (root_node root) → (j : Join)
      → several_in known root d env openness ps j ≡ several_in known root e env openness ps j
  unfolding several_in height_of
  several-depth openness w no_pieces m j = refl
  several-depth openness w (node_piece place gap n ps) m j =
      then_same known (node-depth known shallow (top root) d e r l n (omega arith)) (λ a.
      then_same known {x = join_piece_in place gap a j} refl (λ k. several-depth openness w ps (omega arith) k))
  several-depth openness w (substituted gap x ps) m j =
      then_same known (substitution-depth openness x w) (λ a.
      then_same known {x = join_piece_in x.place gap a j} refl (λ k. several-depth openness w ps m k))

  pub answer-depth : (openness : Option HomeIn) → LowBefore root openness → (ps : Pieces) → highest_piece ps ≤ height_of (root_node root)
      → answer_in known root d env openness ps ≡ answer_in known root e env openness ps
  unfolding answer_in
  answer-depth openness w no_pieces m = refl
  answer-depth openness w (substituted gap x no_pieces) m = then_same known (substitution-depth openness x w) (λ a. refl)
  answer-depth openness w (substituted gap x (node_piece place g n ps)) m =
      several-depth openness w (substituted gap x (node_piece place g n ps)) m (blank [])
  answer-depth openness w (substituted gap x (substituted g y ps)) m =
      several-depth openness w (substituted gap x (substituted g y ps)) m (blank [])
  answer-depth openness w (node_piece place gap n ps) m = several-depth openness w (node_piece place gap n ps) m (blank [])

module _ (known : ℕ → Option Answer) (shallow : Shallow known) (d e : ℕ) where
  pub root-depth : (root : Root) → top root < d → top root < e → root_in known root d ≡ root_in known root e
  unfolding root_in height_of
  root-depth (fields fs) r l = merged-depth known shallow (top (fields fs)) d e r l (written (object fs) ∷ []) (omega arith)
  root-depth (elements es) r l = then_same known (elements-depth known shallow (top (elements es)) d e r l es (omega arith)) (λ vs. refl)

-- ---- in a document that was read, of at most 32 nestings: one depth for all

module _ (x : Setting) (p : Prepared x.document) (nested : height_of (root_node x.document.root) ≤ 32)
    (known : ℕ → Option Answer) (within : (b : ℕ) (a : Answer) → known b ≡ some a → WithinSize a) where
  abbrev tree : Root
  tree = x.document.root

  openness-low : (openness : Option Open) (N : ℕ) → HomeLow true N (top tree) openness → LowBefore tree (open_in known openness)
  openness-low none N w = tt
  openness-low (some h) N w = flat-low known within N (top tree) h.before w

  pub run-rule : (b : ℕ) (u : Unresolved) → get_elem? x.document.unresolved b ≡ some u
      → run known (rule_of x b) ≡ answer_in known tree 65 x.environment (open_in known u.openness) u.pieces
  unfolding rule_of height_of
  run-rule b u e =
      let N = count_of x in
      let all = all_listed true N tree (numbers-below x.document p) in
      let listed = subst (λ l. Each (Listed true N (top tree)) l) (sym p.listed) all in
      let at = each_at (Listed true N (top tree)) x.document.unresolved listed b u e in
      let low = at.low refl in
      rw (e, rule_of)
      (run-answer known tree x.environment u.openness u.pieces
      ∙ answer-depth known (shallow-within known within) tree x.environment
      (depth_of tree x.environment) 65 (omega arith) (omega arith)
      (open_in known u.openness) (openness-low u.openness N at.before) u.pieces (omega arith))

  -- its pieces alone
  pub run-written : (n : Node) → height_of n ≤ height_of (root_node tree)
      → run known (node_value (evaluate tree x.environment) n) ≡ node_in known (value_in known 65) n
  unfolding height_of
  run-written n low =
      run-node known (evaluate tree x.environment) (value_in known (depth_of tree x.environment)) (run-evaluate known tree x.environment) n
      ∙ node-depth known (shallow-within known within) (top tree) (depth_of tree x.environment) 65 (omega arith) (omega arith) n (omega arith)

  pub run-substituted : (b : ℕ) (u : Unresolved) → get_elem? x.document.unresolved b ≡ some u → (y : Substitution)
      → run known (substitution_value tree x.environment u.openness y)
      ≡ substitution_in known tree 65 x.environment (open_in known u.openness) y
  unfolding height_of
  run-substituted b u e y =
      let N = count_of x in
      let all = all_listed true N tree (numbers-below x.document p) in
      let listed = subst (λ l. Each (Listed true N (top tree)) l) (sym p.listed) all in
      let at = each_at (Listed true N (top tree)) x.document.unresolved listed b u e in
      run-substitution known tree x.environment u.openness y
      ∙ substitution-depth known (shallow-within known within) tree x.environment
      (depth_of tree x.environment) 65 (omega arith) (omega arith)
      (open_in known u.openness) y (openness-low u.openness N at.before)

  pub run-root-of : run known (root_of x) ≡ root_in known tree 65
  unfolding height_of
  run-root-of =
      run-root known tree x.environment
      ∙ root-depth known (shallow-within known within) (depth_of tree x.environment) 65 tree (omega arith) (omega arith)

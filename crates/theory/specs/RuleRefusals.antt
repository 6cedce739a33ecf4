-- Which refusals resolving can give: the rules of unresolved values and of the root give 9, 11 and 13 alone, beside `spent`, and with the
-- places of their own pieces; the order gives 10, 12 and 14.
use Rattle.std.specs.Prelude.{◌≡◌, Bool}
use Rattle.std.proofs.Math.Path.{refl}
use Prim.Native.Nat.{ℕ, zero, suc}
use mathlib.Core.List.{List, [], ◌∷◌}
use Rattle.std.proofs.Math.Bool.{true, false}
use Rattle.std.proofs.Math.Option.{Option, none, some}
use Rattle.std.proofs.Math.ListN.{get_elem?}
use Rattle.answers.specs.Ask.{done, refused, need, bind, Out, value, missing, or_missing, run, lookup}
use Rattle.answers.specs.Resolve.{refused, resolve}
use Rattle.answers.specs.Theory.Sound.{clash}
use Rattle.answers.specs.Theory.Invariant.{never}
use Rattle.rules.specs.Bytes.{Text}
use Rattle.rules.specs.Refusals.{Refusal, placed, nowhere, spent}
use Rattle.rules.specs.Environment.{Environment}
use Rattle.rules.specs.Tree.{string, Substitution, Node, simple, array, object, unresolved, Elements, no-elements, element}
use Rattle.rules.specs.Tree.{Pieces, no_pieces, node_piece, substituted, Root, fields, elements}
use Rattle.rules.specs.Values.{Value, scalar, array_of, object_of, Answer, within_size}
use Rattle.rules.specs.Layers.{Work, Layer, written, settled, Layers, end, layer, wait, deeper, Counted, nothing, one, merged}
use Rattle.rules.specs.Layers.{take_value, take_answer, take_layer, gather, layers_of, keys_in_order, members_of, merged_of, node_value, element_values}
use Rattle.rules.specs.Layers.{layer_value, counted_value, value_of}
use Rattle.rules.specs.Unresolved.{Unresolved, Openness, dotted, or_environment, Join, blank, text, joined_array, joined_object}
use Rattle.rules.specs.Unresolved.{join_value, join_nothing, join_answer, sized, join_piece, layers_for, depth_of, evaluate, substitution_value}
use Rattle.rules.specs.Unresolved.{several, answer_of, root_value}
use Rattle.rules.specs.Documents.{Setting, rule_of, count_of, first_byte}
use Rattle.rules.specs.Jobs.{order_of}
use Rattle.theory.specs.Numbering.{Prepared}
use Rattle.theory.specs.Reach.{Each, each_at}
use Rattle.theory.specs.Resolving.{ruled, past, rule-case, root_of, closed, root_below}

-- every refusal that a computation can come to has X, whatever the answers
pub data Only {A : Type 0} (X : Refusal → Type 0) : Work A → Type 0 where
  dones : {a : A} → Only X (done a)
  refuses : {x : Refusal} → X x → Only X (refused x)
  needs : {b : ℕ} {f : Answer → Work A} → ((a : Answer) → Only X (f a)) → Only X (need b f)

module _ {A : Type 0} {X : Refusal → Type 0} where
  pub only-bind : {B : Type 0} {m : Work A} {k : A → Work B} → Only X m → ((a : A) → Only X (k a)) → Only X (bind m k)
  only-bind dones h = h _
  only-bind (refuses r) h = refuses r
  only-bind (needs f) h = needs (λ a. only-bind (f a) h)

abbrev Comes : {A : Type 0} → (Refusal → Type 0) → Out Refusal A → Type 0
Comes X (value a) = Unit {0}
Comes X (refused x) = X x
Comes X (missing b) = Unit {0}

module _ {A : Type 0} (X : Refusal → Type 0) (known : ℕ → Option Answer) where
  comes : {m : Work A} → Only X m → Comes X (run known m)
  comes dones = tt
  comes (refuses r) = r
  comes (needs {b = b} {f = f} g) = go (known b) (λ a. comes (g a))
    where
      go : (o : Option Answer) → ((a : Answer) → Comes X (run known (f a))) → Comes X (or_missing b (λ a. run known (f a)) o)
      go none h = tt
      go (some a) h = h a

  pub only-refused : {m : Work A} {x : Refusal} → Only X m → run known m ≡ refused x → X x
  only-refused o e = rw e at (comes o)

module _ (X : Refusal → Type 0) (with-spent : X spent) where
  -- ---- values: the depth that runs out alone refuses

  module _ (eval : Layers → Work Answer) (ev : (ls : Layers) → Only X (eval ls)) where
    mutual
      unfolding node_value

      pub node-only : (n : Node) → Only X (node_value eval n)
      node-only (simple x) = dones
      node-only (array es) = only-bind (elements-only es) (λ vs. dones)
      node-only (object fs) = ev (layer (written (object fs)) end)
      node-only (unresolved b ps) = needs (λ a. dones)

      elements-only : (es : Elements) → Only X (element_values eval es)
      elements-only no-elements = dones
      elements-only (element n es) = only-bind (node-only n) (λ a. only-bind (elements-only es) (λ vs. dones))

    members_only : (ls : Layers) (ks : List Text) → Only X (members_of eval ls ks)
    unfolding members_of
    members_only ls [] = dones
    members_only ls (k ∷ ks) = only-bind (ev (deeper k ls)) (λ a. only-bind (members_only ls ks) (λ ms. dones))

    merged-only : (os : List Layer) → Only X (merged_of eval os)
    unfolding merged_of
    merged-only os = only-bind (members_only (layers_of os) (keys_in_order os)) (λ ms. dones)

    counted-only : (c : Counted) → Only X (counted_value eval c)
    unfolding counted_value layer_value
    counted-only nothing = dones
    counted-only (one (settled v)) = dones
    counted-only (one (written n)) = node-only n
    counted-only (merged os) = only-bind (merged-only os) (λ v. dones)

  module _ (os : List Layer) (go : List Layer → Work Counted) (on : (os' : List Layer) → Only X (go os')) where
    value_taken : (v : Value) → Only X (take_value v os go)
    unfolding take_value
    value_taken (scalar x) = dones
    value_taken (array_of vs) = dones
    value_taken (object_of ms) = on (settled (object_of ms) ∷ os)

    answer-taken : (a : Answer) → Only X (take_answer a os go)
    unfolding take_answer
    answer-taken none = on os
    answer-taken (some v) = value_taken v

    layer-taken : (l : Layer) → Only X (take_layer l os go)
    unfolding take_layer
    layer-taken (settled v) = value_taken v
    layer-taken (written (simple x)) = dones
    layer-taken (written (array es)) = dones
    layer-taken (written (object fs)) = on (written (object fs) ∷ os)
    layer-taken (written (unresolved b ps)) = needs answer-taken

  gather-only : (ls : Layers) (os : List Layer) → Only X (gather ls os)
  unfolding gather
  gather-only end os = dones
  gather-only (wait b f) os = needs (λ a. gather-only (f a) os)
  gather-only (layer l ls) os = layer-taken os (λ os'. gather ls os') (gather-only ls) l

  pub value-only : (depth : ℕ) (ls : Layers) → Only X (value_of depth ls)
  unfolding value_of
  value-only zero ls = refuses with-spent
  value-only (suc depth) ls = only-bind (gather-only ls []) (λ c. counted-only (value_of depth) (value-only depth) c)

  pub root-only : (root : Root) (env : Environment) → Only X (root_value root env)
  unfolding root_value
  root-only (fields fs) env = merged-only (evaluate (fields fs) env) (value-only (depth_of (fields fs) env)) (written (object fs) ∷ [])
  root-only (elements es) env =
      only-bind (elements-only (evaluate (elements es) env) (value-only (depth_of (elements es) env)) es) (λ vs. dones)

-- each piece of a value stands at a place that has P
abbrev pub PlacesIn : (ℕ → Type 0) → Pieces → Type 0
PlacesIn P no_pieces = Unit {0}
PlacesIn P (node_piece place gap n ps) = P place × PlacesIn P ps
PlacesIn P (substituted gap x ps) = P x.place × PlacesIn P ps

pub places-any : (P : ℕ → Type 0) → ((p : ℕ) → P p) → (ps : Pieces) → PlacesIn P ps
places-any P h no_pieces = tt
places-any P h (node_piece place gap n ps) = (h place, places-any P h ps)
places-any P h (substituted gap x ps) = (h x.place, places-any P h ps)

-- what is asked of X: it holds of the refusals of the rules at places that have P
pub record Rules (X : Refusal → Type 0) (P : ℕ → Type 0) : Type 0 where
  pub fuel : X spent
  pub undefined : (p : ℕ) → P p → X (placed 9 p)
  pub mixed : (p : ℕ) → P p → X (placed 11 p)
  pub large : X (nowhere 13)

module _ (X : Refusal → Type 0) (P : ℕ → Type 0) (h : Rules X P) where
  sized-only : {A : Type 0} (o : Answer) (a : A) → Only X (sized o a)
  unfolding sized
  sized-only none a = dones
  sized-only {A} (some v) a = go (within_size v)
    where
      go : (t : Bool) → Only {A = A} X (elim t as (λ _. Work A) [ true ↦ done a | false ↦ refused (nowhere 13) ])
      go true = dones
      go false = refuses h.large

  join-only : (place : ℕ) → P place → (gap : Text) (v : Value) (j : Join) → Only X (join_value place gap v j)
  unfolding join_value
  join-only place p gap (scalar x) (blank t) = dones
  join-only place p gap (scalar x) (text t) = dones
  join-only place p gap (scalar x) (joined_array vs) = refuses (h.mixed place p)
  join-only place p gap (scalar x) (joined_object ms) = refuses (h.mixed place p)
  join-only place p gap (array_of ws) (blank t) = dones
  join-only place p gap (array_of ws) (text t) = refuses (h.mixed place p)
  join-only place p gap (array_of ws) (joined_array vs) = dones
  join-only place p gap (array_of ws) (joined_object ms) = refuses (h.mixed place p)
  join-only place p gap (object_of ns) (blank t) = dones
  join-only place p gap (object_of ns) (text t) = refuses (h.mixed place p)
  join-only place p gap (object_of ns) (joined_array vs) = refuses (h.mixed place p)
  join-only place p gap (object_of ns) (joined_object ms) = dones

  piece-only : (place : ℕ) → P place → (gap : Text) (a : Answer) (j : Join) → Only X (join_piece place gap a j)
  unfolding join_piece
  piece-only place p gap none j = sized-only (join_answer (join_nothing gap j)) (join_nothing gap j)
  piece-only place p gap (some v) j =
      only-bind (sized-only (some v) v) (λ w. only-bind (join-only place p gap w j) (λ k. sized-only (join_answer k) k))

  environment-only : (env : Environment) (x : Substitution) → P x.place → (a : Answer) → Only X (or_environment env x a)
  unfolding or_environment
  environment-only env x p (some v) = dones
  environment-only env x p none = go (env (dotted x.path)) x.optional
    where
      go : (o : Option Text) (t : Bool) → Only {A = Answer} X (elim o as (λ _. Work Answer) [
        | some s ↦ done (some (scalar (string s)))
        | none ↦ elim t as (λ _. Work Answer) [ true ↦ done none | false ↦ refused (placed 9 x.place) ]
      ])
      go (some s) t = dones
      go none true = dones
      go none false = refuses (h.undefined x.place p)

  module _ (root : Root) (env : Environment) where
    substitution-only : (openness : Openness) (x : Substitution) → P x.place → Only X (substitution_value root env openness x)
    unfolding substitution_value
    substitution-only openness x p =
        only-bind (value-only X h.fuel (depth_of root env) (layers_for root openness x.path)) (λ a. environment-only env x p a)

    several-only : (openness : Openness) (ps : Pieces) → PlacesIn P ps → (j : Join) → Only X (several root env openness ps j)
    unfolding several
    several-only openness no_pieces p j = dones
    several-only openness (node_piece place gap n ps) p j =
        only-bind (node-only X h.fuel (evaluate root env) (value-only X h.fuel (depth_of root env)) n) (λ a.
        only-bind (piece-only place p.0 gap a j) (λ k. several-only openness ps p.1 k))
    several-only openness (substituted gap x ps) p j =
        only-bind (substitution-only openness x p.0) (λ a.
        only-bind (piece-only x.place p.0 gap a j) (λ k. several-only openness ps p.1 k))

    pub answer-only : (openness : Openness) (ps : Pieces) → PlacesIn P ps → Only X (answer_of root env openness ps)
    unfolding answer_of
    answer-only openness no_pieces p = dones
    answer-only openness (substituted gap x no_pieces) p = only-bind (substitution-only openness x p.0) (λ a. sized-only a a)
    answer-only openness (substituted gap x (node_piece place g n ps)) p = several-only openness (substituted gap x (node_piece place g n ps)) p (blank [])
    answer-only openness (substituted gap x (substituted g y ps)) p = several-only openness (substituted gap x (substituted g y ps)) p (blank [])
    answer-only openness (node_piece place gap n ps) p = several-only openness (node_piece place gap n ps) p (blank [])

-- ---- the order

-- an unresolved value's first byte and its pieces stand at places that have P
abbrev pub Placed : (ℕ → Type 0) → Unresolved → Type 0
Placed P u = P u.place × PlacesIn P u.pieces

-- what a test of refusals passes: those of the rules and of the order, at places that have P
pub record Passes (fine : Refusal → Bool) (P : ℕ → Type 0) : Type 0 where
  pub rules : Rules (λ x. fine x ≡ true) P
  pub circular : (p : ℕ) → P p → fine (placed 10 p) ≡ true
  pub excess : (p : ℕ) → P p → fine (placed 12 p) ≡ true
  pub full : fine (nowhere 14) ≡ true
  pub none-there : P 0

module _ (fine : Refusal → Bool) (P : ℕ → Type 0) (h : Passes fine P) (x : Setting) (p : Prepared x.document)
    (places : Each (Placed P) x.document.unresolved) where
  rule-only : (b : ℕ) → Only (λ y. fine y ≡ true) (rule_of x b)
  rule-only b =
      elim (rule-case x b) [
        | ruled u e rule ↦ rw rule (answer-only _ P h.rules x.document.root x.environment u.openness u.pieces
            (each_at (Placed P) x.document.unresolved places b u e).1)
        | past k rule ↦ rw rule (refuses h.rules.fuel)
      ]

  first-placed : (b : ℕ) → P (first_byte x b)
  unfolding first_byte
  first-placed b = go (get_elem? x.document.unresolved b) refl
    where
      go : (o : Option Unresolved) → get_elem? x.document.unresolved b ≡ o → P (elim o as (λ _. ℕ) [ none ↦ 0 | some u ↦ u.place ])
      go none e = h.none-there
      go (some u) e = (each_at (Placed P) x.document.unresolved places b u e).0

  pub resolve-fine : (trail_room text_room budget : ℕ) (y : Refusal)
      → resolve (order_of x trail_room text_room) budget (root_of x) (count_of x) ≡ refused y → fine y ≡ true
  unfolding order_of
  resolve-fine trail_room text_room budget y e = go (fine y) refl
    where
      not : (z : Refusal) → fine z ≡ true → fine y ≡ false → z ≡ y → ⊥
      not z t f q = clash (cc)

      go : (t : Bool) → fine y ≡ t → t ≡ true
      go true f = refl
      go false f =
          absurd (never (order_of x trail_room text_room) (λ a. Unit {0}) (λ S every q r run_is. tt) budget (root_of x) (count_of x)
          (closed x p trail_room text_room) (root_below x p) y
          (λ b c. not (placed 10 (first_byte x b)) (h.circular (first_byte x b) (first-placed b)) f c)
          (λ b c. not (placed 12 (first_byte x b)) (h.excess (first_byte x b) (first-placed b)) f c)
          (λ c. not (nowhere 14) h.full f c)
          (λ S every b l r. not y (only-refused (λ z. fine z ≡ true) (lookup S) (rule-only b) r) f refl)
          (λ S every r. not y (only-refused (λ z. fine z ≡ true) (lookup S) (root-only _ h.rules.fuel x.document.root x.environment) r) f refl) e)

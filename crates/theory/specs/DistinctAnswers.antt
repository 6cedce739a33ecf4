-- Every value that the rules give has distinct keys, if every answer that they take has.
use Rattle.std.specs.Prelude.{◌≡◌, refl, ℕ, zero, suc, Bool, true, false}
use Rattle.std.proofs.Common.{ap, ◌∙◌}
use mathlib.Core.List.{List, [], ◌∷◌, ◌++◌, reverse}
use Rattle.std.proofs.Math.Option.{Option, none, some}
use Rattle.answers.specs.Ask.{done, refused, need, bind, value, or_missing, run, Trail, lookup}
use Rattle.answers.specs.Resolve.{Laid}
use Rattle.answers.specs.Theory.Sound.{clash}
use Rattle.answers.specs.Theory.Invariant.{Every, laid-all}
use Rattle.rules.specs.Bytes.{Text, same}
use Rattle.rules.specs.Environment.{Environment}
use Rattle.rules.specs.Tree.{Key, Substitution, Node, simple, array, object, unresolved, Elements, no-elements, element, Fields, no_fields, field, Pieces, no_pieces, node_piece, substituted, Root, fields, elements, root_node}
use Rattle.rules.specs.Values.{Value, scalar, array_of, object_of, Values, Members, no-members, member, Answer, within_size}
use Rattle.rules.specs.Layers.{Work, Layer, written, settled, Layers, end, layer, wait, named, member_named, inside_value, inside_answer, deeper, walk_path, Counted, nothing, one, merged, of_objects, of_other, take_value, take_answer, take_layer, gather, has_key, add_key, field_keys, member_keys, layer_keys, keys_in_order, layers_of, made_item, made_member, members_of, merged_of, node_value, element_values, layer_value, counted_value, value_of}
use Rattle.rules.specs.Unresolved.{Open, Unresolved, Openness, field_openness, with_field, in_node, in_elements, in_fields, in_pieces, unresolved_in, behind, forward, layers_for, dotted, or_environment, Join, blank, text, joined_array, joined_object, join_value, join_nothing, join_answer, sized, join_piece, depth_of, evaluate, substitution_value, several, answer_of, root_value}
use Rattle.rules.specs.Documents.{Setting, rule_of}
use Rattle.rules.specs.Jobs.{order_of}
use Rattle.theory_text.specs.Choices.{by-test, by-option}
use Rattle.theory.specs.Reach.{Each, each_append, each_at, each-reverse}
use Rattle.theory.specs.Numbering.{Prepared}
use Rattle.theory.specs.Resolving.{ruled, past, rule-case}
use Rattle.rules.specs.NamedValues.{member_of, Distinct, DistinctValues, DistinctMembers, DistinctAnswer}
use Rattle.theory.specs.DistinctKeys.{apart, member-past, join-distinct, merge-distinct}

-- ---- layers

abbrev pub DistinctLayer : Layer → Type 0
DistinctLayer (written n) = Unit {0}
DistinctLayer (settled v) = Distinct v

-- under answers that are so
abbrev pub DistinctLayers : Layers → Type 0
DistinctLayers end = Unit {0}
DistinctLayers (layer l ls) = DistinctLayer l × DistinctLayers ls
DistinctLayers (wait b f) = (a : Answer) → DistinctAnswer a → DistinctLayers (f a)

pub named-distinct : (k : Text) (fs : Fields) (below : Layers) → DistinctLayers below → DistinctLayers (named k fs below)
unfolding named
named-distinct k no_fields below d = d
named-distinct k (field j n fs) below d = named-distinct k fs _ (by-test DistinctLayers (same j.text k) (λ e. (tt, d)) (λ e. d))

member-layers : (k : Text) (ms : Members) (below : Layers) → DistinctMembers ms → DistinctLayers below
    → DistinctLayers (member_named k ms below)
unfolding member_named
member-layers k no-members below m d = d
member-layers k (member j v ms) below m d =
    by-test DistinctLayers (same j k) (λ e. (m.1, d)) (λ e. member-layers k ms below m.2 d)

inside-distinct : (k : Text) (v : Value) (below : Layers) → Distinct v → DistinctLayers below → DistinctLayers (inside_value k v below)
unfolding inside_value
inside-distinct k (scalar x) below m d = tt
inside-distinct k (array_of vs) below m d = tt
inside-distinct k (object_of ms) below m d = member-layers k ms below m d

answer-layers : (k : Text) (a : Answer) (below : Layers) → DistinctAnswer a → DistinctLayers below → DistinctLayers (inside_answer k a below)
unfolding inside_answer
answer-layers k none below m d = d
answer-layers k (some v) below m d = inside-distinct k v below m d

pub deeper-distinct : (k : Text) (ls : Layers) → DistinctLayers ls → DistinctLayers (deeper k ls)
unfolding deeper
deeper-distinct k end d = tt
deeper-distinct k (wait b f) d = λ a e. deeper-distinct k (f a) (d a e)
deeper-distinct k (layer (settled v) ls) d = inside-distinct k v (deeper k ls) d.0 (deeper-distinct k ls d.1)
deeper-distinct k (layer (written (simple x)) ls) d = tt
deeper-distinct k (layer (written (array es)) ls) d = tt
deeper-distinct k (layer (written (object fs)) ls) d = named-distinct k fs (deeper k ls) (deeper-distinct k ls d.1)
deeper-distinct k (layer (written (unresolved b ps)) ls) d = λ a e. answer-layers k a (deeper k ls) e (deeper-distinct k ls d.1)

pub path-distinct : (p : List Text) (ls : Layers) → DistinctLayers ls → DistinctLayers (walk_path p ls)
unfolding walk_path
path-distinct [] ls d = d
path-distinct (k ∷ ks) ls d = path-distinct ks (deeper k ls) (deeper-distinct k ls d)

-- ---- keys in order: none stands twice

abbrev OnceEach : List Text → Type 0
OnceEach [] = Unit {0}
OnceEach (k ∷ ks) = (has_key k ks ≡ false) × OnceEach ks

-- a key that is not there is not the first one, and not behind it
key-past : (k j : Text) (ks : List Text) → has_key k (j ∷ ks) ≡ false → (same k j ≡ false) × (has_key k ks ≡ false)
unfolding has_key
key-past k j ks e = go (same k j) refl e
  where
    go : (t : Bool) → same k j ≡ t → elim t as (λ _. Bool) [ true ↦ true | false ↦ has_key k ks ] ≡ false
        → (same k j ≡ false) × (has_key k ks ≡ false)
    go true h z = clash (cc)
    go false h z = (h, z)

no_key : (k j : Text) (ks : List Text) → same k j ≡ false → has_key k ks ≡ false → has_key k (j ∷ ks) ≡ false
unfolding has_key
no_key k j ks e f = rw (has_key, e) f

pub key-last : (k j : Text) (ks : List Text) → has_key k ks ≡ false → same k j ≡ false → has_key k (ks ++ (j ∷ [])) ≡ false
unfolding has_key
key-last k j [] e f = no_key k j [] f refl
key-last k j (i ∷ ks) e f = let p = key-past k i ks e in no_key k i (ks ++ (j ∷ [])) p.0 (key-last k j ks p.1 f)

last-once : (k : Text) (ks : List Text) → has_key k ks ≡ false → OnceEach ks → OnceEach (ks ++ (k ∷ []))
unfolding has_key
last-once k [] e o = (refl, tt)
last-once k (j ∷ ks) e o =
    let p = key-past k j ks e in
    (key-last j k ks o.0 (apart k j p.0), last-once k ks p.1 o.1)

add_once : (k : Text) (ks : List Text) → OnceEach ks → OnceEach (add_key k ks)
unfolding add_key
add_once k ks o = by-test OnceEach (has_key k ks) (λ e. o) (λ e. last-once k ks e o)

fields-once : (fs : Fields) (ks : List Text) → OnceEach ks → OnceEach (field_keys fs ks)
unfolding field_keys
fields-once no_fields ks o = o
fields-once (field k n fs) ks o = fields-once fs (add_key k.text ks) (add_once k.text ks o)

members-once : (ms : Members) (ks : List Text) → OnceEach ks → OnceEach (member_keys ms ks)
unfolding member_keys
members-once no-members ks o = o
members-once (member k v ms) ks o = members-once ms (add_key k ks) (add_once k ks o)

layer-once : (l : Layer) (ks : List Text) → OnceEach ks → OnceEach (layer_keys l ks)
unfolding layer_keys
layer-once (settled (scalar x)) ks o = o
layer-once (settled (array_of vs)) ks o = o
layer-once (settled (object_of ms)) ks o = members-once ms ks o
layer-once (written (simple x)) ks o = o
layer-once (written (array es)) ks o = o
layer-once (written (object fs)) ks o = fields-once fs ks o
layer-once (written (unresolved b ps)) ks o = o

keys-once : (os : List Layer) → OnceEach (keys_in_order os)
unfolding keys_in_order
keys-once [] = tt
keys-once (o ∷ os) = layer-once o (keys_in_order os) (keys-once os)

-- ---- computations: a result has Q, if the answers taken have distinct keys

abbrev Gives : {A : Type 0} → (A → Type 0) → Work A → Type 0
Gives Q (done a) = Q a
Gives Q (refused x) = Unit {0}
Gives Q (need b f) = (a : Answer) → DistinctAnswer a → Gives Q (f a)

gives-bind : {A B : Type 0} (P : A → Type 0) (Q : B → Type 0) (m : Work A) (k : A → Work B)
    → Gives P m → ((a : A) → P a → Gives Q (k a)) → Gives Q (bind m k)
gives-bind P Q (done a) k g h = h a g
gives-bind P Q (refused x) k g h = tt
gives-bind P Q (need b f) k g h = λ a d. gives-bind P Q (f a) k (g a d) h

-- members of keys among these
abbrev Among : List Text → Members → Type 0
Among ks ms = (j : Text) → has_key j ks ≡ false → member_of j ms ≡ none

abbrev DistinctAmong : List Text → Members → Type 0
DistinctAmong ks ms = DistinctMembers ms × Among ks ms

made-among : (k : Text) (ks : List Text) (a : Answer) (ms : Members) → has_key k ks ≡ false → DistinctAnswer a → DistinctAmong ks ms
    → DistinctAmong (k ∷ ks) (made_member k a ms)
made-among k ks none ms o d e = (e.0, λ j h. e.1 j (key-past j k ks h).1)
made-among k ks (some v) ms o d e = (
  (e.1 k o, d, e.0),
  λ j h.
      let p = key-past j k ks h in
      member-past j k v ms (apart j k p.0) ∙ e.1 j p.1,
)

made-item : (a : Answer) (vs : Values) → DistinctAnswer a → DistinctValues vs → DistinctValues (made_item a vs)
made-item none vs d e = e
made-item (some v) vs d e = (d, e)

layers-of : (os : List Layer) → Each DistinctLayer os → DistinctLayers (layers_of os)
unfolding layers_of
layers-of [] e = tt
layers-of (o ∷ os) e = (e.0, layers-of os e.1)

-- ---- what counts

abbrev DistinctCounted : Counted → Type 0
DistinctCounted nothing = Unit {0}
DistinctCounted (one l) = DistinctLayer l
DistinctCounted (merged os) = Each DistinctLayer os

objects-distinct : (os : List Layer) → Each DistinctLayer os → DistinctCounted (of_objects os)
unfolding of_objects
objects-distinct [] d = tt
objects-distinct (o ∷ os) d = d

other-distinct : (l : Layer) (os : List Layer) → DistinctLayer l → Each DistinctLayer os → DistinctCounted (of_other l (reverse os))
unfolding of_other
other-distinct l os d e = go (reverse os) (each-reverse DistinctLayer os e)
  where
    go : (ps : List Layer) → Each DistinctLayer ps → DistinctCounted (of_other l ps)
    go [] f = d
    go (p ∷ ps) f = f

module _ (os : List Layer) (d : Each DistinctLayer os) (go : List Layer → Work Counted)
    (on : (ps : List Layer) → Each DistinctLayer ps → Gives DistinctCounted (go ps)) where
  value-counts : (v : Value) → Distinct v → Gives DistinctCounted (take_value v os go)
  unfolding take_value
  value-counts (scalar x) e = other-distinct (settled (scalar x)) os e d
  value-counts (array_of vs) e = other-distinct (settled (array_of vs)) os e d
  value-counts (object_of ms) e = on (settled (object_of ms) ∷ os) (e, d)

  answer-counts : (a : Answer) → DistinctAnswer a → Gives DistinctCounted (take_answer a os go)
  unfolding take_answer
  answer-counts none e = on os d
  answer-counts (some v) e = value-counts v e

  layer-counts : (l : Layer) → DistinctLayer l → Gives DistinctCounted (take_layer l os go)
  unfolding take_layer
  layer-counts (settled v) e = value-counts v e
  layer-counts (written (simple x)) e = other-distinct (written (simple x)) os e d
  layer-counts (written (array es)) e = other-distinct (written (array es)) os e d
  layer-counts (written (object fs)) e = on (written (object fs) ∷ os) (e, d)
  layer-counts (written (unresolved b ps)) e = λ a f. answer-counts a f

gather-gives : (ls : Layers) → DistinctLayers ls → (os : List Layer) → Each DistinctLayer os → Gives DistinctCounted (gather ls os)
unfolding gather
gather-gives end d os e = objects-distinct (reverse os) (each-reverse DistinctLayer os e)
gather-gives (wait b f) d os e = λ a g. gather-gives (f a) (d a g) os e
gather-gives (layer l ls) d os e = layer-counts os e (λ ps. gather ls ps) (λ ps f. gather-gives ls d.1 ps f) l d.0

-- ---- values

module _ (eval : Layers → Work Answer) (ev : (ls : Layers) → DistinctLayers ls → Gives DistinctAnswer (eval ls)) where
  members-give : (ls : Layers) → DistinctLayers ls → (ks : List Text) → OnceEach ks → Gives (DistinctAmong ks) (members_of eval ls ks)
  unfolding members_of member_of
  members-give ls d [] o = (tt, λ j h. refl)
  members-give ls d (k ∷ ks) o =
      gives-bind DistinctAnswer (DistinctAmong (k ∷ ks)) (eval (deeper k ls)) _ (ev (deeper k ls) (deeper-distinct k ls d)) (λ a e.
      gives-bind (DistinctAmong ks) (DistinctAmong (k ∷ ks)) (members_of eval ls ks) _ (members-give ls d ks o.1) (λ ms f.
      made-among k ks a ms o.0 e f))

  merged-give : (os : List Layer) → Each DistinctLayer os → Gives Distinct (merged_of eval os)
  unfolding merged_of
  merged-give os e =
      gives-bind (DistinctAmong (keys_in_order os)) Distinct (members_of eval (layers_of os) (keys_in_order os)) _
      (members-give (layers_of os) (layers-of os e) (keys_in_order os) (keys-once os)) (λ ms f. f.0)

  mutual
    unfolding node_value

    node-gives : (n : Node) → Gives DistinctAnswer (node_value eval n)
    node-gives (simple x) = tt
    node-gives (array es) = gives-bind DistinctValues DistinctAnswer (element_values eval es) _ (elements-give es) (λ vs d. d)
    node-gives (object fs) = ev (layer (written (object fs)) end) (tt, tt)
    node-gives (unresolved b ps) = λ a d. d

    elements-give : (es : Elements) → Gives DistinctValues (element_values eval es)
    elements-give no-elements = tt
    elements-give (element n es) =
        gives-bind DistinctAnswer DistinctValues (node_value eval n) _ (node-gives n) (λ a d.
        gives-bind DistinctValues DistinctValues (element_values eval es) _ (elements-give es) (λ vs e. made-item a vs d e))

  layer-gives : (l : Layer) → DistinctLayer l → Gives DistinctAnswer (layer_value eval l)
  unfolding layer_value
  layer-gives (settled v) d = d
  layer-gives (written n) d = node-gives n

  counted-gives : (c : Counted) → DistinctCounted c → Gives DistinctAnswer (counted_value eval c)
  unfolding counted_value
  counted-gives nothing d = tt
  counted-gives (one l) d = layer-gives l d
  counted-gives (merged os) d = gives-bind Distinct DistinctAnswer (merged_of eval os) _ (merged-give os d) (λ v e. e)

value-gives : (depth : ℕ) (ls : Layers) → DistinctLayers ls → Gives DistinctAnswer (value_of depth ls)
unfolding value_of
value-gives zero ls d = tt
value-gives (suc depth) ls d =
    gives-bind DistinctCounted DistinctAnswer (gather ls []) _ (gather-gives ls d [] tt)
    (λ c e. counted-gives (value_of depth) (λ ms f. value-gives depth ms f) c e)

-- ---- pieces and joins

abbrev DistinctJoin : Join → Type 0
DistinctJoin (blank t) = Unit {0}
DistinctJoin (text t) = Unit {0}
DistinctJoin (joined_array vs) = DistinctValues vs
DistinctJoin (joined_object ms) = DistinctMembers ms

value-joined : (place : ℕ) (gap : Text) (v : Value) (j : Join) → Distinct v → DistinctJoin j → Gives DistinctJoin (join_value place gap v j)
unfolding join_value
value-joined place gap (scalar x) (blank t) d e = tt
value-joined place gap (scalar x) (text t) d e = tt
value-joined place gap (scalar x) (joined_array vs) d e = tt
value-joined place gap (scalar x) (joined_object ms) d e = tt
value-joined place gap (array_of ws) (blank t) d e = d
value-joined place gap (array_of ws) (text t) d e = tt
value-joined place gap (array_of ws) (joined_array vs) d e = join-distinct vs ws e d
value-joined place gap (array_of ws) (joined_object ms) d e = tt
value-joined place gap (object_of ns) (blank t) d e = d
value-joined place gap (object_of ns) (text t) d e = tt
value-joined place gap (object_of ns) (joined_array vs) d e = tt
value-joined place gap (object_of ns) (joined_object ms) d e = merge-distinct ns ms d e

nothing-joined : (gap : Text) (j : Join) → DistinctJoin j → DistinctJoin (join_nothing gap j)
unfolding join_nothing
nothing-joined gap (blank t) d = tt
nothing-joined gap (text t) d = tt
nothing-joined gap (joined_array vs) d = d
nothing-joined gap (joined_object ms) d = d

answer-joined : (j : Join) → DistinctJoin j → DistinctAnswer (join_answer j)
unfolding join_answer
answer-joined (blank t) d = tt
answer-joined (text t) d = tt
answer-joined (joined_array vs) d = d
answer-joined (joined_object ms) d = d

sized-gives : {A : Type 0} (Q : A → Type 0) (o : Answer) (a : A) → Q a → Gives Q (sized o a)
unfolding sized
sized-gives Q none a q = q
sized-gives Q (some v) a q = by-test (Gives Q) (within_size v) (λ e. q) (λ e. tt)

piece-joined : (place : ℕ) (gap : Text) (a : Answer) (j : Join) → DistinctAnswer a → DistinctJoin j
    → Gives DistinctJoin (join_piece place gap a j)
unfolding join_piece
piece-joined place gap none j d e = sized-gives DistinctJoin (join_answer (join_nothing gap j)) (join_nothing gap j) (nothing-joined gap j e)
piece-joined place gap (some v) j d e =
    gives-bind Distinct DistinctJoin (sized (some v) v) _ (sized-gives Distinct (some v) v d) (λ w f.
    gives-bind DistinctJoin DistinctJoin (join_value place gap w j) _ (value-joined place gap w j f e) (λ k g.
    sized-gives DistinctJoin (join_answer k) k g))

environment-gives : (env : Environment) (x : Substitution) (a : Answer) → DistinctAnswer a → Gives DistinctAnswer (or_environment env x a)
unfolding or_environment
environment-gives env x (some v) d = d
environment-gives env x none d =
    by-option (Gives DistinctAnswer) (env (dotted x.path))
    (λ e. by-test (Gives DistinctAnswer) x.optional (λ f. tt) (λ f. tt)) (λ s e. tt)

-- ---- the rules

abbrev pub DistinctHome : Option Open → Type 0
DistinctHome none = Unit {0}
DistinctHome (some h) = DistinctLayers h.before

module _ (root : Root) (env : Environment) where
  path-from : (openness : Option Open) (p : List Text) → DistinctHome openness → DistinctLayers (layers_for root openness p)
  unfolding layers_for forward
  path-from none p d = path-distinct p (layer (written (root_node root)) end) (tt, tt)
  path-from (some h) p d =
      by-option DistinctLayers (behind h.path p)
      (λ e. path-distinct p (layer (written (root_node root)) end) (tt, tt)) (λ rest e. path-distinct rest h.before d)

  substitution-gives : (openness : Option Open) (x : Substitution) → DistinctHome openness
      → Gives DistinctAnswer (substitution_value root env openness x)
  unfolding substitution_value
  substitution-gives openness x d =
      gives-bind DistinctAnswer DistinctAnswer (evaluate root env (layers_for root openness x.path)) _
      (value-gives (depth_of root env) (layers_for root openness x.path) (path-from openness x.path d))
      (λ a e. environment-gives env x a e)

  several-give : (openness : Option Open) → DistinctHome openness → (ps : Pieces) (j : Join) → DistinctJoin j
      → Gives DistinctAnswer (several root env openness ps j)
  unfolding several
  several-give openness d no_pieces j e = answer-joined j e
  several-give openness d (node_piece place gap n ps) j e =
      gives-bind DistinctAnswer DistinctAnswer (node_value (evaluate root env) n) _
      (node-gives (evaluate root env) (λ ls f. value-gives (depth_of root env) ls f) n) (λ a f.
      gives-bind DistinctJoin DistinctAnswer (join_piece place gap a j) _ (piece-joined place gap a j f e) (λ k g.
      several-give openness d ps k g))
  several-give openness d (substituted gap x ps) j e =
      gives-bind DistinctAnswer DistinctAnswer (substitution_value root env openness x) _ (substitution-gives openness x d) (λ a f.
      gives-bind DistinctJoin DistinctAnswer (join_piece x.place gap a j) _ (piece-joined x.place gap a j f e) (λ k g.
      several-give openness d ps k g))

  answer-gives : (openness : Option Open) → DistinctHome openness → (ps : Pieces) → Gives DistinctAnswer (answer_of root env openness ps)
  unfolding answer_of
  answer-gives openness d no_pieces = tt
  answer-gives openness d (substituted gap x no_pieces) =
      gives-bind DistinctAnswer DistinctAnswer (substitution_value root env openness x) _ (substitution-gives openness x d)
      (λ a e. sized-gives DistinctAnswer a a e)
  answer-gives openness d (substituted gap x (node_piece place g n ps)) =
      several-give openness d (substituted gap x (node_piece place g n ps)) (blank []) tt
  answer-gives openness d (substituted gap x (substituted g y ps)) =
      several-give openness d (substituted gap x (substituted g y ps)) (blank []) tt
  answer-gives openness d (node_piece place gap n ps) = several-give openness d (node_piece place gap n ps) (blank []) tt

root-gives : (root : Root) (env : Environment) → Gives Distinct (root_value root env)
unfolding root_value
root-gives (fields fs) env =
    let r = fields fs in
    merged-give (evaluate r env) (λ ls d. value-gives (depth_of r env) ls d) (written (object fs) ∷ []) (tt, tt)
root-gives (elements es) env =
    let r = elements es in
    gives-bind DistinctValues Distinct (element_values (evaluate r env) es) _
    (elements-give (evaluate r env) (λ ls d. value-gives (depth_of r env) ls d) es) (λ vs d. d)

-- ---- the unresolved values of a document: the layers before them

abbrev pub DistinctBefore : Unresolved → Type 0
DistinctBefore u = DistinctHome u.openness

field-openness-distinct : (openness : Openness) (earlier : Fields) (k : Key) → DistinctHome openness → DistinctHome (field_openness openness earlier k)
unfolding field_openness
field-openness-distinct none earlier k d = tt
field-openness-distinct (some h) earlier k d =
    named-distinct k.text earlier (deeper k.text h.before) (deeper-distinct k.text h.before d)

mutual
  unfolding in_node

  in-node : (n : Node) (openness : Openness) → DistinctHome openness → Each DistinctBefore (in_node openness n)
  in-node (simple x) openness d = tt
  in-node (array es) openness d = in-elements es
  in-node (object fs) openness d = in-fields fs openness no_fields d
  in-node (unresolved b ps) openness d = (d, in-pieces ps)

  in-elements : (es : Elements) → Each DistinctBefore (in_elements es)
  in-elements no-elements = tt
  in-elements (element n es) = each_append DistinctBefore (in_node none n) (in_elements es) (in-node n none tt) (in-elements es)

  in-fields : (fs : Fields) (openness : Openness) (earlier : Fields) → DistinctHome openness → Each DistinctBefore (in_fields fs openness earlier)
  in-fields no_fields openness earlier d = tt
  in-fields (field k n fs) openness earlier d =
      each_append DistinctBefore (in_node (field_openness openness earlier k) n) (in_fields fs openness (with_field earlier k n))
      (in-node n (field_openness openness earlier k) (field-openness-distinct openness earlier k d)) (in-fields fs openness (with_field earlier k n) d)

  in-pieces : (ps : Pieces) → Each DistinctBefore (in_pieces ps)
  in-pieces no_pieces = tt
  in-pieces (node_piece place gap n ps) = each_append DistinctBefore (in_node none n) (in_pieces ps) (in-node n none tt) (in-pieces ps)
  in-pieces (substituted gap x ps) = in-pieces ps

pub all-distinct : (root : Root) → Each DistinctBefore (unresolved_in root)
unfolding unresolved_in
all-distinct (fields fs) = in-fields fs (some (record { path = []; before = end })) no_fields tt
all-distinct (elements es) = in-elements es

-- ---- runs

module _ (known : ℕ → Option Answer) (distinct : (b : ℕ) (v : Value) → known b ≡ some (some v) → Distinct v) where
  known-distinct : (b : ℕ) (a : Answer) → known b ≡ some a → DistinctAnswer a
  known-distinct b none e = tt
  known-distinct b (some v) e = distinct b v e

  gives-run : {A : Type 0} (Q : A → Type 0) (m : Work A) (a : A) → Gives Q m → run known m ≡ value a → Q a
  gives-run Q (done c) a g e = let z : c ≡ a = cc in rw z at g
  gives-run Q (refused x) a g e = clash (cc)
  gives-run Q (need b f) a g e = go (known b) refl e (λ c d. gives-run Q (f c) a (g c d))
    where
      go : (o : Option Answer) → known b ≡ o → or_missing b (λ c. run known (f c)) o ≡ value a
          → ((c : Answer) → DistinctAnswer c → run known (f c) ≡ value a → Q a) → Q a
      go none h e ih = clash (cc)
      go (some c) h e ih = ih c (known-distinct b c h) e

  pub value-distinct : (depth : ℕ) (ls : Layers) → DistinctLayers ls → (v : Value)
      → run known (value_of depth ls) ≡ value (some v) → Distinct v
  value-distinct depth ls d v e = gives-run DistinctAnswer (value_of depth ls) (some v) (value-gives depth ls d) e

  pub answer-distinct : (root : Root) (env : Environment) (openness : Option Open) → DistinctHome openness → (pieces : Pieces) (v : Value)
      → run known (answer_of root env openness pieces) ≡ value (some v) → Distinct v
  answer-distinct root env openness d pieces v e =
      gives-run DistinctAnswer (answer_of root env openness pieces) (some v) (answer-gives root env openness d pieces) e

  pub root-distinct : (root : Root) (env : Environment) (v : Value) → run known (root_value root env) ≡ value v → Distinct v
  root-distinct root env v e = gives-run Distinct (root_value root env) v (root-gives root env) e

-- ---- so are all answers of an accepted trail

module _ (x : Setting) (p : Prepared x.document) where
  rule-distinct : (S : Trail Answer) → Every DistinctAnswer S → (b : ℕ) (a : Answer)
      → run (lookup S) (rule_of x b) ≡ value a → DistinctAnswer a
  rule-distinct S every b none e = tt
  rule-distinct S every b (some v) e =
      elim (rule-case x b) [
        | ruled u at rule ↦
            let root = x.document.root in
            answer-distinct (lookup S) (λ c w h. every c (some w) h) root x.environment u.openness
            (each_at DistinctBefore (unresolved_in root) (all-distinct root) b u (cc p.listed)) u.pieces v (rw rule at e)
        | past k rule ↦ clash (cc (ap (run (lookup S)) rule))
      ]

  module _ (trail_room text_room : ℕ) where
    pub laid-distinct : (T : Trail Answer) → Laid (order_of x trail_room text_room) T → Every DistinctAnswer T
    unfolding order_of
    laid-distinct = laid-all (order_of x trail_room text_room) DistinctAnswer (λ S every b a e. rule-distinct S every b a e)

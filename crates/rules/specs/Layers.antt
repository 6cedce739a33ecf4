-- Document 01, "Resolving": layers of a path and the value of a path, as computations that may need answers of unresolved values.
use Rattle.std.specs.Prelude.{ℕ, zero, suc, Bool, true, false}
use mathlib.Core.List.{List, [], ◌∷◌, ◌++◌, reverse}
use Rattle.std.proofs.Math.Option.{none, some}
use Rattle.answers.specs.Ask.{Ask, done, refused, need, bind}
use Rattle.rules.specs.Bytes.{Text, same}
use Rattle.rules.specs.Refusals.{Refusal, spent}
use Rattle.rules.specs.Tree.{Node, simple, array, object, unresolved, Elements, no-elements, element, Fields, no_fields, field}
use Rattle.rules.specs.Values.{Value, scalar, array_of, object_of, Values, no-values, val, Members, no-members, member, Answer}

-- a computation of the rules
abbrev pub Work : Type 0 → Type 0
Work A = Ask Refusal Answer A

-- what one layer of a path holds: a field's value as written, or a member out of an answer
pub data Layer : Type 0 where
  written : Node → Layer
  settled : Value → Layer

-- "Layers of a path, last first, walked only as far as needed": a list that may wait for an answer before it goes on
pub data Layers : Type 0 where
  end : Layers
  layer : Layer → Layers → Layers
  wait : ℕ → (Answer → Layers) → Layers

-- ---- "For q then key k, go through q's layers"

-- "a literal gives its fields named k, last first", and then what is below
unfoldable pub named : Text → Fields → Layers → Layers
unfolding same
named k no_fields below = below
named k (field j n fs) below = named k fs (elim (same j.text k) [ true ↦ layer (written n) below | false ↦ below ])

unfoldable pub member_named : Text → Members → Layers → Layers
unfolding same
member_named k no-members below = below
member_named k (member j v ms) below = elim (same j k) [ true ↦ layer (settled v) below | false ↦ member_named k ms below ]

-- "a blend's answer gives its member k", "any other value stops the walk"
unfoldable pub inside_value : Text → Value → Layers → Layers
unfolding member_named
inside_value k (scalar x) below = end
inside_value k (array_of vs) below = end
inside_value k (object_of ms) below = member_named k ms below

-- "an undefined answer gives nothing"
unfoldable pub inside_answer : Text → Answer → Layers → Layers
unfolding inside_value
inside_answer k none below = below
inside_answer k (some v) below = inside_value k v below

unfoldable pub deeper : Text → Layers → Layers
unfolding named inside_value inside_answer
deeper k end = end
deeper k (wait b f) = wait b (λ a. deeper k (f a))
deeper k (layer (settled v) rest) = inside_value k v (deeper k rest)
deeper k (layer (written (simple x)) rest) = end
deeper k (layer (written (array es)) rest) = end
deeper k (layer (written (object fs)) rest) = named k fs (deeper k rest)
deeper k (layer (written (unresolved b ps)) rest) = wait b (λ a. inside_answer k a (deeper k rest))

unfoldable pub walk_path : List Text → Layers → Layers
unfolding deeper
walk_path [] ls = ls
walk_path (k ∷ ks) ls = walk_path ks (deeper k ls)

-- ---- "Value of a path: take layers last first, skip undefined answers; a non-object is the result at once; an object merges with
-- those below until a non-object or the end."

-- what counts: nothing, one layer that is no object, or the objects to merge, last first
pub data Counted : Type 0 where
  nothing : Counted
  one : Layer → Counted
  merged : List Layer → Counted

-- "Nothing left means undefined."
unfoldable pub of_objects : List Layer → Counted
of_objects [] = nothing
of_objects (o ∷ os) = merged (o ∷ os)

-- a layer that is no object: the result where none is above it, else the end
unfoldable pub of_other : Layer → List Layer → Counted
of_other l [] = one l
of_other l (o ∷ os) = merged (o ∷ os)

-- one layer, the objects above it lowest first, and how to go on below
unfoldable pub take_value : Value → List Layer → (List Layer → Work Counted) → Work Counted
unfolding of_other
take_value (scalar x) os go = done (of_other (settled (scalar x)) (reverse os))
take_value (array_of vs) os go = done (of_other (settled (array_of vs)) (reverse os))
take_value (object_of ms) os go = go (settled (object_of ms) ∷ os)

unfoldable pub take_answer : Answer → List Layer → (List Layer → Work Counted) → Work Counted
unfolding take_value
take_answer none os go = go os
take_answer (some v) os go = take_value v os go

unfoldable pub take_layer : Layer → List Layer → (List Layer → Work Counted) → Work Counted
unfolding take_value take_answer of_other
take_layer (settled v) os go = take_value v os go
take_layer (written (simple x)) os go = done (of_other (written (simple x)) (reverse os))
take_layer (written (array es)) os go = done (of_other (written (array es)) (reverse os))
take_layer (written (object fs)) os go = go (written (object fs) ∷ os)
take_layer (written (unresolved b ps)) os go = need b (λ a. take_answer a os go)

unfoldable pub gather : Layers → List Layer → Work Counted
unfolding of_objects take_layer
gather end os = done (of_objects (reverse os))
gather (wait b f) os = need b (λ a. gather (f a) os)
gather (layer l rest) os = take_layer l os (λ os'. gather rest os')

-- ---- "each key's value is taken in order of first appearance, lowest counted layer first (undefined fields appear too)"

unfoldable pub has_key : Text → List Text → Bool
unfolding same
has_key k [] = false
has_key k (j ∷ ks) = elim (same k j) [ true ↦ true | false ↦ has_key k ks ]

unfoldable pub add_key : Text → List Text → List Text
unfolding has_key
add_key k ks = elim (has_key k ks) [ true ↦ ks | false ↦ ks ++ (k ∷ []) ]

unfoldable pub field_keys : Fields → List Text → List Text
unfolding add_key
field_keys no_fields ks = ks
field_keys (field k n fs) ks = field_keys fs (add_key k.text ks)

unfoldable pub member_keys : Members → List Text → List Text
unfolding add_key
member_keys no-members ks = ks
member_keys (member k v ms) ks = member_keys ms (add_key k ks)

-- only objects are merged
unfoldable pub layer_keys : Layer → List Text → List Text
unfolding field_keys member_keys
layer_keys (settled (scalar x)) ks = ks
layer_keys (settled (array_of vs)) ks = ks
layer_keys (settled (object_of ms)) ks = member_keys ms ks
layer_keys (written (simple x)) ks = ks
layer_keys (written (array es)) ks = ks
layer_keys (written (object fs)) ks = field_keys fs ks
layer_keys (written (unresolved b ps)) ks = ks

unfoldable pub keys_in_order : List Layer → List Text
unfolding layer_keys
keys_in_order [] = []
keys_in_order (o ∷ os) = layer_keys o (keys_in_order os)

unfoldable pub layers_of : List Layer → Layers
layers_of [] = end
layers_of (o ∷ os) = layer o (layers_of os)

-- ---- values; `eval` gives the value of layers

-- "An undefined element or field is not made."
abbrev pub made_item : Answer → Values → Values
made_item none vs = vs
made_item (some v) vs = val v vs

abbrev pub made_member : Text → Answer → Members → Members
made_member k none ms = ms
made_member k (some v) ms = member k v ms

module _ (eval : Layers → Work Answer) where
  unfoldable pub members_of : Layers → List Text → Work Members
  unfolding deeper
  members_of ls [] = done no-members
  members_of ls (k ∷ ks) = bind (eval (deeper k ls)) (λ a. bind (members_of ls ks) (λ ms. done (made_member k a ms)))

  unfoldable pub merged_of : List Layer → Work Value
  unfolding members_of layers_of keys_in_order
  merged_of os = bind (members_of (layers_of os) (keys_in_order os)) (λ ms. done (object_of ms))

  -- The value of a node that is no path's: an element, or a piece of an unresolved value. "All other objects (in arrays, or pieces of
  -- blends) are closed: small roots of their own for layers." Also a path's own simple value or array, which has no layers to merge.
  unfoldable mutual
    pub node_value : Node → Work Answer
    node_value (simple x) = done (some (scalar x))
    node_value (array es) = bind (element_values es) (λ vs. done (some (array_of vs)))
    node_value (object fs) = eval (layer (written (object fs)) end)
    node_value (unresolved b ps) = need b (λ a. done a)

    pub element_values : Elements → Work Values
    element_values no-elements = done no-values
    element_values (element n es) = bind (node_value n) (λ a. bind (element_values es) (λ vs. done (made_item a vs)))

  unfoldable pub layer_value : Layer → Work Answer
  unfolding node_value
  layer_value (settled v) = done (some v)
  layer_value (written n) = node_value n

  unfoldable pub counted_value : Counted → Work Answer
  unfolding layer_value merged_of
  counted_value nothing = done none
  counted_value (one l) = layer_value l
  counted_value (merged os) = bind (merged_of os) (λ v. done (some v))

-- The value of a path, from its layers. The depth bounds how far values go down inside one another, and is never used up (module
-- Resolving of `theory`).
unfoldable pub value_of : ℕ → Layers → Work Answer
unfolding gather counted_value
value_of zero ls = refused spent
value_of (suc depth) ls = bind (gather ls []) (λ c. counted_value (value_of depth) c)

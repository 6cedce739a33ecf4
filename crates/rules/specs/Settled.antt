-- With the answers given, lazy layers are a list, last first, that ends or is stuck at an unresolved value without an answer; and the rules
-- on layers are rules on such lists. Nothing waits in them: an unresolved value is its answer, or nothing, or the place where it is stuck.
-- That they are the same is shown in module Settled of `theory`.
use Prim.Native.Nat.{ℕ, zero, suc}
use mathlib.Core.List.{List, [], ◌∷◌, reverse}
use Rattle.std.specs.Prelude.{Bool}
use Rattle.std.proofs.Math.Bool.{true, false}
use Rattle.std.proofs.Math.Option.{Option, none, some}
use Rattle.answers.specs.Ask.{Out, value, refused, missing, then}
use Rattle.rules.specs.Bytes.{Text, same}
use Rattle.rules.specs.Refusals.{Refusal, spent}
use Rattle.rules.specs.Tree.{Node, simple, array, object, unresolved, Elements, no-elements, element, Fields, no_fields, field}
use Rattle.rules.specs.Values.{Value, scalar, array_of, object_of, Values, no-values, Members, no-members, member, Answer}
use Rattle.rules.specs.Layers.{Layer, written, settled, Layers, end, layer, wait, Counted, nothing, one, merged, of_objects, of_other, keys_in_order, made_item, made_member}

-- how a walk ended
pub data Ending : Type 0 where
  no : Ending
  at : ℕ → Ending

abbrev pub Settled : Type 0
Settled = List Layer × Ending

abbrev pub Given : Type 0 → Type 0
Given A = Out Refusal A

unfoldable pub push : Layer → Settled → Settled
push l w = (l ∷ w.0, w.1)

-- an unresolved value above what is below it
unfoldable pub push_answer : ℕ → Option Answer → Settled → Settled
unfolding push
push_answer b none w = ([], at b)
push_answer b (some none) w = w
push_answer b (some (some v)) w = push (settled v) w

module _ (known : ℕ → Option Answer) where
  unfoldable pub push_node : Node → Settled → Settled
  unfolding push push_answer
  push_node (simple x) w = push (written (simple x)) w
  push_node (array es) w = push (written (array es)) w
  push_node (object fs) w = push (written (object fs)) w
  push_node (unresolved b ps) w = push_answer b (known b) w

  unfoldable pub push_layer : Layer → Settled → Settled
  unfolding push push_node
  push_layer (written n) w = push_node n w
  push_layer (settled v) w = push (settled v) w

  unfoldable pub flat : Layers → Settled
  unfolding push_layer
  flat end = ([], no)
  flat (layer l rest) = push_layer l (flat rest)
  flat (wait b f) = elim (known b) [ none ↦ ([], at b) | some a ↦ flat (f a) ]

  unfoldable pub push_all : List Layer → Settled
  unfolding push_layer
  push_all [] = ([], no)
  push_all (o ∷ os) = push_layer o (push_all os)

  -- ---- one key deeper

  abbrev pub push_if : Bool → Node → Settled → Settled
  unfolding push_node
  push_if true n w = push_node n w
  push_if false n w = w

  unfoldable pub named_in : Text → Fields → Settled → Settled
  unfolding same push_node
  named_in k no_fields w = w
  named_in k (field j n fs) w = named_in k fs (push_if (same j.text k) n w)

  unfoldable pub member_in : Text → Members → Settled → Settled
  unfolding same push
  member_in k no-members w = w
  member_in k (member j v ms) w = elim (same j k) [ true ↦ push (settled v) w | false ↦ member_in k ms w ]

  unfoldable pub inside_in : Text → Layer → Settled → Settled
  unfolding named_in member_in
  inside_in k (settled (scalar x)) w = ([], no)
  inside_in k (settled (array_of vs)) w = ([], no)
  inside_in k (settled (object_of ms)) w = member_in k ms w
  inside_in k (written (simple x)) w = ([], no)
  inside_in k (written (array es)) w = ([], no)
  inside_in k (written (object fs)) w = named_in k fs w
  inside_in k (written (unresolved b ps)) w = w

  unfoldable pub deeper_in : Text → List Layer → Ending → Settled
  unfolding inside_in
  deeper_in k [] st = ([], st)
  deeper_in k (l ∷ ls) st = inside_in k l (deeper_in k ls st)

  abbrev pub deeper_of : Text → Settled → Settled
  unfolding deeper_in
  deeper_of k w = deeper_in k w.0 w.1

  unfoldable pub walk_in : List Text → Settled → Settled
  unfolding deeper_in
  walk_in [] w = w
  walk_in (k ∷ ks) w = walk_in ks (deeper_of k w)

  -- ---- what counts

  abbrev pub end_of : Ending → List Layer → Given Counted
  unfolding of_objects
  end_of no os = value (of_objects (reverse os))
  end_of (at b) os = missing b

  -- the objects above, lowest first
  unfoldable pub gather_in : List Layer → Ending → List Layer → Given Counted
  unfolding of_objects of_other
  gather_in [] st os = end_of st os
  gather_in (settled (scalar x) ∷ ls) st os = value (of_other (settled (scalar x)) (reverse os))
  gather_in (settled (array_of vs) ∷ ls) st os = value (of_other (settled (array_of vs)) (reverse os))
  gather_in (settled (object_of ms) ∷ ls) st os = gather_in ls st (settled (object_of ms) ∷ os)
  gather_in (written (simple x) ∷ ls) st os = value (of_other (written (simple x)) (reverse os))
  gather_in (written (array es) ∷ ls) st os = value (of_other (written (array es)) (reverse os))
  gather_in (written (object fs) ∷ ls) st os = gather_in ls st (written (object fs) ∷ os)
  gather_in (written (unresolved b ps) ∷ ls) st os = gather_in ls st os

  abbrev pub gather_of : Settled → List Layer → Given Counted
  unfolding gather_in
  gather_of w os = gather_in w.0 w.1 os

  -- ---- values; `ev` gives the value of settled layers

  abbrev pub answered : ℕ → Option Answer → Given Answer
  answered b none = missing b
  answered b (some a) = value a

  module _ (ev : Settled → Given Answer) where
    unfoldable pub members_in : Settled → List Text → Given Members
    unfolding deeper_in
    members_in w [] = value no-members
    members_in w (k ∷ ks) = then (ev (deeper_of k w)) (λ a. then (members_in w ks) (λ ms. value (made_member k a ms)))

    unfoldable pub merged_in : List Layer → Given Value
    unfolding members_in push_all keys_in_order
    merged_in os = then (members_in (push_all os) (keys_in_order os)) (λ ms. value (object_of ms))

    unfoldable mutual
      unfolding push_node

      pub node_in : Node → Given Answer
      node_in (simple x) = value (some (scalar x))
      node_in (array es) = then (elements_in es) (λ vs. value (some (array_of vs)))
      node_in (object fs) = ev (written (object fs) ∷ [], no)
      node_in (unresolved b ps) = answered b (known b)

      pub elements_in : Elements → Given Values
      elements_in no-elements = value no-values
      elements_in (element n es) = then (node_in n) (λ a. then (elements_in es) (λ vs. value (made_item a vs)))

    unfoldable pub layer_in : Layer → Given Answer
    unfolding node_in
    layer_in (settled v) = value (some v)
    layer_in (written n) = node_in n

    unfoldable pub counted_in : Counted → Given Answer
    unfolding layer_in merged_in
    counted_in nothing = value none
    counted_in (one l) = layer_in l
    counted_in (merged os) = then (merged_in os) (λ v. value (some v))

  unfoldable pub value_in : ℕ → Settled → Given Answer
  unfolding gather_in counted_in
  value_in zero w = refused spent
  value_in (suc depth) w = then (gather_of w []) (λ c. counted_in (value_in depth) c)

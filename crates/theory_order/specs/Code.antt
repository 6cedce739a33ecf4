-- Settling as the code does it, function by function. It goes by levels: an array takes one and so does an object; a finished value needs
-- nothing; an object that stands alone is settled as a layer of its own.
use Prim.Native.Nat.{ℕ, zero, suc}
use mathlib.Core.List.{List, [], ◌∷◌}
use Rattle.std.proofs.Math.Option.{none, some}
use Rattle.answers.specs.Ask.{lookup}
use Rattle.answers.specs.Resolve.{answer, after}
use Rattle.rules.specs.Bytes.{Text}
use Rattle.rules.specs.Refusals.{Refusal}
use Rattle.rules.specs.Tree.{Node, simple, array, object, unresolved, Elements, no-elements, element}
use Rattle.rules.specs.Values.{Answer}
use Rattle.rules.specs.Layers.{Layer, written, settled, Counted, nothing, one, merged, keys_in_order}
use Rattle.theory_order.specs.Ready.{Worker, ready}
use Rattle.theory_order.specs.Settle.{Settler, key_in}

-- what a level offers: a layer settled at it, and several objects settled one level lower
pub record Level : Type 0 where
  pub node : Settler Layer
  pub objects : Settler (List Layer)

-- `g` works a missing answer out; there are N questions
module _ (g : Worker Refusal Answer) (N : ℕ) where
  module _ (v : Level) where
    -- `settle_field` once no answer of its layers is missing
    abbrev pub counted_by : Settler Counted
    counted_by nothing S n = answer tt S n
    counted_by (one l) S n = v.node l S n
    counted_by (merged []) S n = answer tt S n
    counted_by (merged (o ∷ [])) S n = v.node o S n
    counted_by (merged (o ∷ (o' ∷ os))) S n = v.objects (o ∷ (o' ∷ os)) S n

    -- `settle_field`: key k of the objects os
    unfoldable pub field_by : List Layer → Settler Text
    unfolding key_in
    field_by os k S n = after (ready g (key_in os k) (suc N) S n) (λ c S' n'. counted_by c S' n')

    -- `settle_object`, of the keys that are still to come
    unfoldable pub keys_by : List Layer → Settler (List Text)
    unfolding field_by
    keys_by os [] S n = answer tt S n
    keys_by os (k ∷ ks) S n = after (field_by os k S n) (λ _ S' n'. keys_by os ks S' n')

    -- `settle_object`
    unfoldable pub objects_by : Settler (List Layer)
    unfolding keys_by keys_in_order
    objects_by os S n = keys_by os (keys_in_order os) S n

    -- `settle_element`
    abbrev pub element_by : Settler Node
    element_by (simple x) S n = v.node (written (simple x)) S n
    element_by (array es) S n = v.node (written (array es)) S n
    element_by (object fs) S n = v.node (written (object fs)) S n
    element_by (unresolved b ps) S n = elim (lookup S b) [ none ↦ g b S n | some a ↦ answer tt S n ]

    -- `settle_elements`, of the elements that are still to come
    unfoldable pub elements_by : Settler Elements
    elements_by no-elements S n = answer tt S n
    elements_by (element m es) S n = after (element_by m S n) (λ _ S' n'. elements_by es S' n')

    -- `settle_node` one level higher
    unfoldable pub node_by : Settler Layer
    unfolding objects_by elements_by
    node_by (settled x) S n = answer tt S n
    node_by (written (simple x)) S n = answer tt S n
    node_by (written (array es)) S n = elements_by es S n
    node_by (written (object fs)) S n = objects_by (written (object fs) ∷ []) S n
    node_by (written (unresolved b ps)) S n = answer tt S n

  -- so many levels; at the lowest nothing is left to settle
  unfoldable pub level_at : ℕ → Level
  unfolding node_by objects_by
  level_at zero = record { node = λ l S n. answer tt S n; objects = λ os S n. answer tt S n }
  level_at (suc d) = let v = level_at d in record { node = node_by v; objects = objects_by v }

-- Settling by depth, as the rules evaluate: a value's layers are gone through in document 01's order and nothing is made of them; a missing
-- answer is worked out where it is first met, and only the layers of that one key are gathered again. This is the middle between the
-- rules (module Settling) and the code (module Code).
use Prim.Native.Nat.{ℕ, zero, suc}
use mathlib.Core.List.{List, [], ◌∷◌}
use Rattle.std.proofs.Math.Option.{none, some}
use Rattle.answers.specs.Ask.{value, Trail, lookup}
use Rattle.answers.specs.Resolve.{answer, refused, after}
use Rattle.rules.specs.Bytes.{Text}
use Rattle.rules.specs.Refusals.{Refusal, spent}
use Rattle.rules.specs.Tree.{Node, simple, array, object, unresolved, Elements, no-elements, element, Root, fields, elements}
use Rattle.rules.specs.Values.{Answer}
use Rattle.rules.specs.Layers.{Layer, written, settled, Counted, nothing, one, merged, keys_in_order}
use Rattle.rules.specs.Settled.{push_all, deeper_in, deeper_of, gather_in, gather_of}
use Rattle.theory_order.specs.Walks.{Ended}
use Rattle.theory_order.specs.Ready.{Worker, Runs, ready}

-- what settles an A, from a trail and a count
abbrev pub Settler : Type 0 → Type 0
Settler A = A → Trail Answer → ℕ → Ended Refusal Answer

-- what counts of layers, by the answers that are known: nothing, one layer, objects to merge, or a missing answer
abbrev pub Gathering : Type 0
Gathering = Runs Refusal Answer Counted

-- of key k in the objects os, last written first: settled lists of layers, so that nothing waits in them
unfoldable pub key_in : List Layer → Text → Gathering
unfolding push_all deeper_in gather_in
key_in os k known = gather_of known (deeper_of known k (push_all known os)) []

-- of an object that stands alone
abbrev pub alone : Layer → Gathering
alone o known = value (merged (o ∷ []))

-- `settle` settles what counts of a key's layers
module _ (settle : Settler Gathering) where
  unfoldable pub settle_keys : List Layer → Settler (List Text)
  unfolding key_in
  settle_keys os [] S n = answer tt S n
  settle_keys os (k ∷ ks) S n = after (settle (key_in os k) S n) (λ _ S' n'. settle_keys os ks S' n')

  unfoldable pub settle_objects : Settler (List Layer)
  unfolding settle_keys keys_in_order
  settle_objects os S n = settle_keys os (keys_in_order os) S n

  -- `g` works a missing answer out
  module _ (g : Worker Refusal Answer) where
    unfoldable mutual
      pub settle_node : Settler Node
      settle_node (simple x) S n = answer tt S n
      settle_node (array es) S n = settle_elements es S n
      settle_node (object fs) S n = settle (alone (written (object fs))) S n
      settle_node (unresolved b ps) S n = elim (lookup S b) [ none ↦ g b S n | some a ↦ answer tt S n ]

      pub settle_elements : Settler Elements
      settle_elements no-elements S n = answer tt S n
      settle_elements (element m es) S n = after (settle_node m S n) (λ _ S' n'. settle_elements es S' n')

    unfoldable pub settle_layer : Settler Layer
    unfolding settle_node
    settle_layer (settled v) S n = answer tt S n
    settle_layer (written m) S n = settle_node m S n

    unfoldable pub settle_counted : Settler Counted
    unfolding settle_layer settle_objects
    settle_counted nothing S n = answer tt S n
    settle_counted (one l) S n = settle_layer l S n
    settle_counted (merged os) S n = settle_objects os S n

-- N questions; the depth bounds how far values go down inside one another, and is never used up
module _ (g : Worker Refusal Answer) (N : ℕ) where
  unfoldable pub settle_gathered : ℕ → Settler Gathering
  unfolding settle_counted
  settle_gathered zero u S n = refused spent
  settle_gathered (suc depth) u S n = after (ready g u (suc N) S n) (λ c S' n'. settle_counted (settle_gathered depth) g c S' n')

  unfoldable pub settle_root : ℕ → Settler Root
  unfolding settle_gathered settle_objects settle_node
  settle_root depth root S n = elim root [
    | fields fs ↦ settle_objects (settle_gathered depth) (written (object fs) ∷ []) S n
    | elements es ↦ settle_elements (settle_gathered depth) g es S n
  ]

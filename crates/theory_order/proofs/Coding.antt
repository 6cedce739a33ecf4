-- With levels enough, the code's recursion settles as settling at depth 65 does.
use Rattle.std.specs.Prelude.{◌≡◌}
use Rattle.std.proofs.Math.Path.{refl, sym, ap}
use Rattle.std.proofs.Common.{◌∙◌, arith}
use Prim.Native.Nat.{ℕ, zero, suc, ◌+◌, ◌≤◌}
use mathlib.Core.List.{List, [], ◌∷◌}
use Rattle.std.proofs.Math.Bool.{true}
use Rattle.answers.specs.Ask.{Trail}
use Rattle.answers.specs.Resolve.{answer, after}
use Rattle.answers.specs.Theory.Holds.{after_cong}
use Rattle.answers.specs.Theory.Invariant.{Every}
use Rattle.rules.specs.Bytes.{Text}
use Rattle.rules.specs.Refusals.{Refusal}
use Rattle.rules.specs.Tree.{Node, simple, array, object, unresolved, Elements, no-elements, element, Root, fields, elements, root_node, height_of, highest_element, AllNode, AllElements}
use Rattle.rules.specs.Values.{scalar, array_of, object_of, Answer, nesting_of}
use Rattle.rules.specs.Layers.{Layer, written, settled, Counted, nothing, one, merged, keys_in_order}
use Rattle.theory.specs.Reach.{Each, InRange}
use Rattle.theory_order.specs.Walks.{Ended}
use Rattle.theory_order.specs.Ready.{Working}
use Rattle.theory_order.specs.Settle.{Settler, key_in, settle_keys, settle_objects, settle_node, settle_elements, settle_layer, settle_counted, settle_root}
use Rattle.theory_order.specs.Fitting.{Proper, Plain, Fit, FitObject, FitCounted, fit-objects, fit-up, all_up}
use Rattle.theory_order.specs.Levels.{settle_now, key_step, object-step, finished-step, node-keeps, key-keeps, key-ready}
use Rattle.theory_order.specs.Code.{Level, counted_by, field_by, keys_by, objects_by, element_by, elements_by, node_by, level_at}

module _ {P : Trail Answer → ℕ → Type 0} (w : Working Refusal Answer P) (proper : (S : Trail Answer) (n : ℕ) → P S n → Every Proper S) where
  -- two settle alike wherever P holds
  abbrev Same : (s s' : Trail Answer → ℕ → Ended Refusal Answer) → Type 0
  Same s s' = (S : Trail Answer) (n : ℕ) → P S n → s S n ≡ s' S n

  abbrev settle : Settler Counted
  settle = settle_counted (settle_now w) w.worker

  -- what a level must do of layers and objects of height d
  record Meets (d : ℕ) (v : Level) : Type 0 where
    nodes : (l : Layer) → Fit true w.count d l → Plain l → Same (v.node l) (settle_layer (settle_now w) w.worker l)
    several : (os : List Layer) → Each (FitObject true w.count d) os → Same (v.objects os) (settle_objects (settle_now w) os)

  module _ (d : ℕ) (small : d ≤ 64) (v : Level) (level : Meets d v) where
    -- a single object is a layer of its own
    single-meets : (o : Layer) → FitObject true w.count d o → Same (v.node o) (settle_objects (settle_now w) (o ∷ []))
    unfolding settle_layer settle_node
    single-meets (settled (scalar x)) f S n p = absurd f.1
    single-meets (settled (array_of vs)) f S n p = absurd f.1
    single-meets (settled (object_of ms)) f S n p =
        level.nodes (settled (object_of ms)) f.0 tt S n p
        ∙ sym (finished-step w proper S n p ms (fit-up w.count d 64 small (settled (object_of ms)) f.0))
    single-meets (written (simple x)) f S n p = absurd f.1
    single-meets (written (array es)) f S n p = absurd f.1
    single-meets (written (object fs)) f S n p =
        level.nodes (written (object fs)) f.0 tt S n p
        ∙ object-step w proper S n p fs (fit-up w.count d 64 small (written (object fs)) f.0)
    single-meets (written (unresolved b ps)) f S n p = absurd f.1

    counted-meets : (c : Counted) → FitCounted true w.count d c → Same (counted_by w.worker w.count v c) (settle c)
    unfolding settle_counted settle_objects settle_keys keys_in_order
    counted-meets nothing f S n p = refl
    counted-meets (one l) f S n p = level.nodes l f.0 f.1 S n p
    counted-meets (merged []) f S n p = refl
    counted-meets (merged (o ∷ [])) f S n p = single-meets o f.0 S n p
    counted-meets (merged (o ∷ (o' ∷ os))) f S n p = level.several (o ∷ (o' ∷ os)) f S n p

    field-meets : (os : List Layer) → Each (Fit true w.count (suc d)) os → (k : Text)
        → Same (field_by w.worker w.count v os k) (settle_now w (key_in os k))
    unfolding field_by
    field-meets os f k S n p =
        after_cong (key-ready w proper S n p true (suc d) os f k) (λ c S' n' a. counted-meets c a.3 S' n' a.0)
        ∙ sym (key_step w proper S n p os (all_up w.count (suc d) 65 (omega arith) os f) k)

    keys-meet : (os : List Layer) → Each (Fit true w.count (suc d)) os → (ks : List Text)
        → Same (keys_by w.worker w.count v os ks) (settle_keys (settle_now w) os ks)
    unfolding keys_by settle_keys
    keys-meet os f [] S n p = refl
    keys-meet os f (k ∷ ks) S n p =
        ap (λ (m : Ended Refusal Answer). after m (λ _ S' n'. keys_by w.worker w.count v os ks S' n')) (field-meets os f k S n p)
        ∙ after_cong (key-keeps w proper S n p true (suc d) os f k) (λ _ S' n' b. keys-meet os f ks S' n' b.0)

    objects-meet : (os : List Layer) → Each (Fit true w.count (suc d)) os
        → Same (objects_by w.worker w.count v os) (settle_objects (settle_now w) os)
    unfolding objects_by settle_objects
    objects-meet os f = keys-meet os f (keys_in_order os)

    element-meets : (m : Node) → AllNode (InRange w.count) m → height_of m + 32 ≤ d
        → Same (element_by w.worker w.count v m) (settle_node (settle_now w) w.worker m)
    unfolding settle_layer settle_node
    element-meets (simple x) a r = level.nodes (written (simple x)) ((a, λ _. r), λ _. tt) tt
    element-meets (array es) a r = level.nodes (written (array es)) ((a, λ _. r), λ _. tt) tt
    element-meets (object fs) a r = level.nodes (written (object fs)) ((a, λ _. r), λ _. tt) tt
    element-meets (unresolved b ps) a r = λ S n p. refl

    elements-meet : (es : Elements) → AllElements (InRange w.count) es → highest_element es + 32 ≤ d
        → Same (elements_by w.worker w.count v es) (settle_elements (settle_now w) w.worker es)
    unfolding elements_by settle_elements height_of
    elements-meet no-elements a r S n p = refl
    elements-meet (element m es) a r S n p =
        ap (λ (s : Ended Refusal Answer). after s (λ _ S' n'. elements_by w.worker w.count v es S' n'))
        (element-meets m a.0 (omega arith) S n p)
        ∙ after_cong (node-keeps w proper S n p m a.0) (λ _ S' n' b. elements-meet es a.1 (omega arith) S' n' b.0)

    node-meets : suc d ≤ 64 → (l : Layer) → Fit true w.count (suc d) l → Plain l
        → Same (node_by w.worker w.count v l) (settle_layer (settle_now w) w.worker l)
    unfolding node_by settle_layer settle_node height_of
    node-meets less (settled x) f q S n p = refl
    node-meets less (written (simple x)) f q S n p = refl
    node-meets less (written (array es)) f q S n p = elements-meet es f.0.0 (omega (arith, f.0.1 refl)) S n p
    node-meets less (written (object fs)) f q S n p =
        objects-meet (written (object fs) ∷ []) (f, tt) S n p
        ∙ sym (object-step w proper S n p fs (fit-up w.count (suc d) 64 less (written (object fs)) f))
    node-meets less (written (unresolved b ps)) f q S n p = absurd q

  -- ---- all levels

  levels-meet : (d : ℕ) → d ≤ 64 → Meets d (level_at w.worker w.count d)
  unfolding level_at settle_layer settle_objects settle_keys keys_in_order nesting_of
  levels-meet zero small = record { nodes = lowest; several = none_left }
    where
      lowest : (l : Layer) → Fit true w.count 0 l → Plain l → Same (λ S n. answer tt S n) (settle_layer (settle_now w) w.worker l)
      lowest (settled x) f q S n p = refl
      lowest (written m) f q S n p = absurd (omega (arith, f.0.1 refl))

      none_left : (os : List Layer) → Each (FitObject true w.count 0) os → Same (λ S n. answer tt S n) (settle_objects (settle_now w) os)
      none_left [] f S n p = refl
      none_left (settled (scalar x) ∷ os) f S n p = absurd f.0.1
      none_left (settled (array_of vs) ∷ os) f S n p = absurd f.0.1
      none_left (settled (object_of ms) ∷ os) f S n p = absurd (omega (arith, f.0.0.0 refl))
      none_left (written m ∷ os) f S n p = absurd (omega (arith, f.0.0.0.1 refl))
  levels-meet (suc d) small =
      let below = levels-meet d (omega arith) in
      let v = level_at w.worker w.count d in
      record {
        nodes = node-meets d (omega arith) v below small;
        several = λ os f. objects-meet d (omega arith) v below os (fit-objects true w.count (suc d) os f);
      }

  -- the root, with a level for itself
  pub root-meets : (root : Root) → AllNode (InRange w.count) (root_node root) → height_of (root_node root) ≤ 32
      → Same ((level_at w.worker w.count 65).node (written (root_node root))) (settle_root w.worker w.count 65 root)
  unfolding level_at node_by settle_root height_of
  root-meets (fields fs) a r =
      objects-meet 64 (omega arith) (level_at w.worker w.count 64) (levels-meet 64 (omega arith))
      (written (object fs) ∷ []) (((a, λ _. omega arith), λ _. tt), tt)
  root-meets (elements es) a r =
      elements-meet 64 (omega arith) (level_at w.worker w.count 64) (levels-meet 64 (omega arith)) es a (omega arith)

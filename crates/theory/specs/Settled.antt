-- The rules on lazy layers, with the answers given, are the rules on settled ones (module Settled of `rules`).
use Rattle.std.proofs.Math.Path.{◌≡◌, refl, ap}
use Rattle.std.proofs.Common.{sym, ◌∙◌}
use Prim.Native.Nat.{ℕ, zero, suc}
use mathlib.Core.List.{List, [], ◌∷◌}
use Rattle.std.specs.Prelude.{Bool}
use Rattle.std.proofs.Math.Bool.{true, false}
use Rattle.std.proofs.Math.Option.{Option, none, some}
use Rattle.answers.specs.Ask.{done, refused, bind, value, missing, or_missing, run, then}
use Rattle.answers.specs.Theory.Bind.{run_bind}
use Rattle.rules.specs.Bytes.{Text, same}
use Rattle.rules.specs.Tree.{Node, simple, array, object, unresolved, Elements, no-elements, element, Fields, no_fields, field}
use Rattle.rules.specs.Values.{Value, scalar, array_of, object_of, Members, no-members, member, Answer}
use Rattle.rules.specs.Settled.{at, Settled, Given, push, push_answer, push_layer, flat, push_all, push_if, named_in, member_in, inside_in, deeper_in, deeper_of, walk_in, gather_in, gather_of, answered, members_in, merged_in, node_in, elements_in, layer_in, counted_in, value_in}
use Rattle.rules.specs.Layers.{Work, Layer, written, settled, Layers, end, layer, wait, named, member_named, inside_value, inside_answer, deeper, walk_path, Counted, nothing, one, merged, take_value, take_answer, take_layer, gather, keys_in_order, layers_of, made_item, made_member, members_of, merged_of, node_value, element_values, layer_value, counted_value, value_of}

module _ (known : ℕ → Option Answer) where
  flat-test : (t : Bool) (n : Node) (below : Layers)
      → flat known (elim t as (λ _. Layers) [ true ↦ layer (written n) below | false ↦ below ]) ≡ push_if known t n (flat known below)
  unfolding flat
  flat-test true n below = refl
  flat-test false n below = refl

  pub flat-named : (k : Text) (fs : Fields) (below : Layers) → flat known (named k fs below) ≡ named_in known k fs (flat known below)
  unfolding named named_in
  flat-named k no_fields below = refl
  flat-named k (field j n fs) below = flat-named k fs _ ∙ ap (named_in known k fs) (flat-test (same j.text k) n below)

  flat-member : (k : Text) (ms : Members) (below : Layers) → flat known (member_named k ms below) ≡ member_in known k ms (flat known below)
  unfolding member_named member_in flat
  flat-member k no-members below = refl
  flat-member k (member j v ms) below = go (same j k) (flat-member k ms below)
    where
      go : (t : Bool) → flat known (member_named k ms below) ≡ member_in known k ms (flat known below) → flat known (elim t as (λ _. Layers) [ true ↦ layer (settled v) below | false ↦ member_named k ms below ])
          ≡ elim t as (λ _. Settled) [ true ↦ push (settled v) (flat known below) | false ↦ member_in known k ms (flat known below) ]
      go true h = refl
      go false h = h

  flat-inside : (k : Text) (v : Value) (below : Layers) → flat known (inside_value k v below) ≡ inside_in known k (settled v) (flat known below)
  unfolding inside_value inside_in flat
  flat-inside k (scalar x) below = refl
  flat-inside k (array_of vs) below = refl
  flat-inside k (object_of ms) below = flat-member k ms below

  -- an answer that is waited for
  flat-answer : (k : Text) (b : ℕ) (ls : Layers) (w : Settled) → flat known ls ≡ deeper_of known k w
      → flat known (wait b (λ a. inside_answer k a ls)) ≡ deeper_of known k (push_answer b (known b) w)
  unfolding flat inside_answer push_answer deeper_in
  flat-answer k b ls w e = go (known b)
    where
      go : (o : Option Answer) → ◌≡◌ {A = Settled} (elim o [ none ↦ ([], at b) | some a ↦ flat known (inside_answer k a ls) ]) (deeper_of known k (push_answer b o w))
      go none = refl
      go (some none) = e
      go (some (some v)) = flat-inside k v ls ∙ ap (inside_in known k (settled v)) e

  pub flat-deeper : (k : Text) (ls : Layers) → flat known (deeper k ls) ≡ deeper_of known k (flat known ls)
  unfolding deeper deeper_in flat
  flat-deeper k end = refl
  flat-deeper k (wait b f) = go (known b) (λ a. flat-deeper k (f a))
    where
      go : (o : Option Answer) → ((a : Answer) → flat known (deeper k (f a)) ≡ deeper_of known k (flat known (f a)))
          → ◌≡◌ {A = Settled} (elim o [ none ↦ ([], at b) | some a ↦ flat known (deeper k (f a)) ])
          (deeper_of known k (elim o as (λ _. Settled) [ none ↦ ([], at b) | some a ↦ flat known (f a) ]))
      go none h = refl
      go (some a) h = h a
  flat-deeper k (layer (settled v) rest) = flat-inside k v (deeper k rest) ∙ ap (inside_in known k (settled v)) (flat-deeper k rest)
  flat-deeper k (layer (written (simple x)) rest) = refl
  flat-deeper k (layer (written (array es)) rest) = refl
  flat-deeper k (layer (written (object fs)) rest) = flat-named k fs (deeper k rest) ∙ ap (named_in known k fs) (flat-deeper k rest)
  flat-deeper k (layer (written (unresolved b ps)) rest) = flat-answer k b (deeper k rest) (flat known rest) (flat-deeper k rest)

  pub flat_walk : (ks : List Text) (ls : Layers) → flat known (walk_path ks ls) ≡ walk_in known ks (flat known ls)
  unfolding walk_path walk_in
  flat_walk [] ls = refl
  flat_walk (k ∷ ks) ls = flat_walk ks (deeper k ls) ∙ ap (walk_in known ks) (flat-deeper k ls)

  pub flat-layers : (os : List Layer) → flat known (layers_of os) ≡ push_all known os
  unfolding layers_of push_all flat
  flat-layers [] = refl
  flat-layers (o ∷ os) = ap (push_layer known o) (flat-layers os)

  -- ---- what counts

  run-taken : (v : Value) (os : List Layer) (go : List Layer → Work Counted) (w : Settled) → ((ps : List Layer) → run known (go ps) ≡ gather_of known w ps)
      → run known (take_value v os go) ≡ gather_of known (push (settled v) w) os
  unfolding take_value gather_in push
  run-taken (scalar x) os go w h = refl
  run-taken (array_of vs) os go w h = refl
  run-taken (object_of ms) os go w h = h (settled (object_of ms) ∷ os)

  run-answer : (b : ℕ) (o : Option Answer) (os : List Layer) (go : List Layer → Work Counted) (w : Settled)
      → ((ps : List Layer) → run known (go ps) ≡ gather_of known w ps) → or_missing b (λ a. run known (take_answer a os go)) o ≡ gather_of known (push_answer b o w) os
  unfolding take_answer gather_in push_answer
  run-answer b none os go w h = refl
  run-answer b (some none) os go w h = h os
  run-answer b (some (some v)) os go w h = run-taken v os go w h

  run-layer : (l : Layer) (os : List Layer) (go : List Layer → Work Counted) (w : Settled) → ((ps : List Layer) → run known (go ps) ≡ gather_of known w ps)
      → run known (take_layer l os go) ≡ gather_of known (push_layer known l w) os
  unfolding take_layer gather_in push_layer push
  run-layer (settled v) os go w h = run-taken v os go w h
  run-layer (written (simple x)) os go w h = refl
  run-layer (written (array es)) os go w h = refl
  run-layer (written (object fs)) os go w h = h (written (object fs) ∷ os)
  run-layer (written (unresolved b ps)) os go w h = run-answer b (known b) os go w h

  pub run-gather : (ls : Layers) (os : List Layer) → run known (gather ls os) ≡ gather_of known (flat known ls) os
  unfolding gather gather_in flat
  run-gather end os = refl
  run-gather (wait b f) os = go (known b) (λ a. run-gather (f a) os)
    where
      go : (o : Option Answer) → ((a : Answer) → run known (gather (f a) os) ≡ gather_of known (flat known (f a)) os)
          → or_missing b (λ a. run known (gather (f a) os)) o ≡ gather_of known (elim o as (λ _. Settled) [ none ↦ ([], at b) | some a ↦ flat known (f a) ]) os
      go none h = refl
      go (some a) h = h a
  run-gather (layer l rest) os = run-layer l os (λ ps. gather rest ps) (flat known rest) (λ ps. run-gather rest ps)

  -- ---- values; `ev` gives the value of settled layers

  pub then_same : {A B : Type 0} {x y : Given A} {f g : A → Given B} → x ≡ y → ((a : A) → f a ≡ g a) → then x f ≡ then y g
  then_same {x = value a} {f = f} {g = g} e h = rw (sym e) (h a)
  then_same {x = refused z} e h = rw (sym e) refl
  then_same {x = missing b} e h = rw (sym e) refl

  module _ (eval : Layers → Work Answer) (ev : Settled → Given Answer) (h : (ls : Layers) → run known (eval ls) ≡ ev (flat known ls)) where
    run-members : (ls : Layers) (ks : List Text) → run known (members_of eval ls ks) ≡ members_in known ev (flat known ls) ks
    unfolding members_of members_in
    run-members ls [] = refl
    run-members ls (k ∷ ks) =
        run_bind known (eval (deeper k ls)) (λ a. bind (members_of eval ls ks) (λ ms. done (made_member k a ms)))
        ∙ then_same (h (deeper k ls) ∙ ap ev (flat-deeper k ls)) (λ a.
        run_bind known (members_of eval ls ks) (λ ms. done (made_member k a ms)) ∙ then_same (run-members ls ks) (λ ms. refl))

    pub run-merged : (os : List Layer) → run known (merged_of eval os) ≡ merged_in known ev os
    unfolding merged_of merged_in
    run-merged os =
        run_bind known (members_of eval (layers_of os) (keys_in_order os)) (λ ms. done (object_of ms))
        ∙ then_same (run-members (layers_of os) (keys_in_order os) ∙ ap (λ (w : Settled). members_in known ev w (keys_in_order os)) (flat-layers os)) (λ ms. refl)

    mutual
      unfolding node_value node_in flat push_layer

      pub run-node : (n : Node) → run known (node_value eval n) ≡ node_in known ev n
      run-node (simple x) = refl
      run-node (array es) = run_bind known (element_values eval es) (λ vs. done (some (array_of vs))) ∙ then_same (run-elements es) (λ vs. refl)
      run-node (object fs) = h (layer (written (object fs)) end)
      run-node (unresolved b ps) = go (known b)
        where
          go : (o : Option Answer) → or_missing b (λ a. value a) o ≡ answered known b o
          go none = refl
          go (some a) = refl

      pub run-elements : (es : Elements) → run known (element_values eval es) ≡ elements_in known ev es
      run-elements no-elements = refl
      run-elements (element n es) =
          run_bind known (node_value eval n) (λ a. bind (element_values eval es) (λ vs. done (made_item a vs)))
          ∙ then_same (run-node n) (λ a. run_bind known (element_values eval es) (λ vs. done (made_item a vs)) ∙ then_same (run-elements es) (λ vs. refl))

    run-one : (l : Layer) → run known (layer_value eval l) ≡ layer_in known ev l
    unfolding layer_value layer_in
    run-one (settled v) = refl
    run-one (written n) = run-node n

    run-counted : (c : Counted) → run known (counted_value eval c) ≡ counted_in known ev c
    unfolding counted_value counted_in
    run-counted nothing = refl
    run-counted (one l) = run-one l
    run-counted (merged os) = run_bind known (merged_of eval os) (λ v. done (some v)) ∙ then_same (run-merged os) (λ v. refl)

  pub run_value : (depth : ℕ) (ls : Layers) → run known (value_of depth ls) ≡ value_in known depth (flat known ls)
  unfolding value_of value_in
  run_value zero ls = refl
  run_value (suc depth) ls =
      run_bind known (gather ls []) (λ c. counted_value (value_of depth) c)
      ∙ then_same (run-gather ls []) (λ c. run-counted (value_of depth) (value_in known depth) (λ m. run_value depth m) c)

-- One depth, 65, serves every document: 32 for its nestings, 32 for an answer's, and one. So settling at depth 65 goes by steps that no
-- longer count, and these are the steps of the code.
use Rattle.std.specs.Prelude.{◌≡◌, refl, ℕ, pred, ◌+◌, ◌≤◌, ◌<◌, List, [], ◌∷◌, Bool, true, false}
use Rattle.std.proofs.Math.Path.{sym, ap}
use Rattle.std.proofs.Common.{◌∙◌, arith}
use Rattle.std.proofs.Math.Option.{none, some}
use Rattle.answers.specs.Ask.{value, missing, run, Trail, lookup}
use Rattle.answers.specs.Resolve.{answer, after}
use Rattle.answers.specs.Theory.Sound.{clash, Within}
use Rattle.answers.specs.Theory.Holds.{Partly, holds-map}
use Rattle.answers.specs.Theory.Fuel.{Below}
use Rattle.answers.specs.Theory.Invariant.{Every}
use Rattle.answers.specs.Theory.Machine.{run-missing}
use Rattle.rules.specs.Bytes.{Text}
use Rattle.rules.specs.Refusals.{Refusal}
use Rattle.rules.specs.Tree.{Node, array, object, Fields, Elements, Root, fields, elements, root_node, height_of, highest_element, AllNode, AllElements}
use Rattle.rules.specs.Values.{object_of, Members, Answer}
use Rattle.rules.specs.Layers.{Work, Layer, written, settled, Layers, end, layer, deeper, take_layer, take_value, gather, layers_of, merged_of, node_value, element_values, counted_value, value_of}
use Rattle.theory.specs.Ends.{When, WithinSize, ends-below}
use Rattle.theory.specs.Reach.{Each, InRange, AllLow, Quiet, deeper-low, all-low-up, node-ends, merged-ends, elements-end, value-ends}
use Rattle.rules.specs.Settled.{flat, push_layer, push, value_in}
use Rattle.theory.specs.Settled.{run-merged, run-elements, run_value}
use Rattle.theory.specs.Depths.{height_in, Shallow, same-depth, merged-depth, elements-depth, shallow-within, flat-low}
use Rattle.theory.specs.MergedValues.{one-by-layers}
use Rattle.theory_order.specs.Walks.{Ended, proceed, forget, walk-now, walk-leaves, walk-keeps, below-first}
use Rattle.theory_order.specs.Ready.{Working, working-any, ready_by, ready-is, ready-round, walk_same}
use Rattle.theory_order.specs.Settle.{Settler, Gathering, key_in, alone, settle_objects, settle_node, settle_elements, settle_counted, settle_gathered, settle_root}
use Rattle.theory_order.specs.Settling.{Gathers, key-gathers, EndsAs, settle-objects, settle-node, settle-elements, settle-gathered}
use Rattle.theory_order.specs.Fitting.{Proper, Fit, FitCounted, fit-layers, fit-key, fit-loose, fit_low}

-- settling at a depth, and at the one depth
module _ {P : Trail Answer → ℕ → Type 0} (w : Working Refusal Answer P) where
  abbrev settle_at : ℕ → Settler Gathering
  settle_at depth = settle_gathered w.worker w.count depth

  abbrev pub settle_now : Settler Gathering
  settle_now = settle_gathered w.worker w.count 65

module _ {P : Trail Answer → ℕ → Type 0} (w : Working Refusal Answer P) (proper : (S : Trail Answer) (n : ℕ) → P S n → Every Proper S) where
  within : (S : Trail Answer) (n : ℕ) → P S n → Every WithinSize S
  within S n p b a e = (proper S n p b a e).0

  shallow : (S : Trail Answer) (n : ℕ) → P S n → Shallow (lookup S)
  shallow S n p = shallow-within (lookup S) (within S n p)

  -- computations whose runs are the same with every trail that has P are settled to the same end
  ends_same : {A : Type 0} (t t' : Work A) → ((T : Trail Answer) (i : ℕ) → P T i → run (lookup T) t ≡ run (lookup T) t')
      → Below w.count t → Below w.count t' → {s s' : Trail Answer → ℕ → Ended Refusal Answer} → EndsAs (working-any w) s t
      → EndsAs (working-any w) s' t' → (S : Trail Answer) (n : ℕ) → P S n → s S n ≡ s' S n
  ends_same t t' same b b' e e' S n p = e S n ∙ ap forget (walk_same w.serves w.count t t' same b b' S n p) ∙ sym (e' S n)

  -- ---- needs are below the count

  value-quiet : (d j : ℕ) (ls : Layers) → AllLow false w.count j ls → Quiet false w.count (value_of d ls)
  value-quiet d j ls low = value-ends false w.count d j (λ e. clash (cc)) ls low

  value-below : (d j : ℕ) (ls : Layers) → AllLow false w.count j ls → Below w.count (value_of d ls)
  value-below d j ls low = ends-below (value-quiet d j ls low)

  gather-below : (j : ℕ) (ls : Layers) → AllLow false w.count j ls → Below w.count (gather ls [])
  unfolding value_of
  gather-below j ls low = below-first w.count (gather ls []) (λ c. counted_value (value_of 0) c) (value-below 1 j ls low)

  merged-quiet : (d j : ℕ) (os : List Layer) → AllLow false w.count j (layers_of os) → Quiet false w.count (merged_of (value_of d) os)
  merged-quiet d j os low =
      merged-ends false w.count j (value_of d) (value-quiet d j) os
      (λ k. all-low-up false w.count (pred j) j (omega arith) (deeper k (layers_of os))
      (deeper-low false w.count j k (layers_of os) low))

  -- ---- one depth more changes nothing

  settle-more : (u : Gathering) (ls : Layers) → Gathers u ls → ((strict : Bool) → AllLow strict w.count 64 ls)
      → (S : Trail Answer) (n : ℕ) → P S n → settle_now w u S n ≡ settle_at w 66 u S n
  settle-more u ls gathers low S n p =
      let below : (d : ℕ) → Below w.count (value_of d ls) = λ d. value-below d 64 ls (low false) in
      ends_same (value_of 65 ls) (value_of 66 ls) same (below 65) (below 66)
      (settle-gathered (working-any w) 65 u ls gathers (below 65)) (settle-gathered (working-any w) 66 u ls gathers (below 66)) S n p
    where
      same : (T : Trail Answer) (i : ℕ) → P T i → run (lookup T) (value_of 65 ls) ≡ run (lookup T) (value_of 66 ls)
      same T i q =
          let high = flat-low (lookup T) (within T i q) w.count 64 ls (low true) in
          run_value (lookup T) 65 ls
          ∙ same-depth (lookup T) (shallow T i q) 65 66 (flat (lookup T) ls) (omega arith) (omega arith)
          ∙ sym (run_value (lookup T) 66 ls)

  -- ---- the steps

  module _ (S : Trail Answer) (n : ℕ) (p : P S n) where
    -- a key of objects: its layers until no answer is missing, then what counts of them
    pub key_step : (os : List Layer) → Each (Fit true w.count 65) os → (k : Text)
        → settle_now w (key_in os k) S n ≡ after (ready_by w (key_in os k) S n) (λ c S' n'. settle_counted (settle_now w) w.worker c S' n')
    unfolding settle_gathered
    key_step os f k =
        settle-more (key_in os k) (deeper k (layers_of os)) (key-gathers os k)
        (λ strict. deeper-low strict w.count 65 k (layers_of os) (fit_low strict w.count 65 os f)) S n p

    -- an object that stands alone: its keys
    pub object-step : (fs : Fields) → Fit true w.count 64 (written (object fs))
        → settle_now w (alone (written (object fs))) S n ≡ settle_objects (settle_now w) (written (object fs) ∷ []) S n
    unfolding settle_gathered settle_counted gather take_layer layers_of
    object-step fs f =
        settle-more (alone (written (object fs))) (layer (written (object fs)) end) (λ known. refl)
        (λ strict. fit_low strict w.count 64 (written (object fs) ∷ []) (f, tt)) S n p

    -- a finished object needs nothing
    pub finished-step : (ms : Members) → Fit true w.count 64 (settled (object_of ms))
        → settle_objects (settle_now w) (settled (object_of ms) ∷ []) S n ≡ answer tt S n
    unfolding settle_gathered settle_counted gather take_layer take_value layers_of flat push_layer push
    finished-step ms f =
        let v = object_of ms in
        let ls = layer (settled v) end in
        let low : (strict : Bool) → AllLow strict w.count 64 ls = λ strict. fit_low strict w.count 64 (settled v ∷ []) (f, tt) in
        let runs : run (lookup S) (value_of 65 ls) ≡ value (some v)
        = run_value (lookup S) 65 ls ∙ one-by-layers (lookup S) 65 v (f.1 refl) (omega (arith, f.0 refl)) in
        sym (settle-more (alone (settled v)) ls (λ known. refl) low S n p)
        ∙ settle-gathered (working-any w) 65 (alone (settled v)) ls (λ known. refl) (value-below 65 64 ls (low false)) S n
        ∙ ap forget (walk-now w.serves (value_of 65 ls) S n runs)

    pub node-keeps : (m : Node) → AllNode (InRange w.count) m
        → Partly (λ _ S' n'. P S' n' × Within S S') (settle_node (settle_now w) w.worker m S n)
    node-keeps m a =
        let below = ends-below (node-ends false w.count 64 (value_of 65) (value-quiet 65 64) m a (λ z. clash (cc))) in
        rw (settle-node (working-any w) (settle_now w) (value_of 65) (settle-gathered (working-any w) 65) m below S n)
        (walk-keeps w.serves (node_value (value_of 65) m) S n p)

    -- ---- what counts of a key's layers

    module _ (strict : Bool) (j : ℕ) (os : List Layer) (f : Each (Fit strict w.count j) os) (k : Text) where
      key-low : AllLow false w.count (pred j) (deeper k (layers_of os))
      key-low = deeper-low false w.count j k (layers_of os) (fit-layers false w.count j os (fit-loose strict w.count j j os f)).0

      key_below : Below w.count (gather (deeper k (layers_of os)) [])
      key_below = gather-below (pred j) (deeper k (layers_of os)) key-low

      pub key-keeps : Partly (λ _ S' n'. P S' n' × Within S S') (settle_now w (key_in os k) S n)
      key-keeps =
          let ls = deeper k (layers_of os) in
          rw (settle-gathered (working-any w) 65 (key_in os k) ls (key-gathers os k) (value-below 65 (pred j) ls key-low) S n)
          (walk-keeps w.serves (value_of 65 ls) S n p)

      -- one round
      pub key-round : ready_by w (key_in os k) S n
          ≡ proceed (key_in os k (lookup S)) (λ c. answer c S n) (λ b. after (w.worker b S n) (λ _ S' n'. ready_by w (key_in os k) S' n'))
      key-round = ready-round w (key_in os k) (gather (deeper k (layers_of os)) []) (λ T i _. key-gathers os k (lookup T)) key_below S n p

      -- a missing answer is one that there is
      pub key-missing : (b : ℕ) → key_in os k (lookup S) ≡ missing b → (lookup S b ≡ none) × (b < w.count)
      key-missing b e = run-missing w.count S (gather (deeper k (layers_of os)) []) key_below b (sym (key-gathers os k (lookup S)) ∙ e)

      -- the end
      pub key-ready : Partly
          (λ c S' n'. P S' n' × Within S S' × (key_in os k (lookup S') ≡ value c) × FitCounted strict w.count (pred j) c)
          (ready_by w (key_in os k) S n)
      key-ready =
          let t = gather (deeper k (layers_of os)) [] in
          rw (ready-is w (key_in os k) t (λ T i _. key-gathers os k (lookup T)) key_below S n p)
          (holds-map (λ c S' n' a.
          let e : key_in os k (lookup S') ≡ value c = key-gathers os k (lookup S') ∙ a.2 in
          let fine : (b : ℕ) (r : Answer) → lookup S' b ≡ some r → When strict (Proper r) = λ b r z _. proper S' n' (a.0 p) b r z in
          (a.0 p, a.1, e, fit-key strict w.count (lookup S') fine j os k c f e)) (walk-leaves w.serves t S n))

  -- ---- any depth above the height

  fit-height : (j : ℕ) (os : List Layer) → Each (Fit true w.count j) os → height_in os ≤ j
  fit-height j [] f = omega arith
  fit-height j (written m ∷ os) f = omega (arith, f.0.0.1 refl, fit-height j os f.1)
  fit-height j (settled v ∷ os) f = omega (arith, f.0.0 refl, fit-height j os f.1)

  module _ (j d e : ℕ) (r : j < d) (l : j < e) where
    objects-depth : (os : List Layer) → Each (Fit true w.count j) os → (S : Trail Answer) (n : ℕ) → P S n
        → settle_objects (settle_at w d) os S n ≡ settle_objects (settle_at w e) os S n
    objects-depth os f = ends_same (merged_of (value_of d) os) (merged_of (value_of e) os) same (below d) (below e) (settles d) (settles e)
      where
        below : (i : ℕ) → Below w.count (merged_of (value_of i) os)
        below i = ends-below (merged-quiet i j os (fit_low false w.count j os f))

        settles : (i : ℕ) → EndsAs (working-any w) (settle_objects (settle_at w i) os) (merged_of (value_of i) os)
        settles i = settle-objects (working-any w) (settle_at w i) (value_of i) (settle-gathered (working-any w) i) os (below i)

        same : (T : Trail Answer) (i : ℕ) → P T i → run (lookup T) (merged_of (value_of d) os) ≡ run (lookup T) (merged_of (value_of e) os)
        same T i q =
            let known = lookup T in
            run-merged known (value_of d) (value_in known d) (λ ms. run_value known d ms) os
            ∙ merged-depth known (shallow T i q) j d e r l os (fit-height j os f)
            ∙ sym (run-merged known (value_of e) (value_in known e) (λ ms. run_value known e ms) os)

    elements-depths : (es : Elements) → AllElements (InRange w.count) es → highest_element es + 32 ≤ j
        → (S : Trail Answer) (n : ℕ) → P S n
        → settle_elements (settle_at w d) w.worker es S n ≡ settle_elements (settle_at w e) w.worker es S n
    elements-depths es a low =
        ends_same (element_values (value_of d) es) (element_values (value_of e) es) same (below d) (below e) (settles d) (settles e)
      where
        below : (i : ℕ) → Below w.count (element_values (value_of i) es)
        below i = ends-below (elements-end false w.count j (value_of i) (value-quiet i j) es a (λ z. clash (cc)))

        settles : (i : ℕ) → EndsAs (working-any w) (settle_elements (settle_at w i) w.worker es) (element_values (value_of i) es)
        settles i = settle-elements (working-any w) (settle_at w i) (value_of i) (settle-gathered (working-any w) i) es (below i)

        same : (T : Trail Answer) (i : ℕ) → P T i
            → run (lookup T) (element_values (value_of d) es) ≡ run (lookup T) (element_values (value_of e) es)
        same T i q =
            let known = lookup T in
            run-elements known (value_of d) (value_in known d) (λ ms. run_value known d ms) es
            ∙ elements-depth known (shallow T i q) j d e r l es low
            ∙ sym (run-elements known (value_of e) (value_in known e) (λ ms. run_value known e ms) es)

  -- so 65 settles the root of a document of at most 32 nestings as the rules' own depth does
  pub root-depth : (root : Root) → AllNode (InRange w.count) (root_node root) → height_of (root_node root) ≤ 32
      → (d : ℕ) → height_of (root_node root) + 32 < d → (S : Trail Answer) (n : ℕ) → P S n
      → settle_root w.worker w.count 65 root S n ≡ settle_root w.worker w.count d root S n
  unfolding settle_root height_of
  root-depth (fields fs) a r d l S n p =
      objects-depth (height_of (object fs) + 32) 65 d (omega arith) l (written (object fs) ∷ []) (((a, λ _. omega arith), λ _. tt), tt) S n p
  root-depth (elements es) a r d l S n p = elements-depths (height_of (array es) + 32) 65 d (omega arith) l es a (omega arith) S n p

-- Settling ends as the walk of the rules' evaluation ends: with the same trail and count, or with the same refusal.
use Rattle.std.specs.Prelude.{◌≡◌}
use Rattle.std.proofs.Math.Path.{refl, ap}
use Rattle.std.proofs.Common.{sym, ◌∙◌}
use Prim.Native.Nat.{ℕ, zero, suc}
use mathlib.Core.List.{List, [], ◌∷◌}
use Rattle.std.proofs.Math.Option.{Option, none, some}
use Rattle.answers.specs.Ask.{done, need, bind, run, Trail, lookup}
use Rattle.answers.specs.Resolve.{Res, answer, refused, dry, after, walk}
use Rattle.answers.specs.Theory.Holds.{after_cong}
use Rattle.answers.specs.Theory.Fuel.{Below}
use Rattle.rules.specs.Bytes.{Text}
use Rattle.rules.specs.Refusals.{Refusal}
use Rattle.rules.specs.Environment.{Environment}
use Rattle.rules.specs.Tree.{Node, simple, array, object, unresolved, Elements, no-elements, element, Root, fields, elements}
use Rattle.rules.specs.Values.{array_of, object_of, Answer}
use Rattle.rules.specs.Layers.{Work, Layer, written, settled, Layers, end, layer, deeper, Counted, nothing, one, merged, take_layer, gather, keys_in_order, layers_of, made_item, made_member, members_of, merged_of, node_value, element_values, layer_value, counted_value, value_of}
use Rattle.rules.specs.Unresolved.{depth_of, root_value}
use Rattle.rules.specs.Settled.{Settled, deeper_of, gather_of}
use Rattle.theory.specs.Settled.{flat-deeper, flat-layers, run-gather}
use Rattle.theory_order.specs.Walks.{Ended, forget, after-forget, after-answer, forget-after, walk-bind, below-first, Any, walk-below}
use Rattle.theory_order.specs.Ready.{Working, ready-is}
use Rattle.theory_order.specs.Settle.{Settler, Gathering, key_in, alone, settle_keys, settle_objects, settle_node, settle_elements, settle_layer, settle_counted, settle_gathered, settle_root}

-- u is what counts of the layers ls
abbrev pub Gathers : Gathering → Layers → Type 0
Gathers u ls = (known : ℕ → Option Answer) → u known ≡ run known (gather ls [])

pub key-gathers : (os : List Layer) (k : Text) → Gathers (key_in os k) (deeper k (layers_of os))
unfolding key_in
key-gathers os k known =
    ap (λ (w : Settled). gather_of known (deeper_of known k w) []) (sym (flat-layers known os))
    ∙ ap (λ (w : Settled). gather_of known w []) (sym (flat-deeper known k (layers_of os)))
    ∙ sym (run-gather known (deeper k (layers_of os)) [])

module _ (w : Working Refusal Answer Any) where
  -- s ends as the walk of t does
  abbrev pub EndsAs : {A : Type 0} → (Trail Answer → ℕ → Ended Refusal Answer) → Work A → Type 0
  EndsAs s t = (S : Trail Answer) (n : ℕ) → s S n ≡ forget (walk w.handler S n t)

  -- and so it does where another value is made of t's
  ends-made : {A B : Type 0} (s : Trail Answer → ℕ → Ended Refusal Answer) (t : Work A) (c : A → B)
      → EndsAs s t → EndsAs s (bind t (λ a. done (c a)))
  ends-made {A} s t c h S n = h S n ∙ sym (ap forget (walk-bind w.handler t (λ a. done (c a)) S n) ∙ go (walk w.handler S n t))
    where
      go : (r : Res Refusal Answer A) → forget (after r (λ a S' n'. answer (c a) S' n')) ≡ forget r
      go (answer a S' n') = refl
      go (refused x) = refl
      go dry = refl

  module _ {A B : Type 0} (t : Work A) (f : A → Work B) (below : Below w.count (bind t f)) (S : Trail Answer) (n : ℕ) where
    -- one part after another, which sees the value
    ends-bind : (k : A → Trail Answer → ℕ → Ended Refusal Answer) → ((a : A) → Below w.count (f a) → EndsAs (k a) (f a))
        → after (walk w.handler S n t) k ≡ forget (walk w.handler S n (bind t f))
    ends-bind k e =
        after_cong (walk-below w.serves w.count t f below S n) (λ a S' n' b. e a b S' n')
        ∙ sym (ap forget (walk-bind w.handler t f S n)
        ∙ forget-after (walk w.handler S n t) (λ a S' n'. walk w.handler S' n' (f a)))

    -- and which does not
    ends-then : (s : Trail Answer → ℕ → Ended Refusal Answer) → EndsAs s t
        → (k : Trail Answer → ℕ → Ended Refusal Answer) → ((a : A) → Below w.count (f a) → EndsAs k (f a))
        → after (s S n) (λ _ S' n'. k S' n') ≡ forget (walk w.handler S n (bind t f))
    ends-then s d k e = rw (d S n) (after-forget (walk w.handler S n t) k ∙ ends-bind (λ _ S' n'. k S' n') e)

  -- ---- the parts, where `settle` ends as the evaluation `eval` of layers does

  abbrev pub Settles : Settler Gathering → (Layers → Work Answer) → Type 0
  Settles settle eval = (u : Gathering) (ls : Layers) → Gathers u ls → Below w.count (eval ls) → EndsAs (settle u) (eval ls)

  module _ (settle : Settler Gathering) (eval : Layers → Work Answer) (meets : Settles settle eval) where
    settle-keys : (os : List Layer) (ks : List Text) → Below w.count (members_of eval (layers_of os) ks)
        → EndsAs (settle_keys settle os ks) (members_of eval (layers_of os) ks)
    unfolding settle_keys members_of
    settle-keys os [] b S n = refl
    settle-keys os (k ∷ ks) b S n =
        let ls = layers_of os in
        ends-then (eval (deeper k ls)) (λ a. bind (members_of eval ls ks) (λ ms. done (made_member k a ms))) b S n
        (settle (key_in os k)) (meets (key_in os k) (deeper k ls) (key-gathers os k) (below-first w.count (eval (deeper k ls)) _ b))
        (settle_keys settle os ks)
        (λ a c. ends-made (settle_keys settle os ks) (members_of eval ls ks) (λ ms. made_member k a ms)
        (settle-keys os ks (below-first w.count (members_of eval ls ks) _ c)))

    pub settle-objects : (os : List Layer) → Below w.count (merged_of eval os) → EndsAs (settle_objects settle os) (merged_of eval os)
    unfolding settle_objects merged_of
    settle-objects os b =
        let t = members_of eval (layers_of os) (keys_in_order os) in
        ends-made (settle_keys settle os (keys_in_order os)) t (λ ms. object_of ms)
        (settle-keys os (keys_in_order os) (below-first w.count t _ b))

    mutual
      unfolding settle_node node_value gather take_layer

      pub settle-node : (m : Node) → Below w.count (node_value eval m) → EndsAs (settle_node settle w.worker m) (node_value eval m)
      settle-node (simple x) b S n = refl
      settle-node (array es) b S n =
          let t = element_values eval es in
          ends-made (settle_elements settle w.worker es) t (λ vs. some (array_of vs))
          (λ S' n'. settle-elements es (below-first w.count t _ b) S' n') S n
      settle-node (object fs) b S n = meets (alone (written (object fs))) (layer (written (object fs)) end) (λ known. refl) b S n
      settle-node (unresolved q ps) b S n = go (lookup S q) refl
        where
          go : (o : Option Answer) → lookup S q ≡ o
              → elim o as (λ _. Ended Refusal Answer) [ none ↦ w.worker q S n | some a ↦ answer tt S n ]
              ≡ forget (walk w.handler S n (need q (λ a. done a)))
          go none e = w.works q S n b.0 e ∙ ap forget (sym (after-answer (w.handler q S n)))
          go (some a) e = rw (w.serves.known q S n a e)

      pub settle-elements : (es : Elements) → Below w.count (element_values eval es)
          → EndsAs (settle_elements settle w.worker es) (element_values eval es)
      settle-elements no-elements b S n = refl
      settle-elements (element m es) b S n =
          let t = element_values eval es in
          ends-then (node_value eval m) (λ a. bind t (λ vs. done (made_item a vs))) b S n
          (settle_node settle w.worker m) (λ S' n'. settle-node m (below-first w.count (node_value eval m) _ b) S' n')
          (settle_elements settle w.worker es)
          (λ a c. ends-made (settle_elements settle w.worker es) t (λ vs. made_item a vs)
          (λ S' n'. settle-elements es (below-first w.count t _ c) S' n'))

    pub settle-counted : (c : Counted) → Below w.count (counted_value eval c)
        → EndsAs (settle_counted settle w.worker c) (counted_value eval c)
    unfolding settle_counted settle_layer counted_value layer_value
    settle-counted nothing b S n = refl
    settle-counted (one (settled v)) b S n = refl
    settle-counted (one (written m)) b S n = settle-node m b S n
    settle-counted (merged os) b S n =
        ends-made (settle_objects settle os) (merged_of eval os) (λ v. some v)
        (settle-objects os (below-first w.count (merged_of eval os) _ b)) S n

  -- ---- at any depth, and the root at the rules' own

  pub settle-gathered : (depth : ℕ) → Settles (settle_gathered w.worker w.count depth) (value_of depth)
  unfolding settle_gathered value_of
  settle-gathered zero u ls gathers b S n = refl
  settle-gathered (suc depth) u ls gathers b S n =
      let t = gather ls [] in
      let f = counted_value (value_of depth) in
      let settle = settle_gathered w.worker w.count depth in
      let k : Counted → Trail Answer → ℕ → Ended Refusal Answer = settle_counted settle w.worker in
      ap (λ (r : Res Refusal Answer Counted). after r k)
      (ready-is w u t (λ S' n' _. gathers (lookup S')) (below-first w.count t f b) S n tt)
      ∙ ends-bind t f b S n k (λ c l. settle-counted settle (value_of depth) (settle-gathered depth) c l)

  pub settle-root : (root : Root) (env : Environment) → Below w.count (root_value root env)
      → EndsAs (settle_root w.worker w.count (depth_of root env) root) (root_value root env)
  unfolding settle_root root_value
  settle-root (fields fs) env b S n =
      let d = depth_of (fields fs) env in
      settle-objects (settle_gathered w.worker w.count d) (value_of d) (settle-gathered d) (written (object fs) ∷ []) b S n
  settle-root (elements es) env b S n =
      let d = depth_of (elements es) env in
      let settle = settle_gathered w.worker w.count d in
      let t = element_values (value_of d) es in
      ends-made (settle_elements settle w.worker es) t (λ vs. array_of vs)
      (settle-elements settle (value_of d) (settle-gathered d) es (below-first w.count t _ b)) S n

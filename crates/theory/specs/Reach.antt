-- Layers and values of paths, by how high the layers are: `value_of` with a depth above that height never gives `spent`, and needs only the
-- numbers that stand in the layers.
--
-- A field's value as written is as high as its containers and 32 more, for an answer inside it; a member out of an answer is as high as it is
-- nested. One step down (`deeper`) leaves layers one less high.
use Rattle.std.specs.Prelude.{◌≡◌, Bool}
use Prim.Native.Nat.{ℕ, zero, suc, pred, ◌+◌, ◌≤◌, ◌<◌}
use mathlib.Core.List.{List, [], ◌∷◌, ◌++◌, reverse, reverse_aux}
use Rattle.std.proofs.Math.Bool.{true, false}
use Rattle.std.proofs.Math.Option.{none, some}
use Rattle.std.proofs.Common.{arith}
use Rattle.std.proofs.Math.ListN.{get_elem?}
use Rattle.answers.specs.Theory.Sound.{clash}
use Rattle.rules.specs.Bytes.{Text, same}
use Rattle.rules.specs.Tree.{Node, simple, array, object, unresolved, Elements, no-elements, element, Fields, no_fields, field, Pieces, height_of, highest_element, highest_field}
use Rattle.rules.specs.Values.{Value, scalar, array_of, object_of, Members, no-members, member, Answer, nesting_of, deepest_member}
use Rattle.rules.specs.Layers.{Work, Layer, written, settled, Layers, end, layer, wait, named, member_named, inside_value, inside_answer, deeper, walk_path, Counted, merged, of_objects, of_other, take_value, take_answer, take_layer, gather, layers_of, keys_in_order, members_of, merged_of, node_value, element_values, layer_value, counted_value, value_of}
use Rattle.rules.specs.Tree.{AllNode, AllElements, AllFields}
use Rattle.theory.specs.Ends.{When, WithinSize, nested, Ends, dones, refuses, needs, ends-bind}

-- P of each in a list
abbrev pub Each : {A : Type 0} → (A → Type 0) → List A → Type 0
Each P [] = Unit {0}
Each P (x ∷ xs) = P x × Each P xs

module _ {A : Type 0} (P : A → Type 0) where
  each-onto : (xs ys : List A) → Each P xs → Each P ys → Each P (reverse_aux xs ys)
  each-onto [] ys e f = f
  each-onto (x ∷ xs) ys e f = each-onto xs (x ∷ ys) e.1 (e.0, f)

  pub each_append : (xs ys : List A) → Each P xs → Each P ys → Each P (xs ++ ys)
  each_append [] ys e f = f
  each_append (x ∷ xs) ys e f = (e.0, each_append xs ys e.1 f)

  pub each_at : (xs : List A) → Each P xs → (i : ℕ) (x : A) → get_elem? xs i ≡ some x → P x
  each_at [] e i x h = clash (cc)
  each_at (y ∷ xs) e zero x h = let z : y ≡ x = cc in rw z at e.0
  each_at (y ∷ xs) e (suc i) x h = each_at xs e.1 i x h

  pub each-reverse : (xs : List A) → Each P xs → Each P (reverse xs)
  each-reverse xs e = each-onto xs [] e tt

-- a number below N
abbrev pub InRange : ℕ → ℕ → Pieces → Type 0
InRange N b ps = b < N

module _ (strict : Bool) (N : ℕ) where
  -- of a height: a layer, and all layers under any answers
  abbrev pub Low : ℕ → Layer → Type 0
  Low h (written n) = AllNode (InRange N) n × When strict (height_of n + 32 ≤ h)
  Low h (settled v) = When strict (nesting_of v ≤ h)

  abbrev pub AllLow : ℕ → Layers → Type 0
  AllLow h end = Unit {0}
  AllLow h (layer l ls) = Low h l × AllLow h ls
  AllLow h (wait b f) = (b < N) × ((a : Answer) → When strict (WithinSize a) → AllLow h (f a))

  low_up : (h j : ℕ) → h ≤ j → (l : Layer) → Low h l → Low j l
  low_up h j le (written n) w = (w.0, λ e. omega (arith, w.1 e))
  low_up h j le (settled v) w = λ e. omega (arith, w e)

  pub all-low-up : (h j : ℕ) → h ≤ j → (ls : Layers) → AllLow h ls → AllLow j ls
  all-low-up h j le end w = tt
  all-low-up h j le (layer l ls) w = (low_up h j le l w.0, all-low-up h j le ls w.1)
  all-low-up h j le (wait b f) w = (w.0, λ a s. all-low-up h j le (f a) (w.1 a s))

  -- ---- one key further

  pub named-low : (h : ℕ) (k : Text) (fs : Fields) (below : Layers) → AllFields (InRange N) fs → When strict (highest_field fs + 32 ≤ h)
      → AllLow h below → AllLow h (named k fs below)
  unfolding named height_of
  named-low h k no_fields below a r w = w
  named-low h k (field j n fs) below a r w = named-low h k fs _ a.1 (λ e. omega (arith, r e)) (go (same j.text k))
    where
      go : (t : Bool) → AllLow h (elim t as (λ _. Layers) [ true ↦ layer (written n) below | false ↦ below ])
      go true = ((a.0, λ e. omega (arith, r e)), w)
      go false = w

  member-low : (h : ℕ) (k : Text) (ms : Members) (below : Layers) → When strict (deepest_member ms ≤ h) → AllLow h below
      → AllLow h (member_named k ms below)
  unfolding member_named nesting_of
  member-low h k no-members below r w = w
  member-low h k (member j v ms) below r w = go (same j k) (member-low h k ms below (λ e. omega (arith, r e)) w)
    where
      go : (t : Bool) → AllLow h (member_named k ms below)
          → AllLow h (elim t as (λ _. Layers) [ true ↦ layer (settled v) below | false ↦ member_named k ms below ])
      go true ih = (λ e. omega (arith, r e), w)
      go false ih = ih

  value_low : (h : ℕ) (k : Text) (v : Value) (below : Layers) → When strict (nesting_of v ≤ h) → AllLow (pred h) below
      → AllLow (pred h) (inside_value k v below)
  unfolding inside_value nesting_of
  value_low h k (scalar x) below r w = tt
  value_low h k (array_of vs) below r w = tt
  value_low h k (object_of ms) below r w = member-low (pred h) k ms below (λ e. omega (arith, r e)) w

  pub deeper-low : (h : ℕ) (k : Text) (ls : Layers) → AllLow h ls → AllLow (pred h) (deeper k ls)
  unfolding deeper height_of
  deeper-low h k end w = tt
  deeper-low h k (wait b f) w = (w.0, λ a s. deeper-low h k (f a) (w.1 a s))
  deeper-low h k (layer (settled v) ls) w = value_low h k v (deeper k ls) w.0 (deeper-low h k ls w.1)
  deeper-low h k (layer (written (simple x)) ls) w = tt
  deeper-low h k (layer (written (array es)) ls) w = tt
  deeper-low h k (layer (written (object fs)) ls) w =
      named-low (pred h) k fs (deeper k ls) w.0.0 (λ e. omega (arith, w.0.1 e)) (deeper-low h k ls w.1)
  deeper-low h k (layer (written (unresolved b ps)) ls) w = (w.0.0.0, λ a s. inside a s (deeper-low h k ls w.1))
    where
      inside : (a : Answer) → When strict (WithinSize a) → AllLow (pred h) (deeper k ls)
          → AllLow (pred h) (inside_answer k a (deeper k ls))
      inside none s ih = ih
      inside (some v) s ih = value_low h k v (deeper k ls) (λ e. omega (arith, nested v (s e), w.0.1 e)) ih

  pub path-low : (h : ℕ) (p : List Text) (ls : Layers) → AllLow h ls → AllLow h (walk_path p ls)
  unfolding walk_path
  path-low h [] ls w = w
  path-low h (k ∷ ks) ls w = path-low h ks (deeper k ls) (all-low-up (pred h) h (omega arith) (deeper k ls) (deeper-low h k ls w))

  -- ---- values, where `eval` ends well on layers of height j

  -- any result will do
  abbrev pub Quiet : {A : Type 0} → Work A → Type 0
  Quiet m = Ends strict N (λ a. Unit {0}) m

  module _ (j : ℕ) (eval : Layers → Work Answer) (ev : (ls : Layers) → AllLow j ls → Quiet (eval ls)) where
    mutual
      unfolding node_value height_of

      pub node-ends : (n : Node) → AllNode (InRange N) n → When strict (height_of n + 32 ≤ j) → Quiet (node_value eval n)
      node-ends (simple x) a r = dones tt
      node-ends (array es) a r = ends-bind (elements-end es a (λ e. omega (arith, r e))) (λ vs _. dones tt)
      node-ends (object fs) a r = ev (layer (written (object fs)) end) ((a, r), tt)
      node-ends (unresolved b ps) a r = needs a.0 (λ x s. dones tt)

      pub elements-end : (es : Elements) → AllElements (InRange N) es → When strict (highest_element es + 32 ≤ j) → Quiet (element_values eval es)
      elements-end no-elements a r = dones tt
      elements-end (element n es) a r =
          ends-bind (node-ends n a.0 (λ e. omega (arith, r e))) (λ x _.
          ends-bind (elements-end es a.1 (λ e. omega (arith, r e))) (λ vs _. dones tt))

    members-end : (ls : Layers) → ((k : Text) → AllLow j (deeper k ls)) → (ks : List Text) → Quiet (members_of eval ls ks)
    unfolding members_of
    members-end ls w [] = dones tt
    members-end ls w (k ∷ ks) = ends-bind (ev (deeper k ls) (w k)) (λ a _. ends-bind (members-end ls w ks) (λ ms _. dones tt))

    pub merged-ends : (os : List Layer) → ((k : Text) → AllLow j (deeper k (layers_of os))) → Quiet (merged_of eval os)
    unfolding merged_of
    merged-ends os w = ends-bind (members-end (layers_of os) w (keys_in_order os)) (λ ms _. dones tt)

  -- ---- what counts of layers of height h, and its value, where `eval` ends well one lower

  module _ (h : ℕ) (eval : Layers → Work Answer)
      (ev : When strict (1 ≤ h) → (ls : Layers) → AllLow (pred h) ls → Quiet (eval ls)) where
    -- an object, so that h is not 0
    abbrev Upper : Layer → Type 0
    Upper o = Low h o × When strict (1 ≤ h)

    abbrev Good : Counted → Type 0
    Good c = Quiet (counted_value eval c)

    layers-low : (os : List Layer) → Each Upper os → AllLow h (layers_of os)
    unfolding layers_of
    layers-low [] u = tt
    layers-low (o ∷ os) u = (u.0.0, layers-low os u.1)

    merged-good : (o : Layer) (os : List Layer) → Each Upper (o ∷ os) → Good (merged (o ∷ os))
    unfolding counted_value
    merged-good o os u =
        let low = layers-low (o ∷ os) u in
        ends-bind (merged-ends (pred h) eval (ev u.0.1) (o ∷ os) (λ k. deeper-low h k (layers_of (o ∷ os)) low)) (λ v _. dones tt)

    other-good : (l : Layer) → Quiet (layer_value eval l) → (os : List Layer) → Each Upper os → Good (of_other l os)
    unfolding of_other counted_value
    other-good l q [] u = q
    other-good l q (o ∷ os) u = merged-good o os u

    objects-good : (os : List Layer) → Each Upper os → Good (of_objects os)
    unfolding of_objects counted_value
    objects-good [] u = dones tt
    objects-good (o ∷ os) u = merged-good o os u

    module _ (os : List Layer) (u : Each Upper os) (go : List Layer → Work Counted)
        (on : (os' : List Layer) → Each Upper os' → Ends strict N Good (go os')) where
      value-counts : (v : Value) → When strict (nesting_of v ≤ h) → Ends strict N Good (take_value v os go)
      unfolding take_value nesting_of layer_value
      value-counts (scalar x) r = dones (other-good (settled (scalar x)) (dones tt) (reverse os) (each-reverse Upper os u))
      value-counts (array_of vs) r = dones (other-good (settled (array_of vs)) (dones tt) (reverse os) (each-reverse Upper os u))
      value-counts (object_of ms) r = on (settled (object_of ms) ∷ os) ((r, λ e. omega (arith, r e)), u)

      layer-counts : (l : Layer) → Low h l → Ends strict N Good (take_layer l os go)
      unfolding take_layer layer_value height_of
      layer-counts (settled v) r = value-counts v r
      layer-counts (written (simple x)) r = dones (other-good (written (simple x)) (dones tt) (reverse os) (each-reverse Upper os u))
      layer-counts (written (array es)) r =
          let inside = elements-end (pred h) eval (ev (λ e. omega (arith, r.1 e))) es r.0 (λ e. omega (arith, r.1 e)) in
          dones (other-good (written (array es)) (ends-bind inside (λ vs _. dones tt)) (reverse os) (each-reverse Upper os u))
      layer-counts (written (object fs)) r = on (written (object fs) ∷ os) ((r, λ e. omega (arith, r.1 e)), u)
      layer-counts (written (unresolved b ps)) r = needs r.0.0 answer-counts
        where
          answer-counts : (a : Answer) → When strict (WithinSize a) → Ends strict N Good (take_answer a os go)
          answer-counts none s = on os u
          answer-counts (some v) s = value-counts v (λ e. omega (arith, nested v (s e), r.1 e))

    gather-ends : (ls : Layers) → AllLow h ls → (os : List Layer) → Each Upper os → Ends strict N Good (gather ls os)
    unfolding gather
    gather-ends end w os u = dones (objects-good (reverse os) (each-reverse Upper os u))
    gather-ends (wait b f) w os u = needs w.0 (λ a s. gather-ends (f a) (w.1 a s) os u)
    gather-ends (layer l ls) w os u = layer-counts os u (λ os'. gather ls os') (gather-ends ls w.1) l w.0

  -- A depth above the height is never used up.
  pub value-ends : (depth h : ℕ) → When strict (h < depth) → (ls : Layers) → AllLow h ls → Quiet (value_of depth ls)
  unfolding value_of
  value-ends zero h r ls w = refuses (λ e. absurd (omega (arith, r e)))
  value-ends (suc depth) h r ls w =
      ends-bind
      (gather-ends h (value_of depth) (λ pos. value-ends depth (pred h) (λ e. omega (arith, r e, pos e))) ls w [] tt)
      (λ c good. good)

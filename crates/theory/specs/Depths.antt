-- Any depth above the height of settled layers gives the same value; so one depth serves every document.
--
-- Heights are those of module Reach: a node as written is as high as its containers and 32 more, for an answer inside it; a settled value
-- is as high as it is nested. One key deeper, layers are one less high.
use Rattle.std.specs.Prelude.{◌≡◌, Bool}
use Rattle.std.proofs.Math.Path.{refl}
use Prim.Native.Nat.{ℕ, zero, suc, pred, ◌+◌, max, ◌≤◌, ◌<◌}
use mathlib.Core.List.{List, [], ◌∷◌, reverse}
use Rattle.std.proofs.Math.Bool.{true, false}
use Rattle.std.proofs.Math.Option.{Option, none, some}
use native.Mathlib.Omega.{arith}
use Rattle.answers.specs.Ask.{value, then}
use Rattle.rules.specs.Bytes.{Text, same}
use Rattle.rules.specs.Environment.{Environment}
use Rattle.rules.specs.Tree.{Node, simple, array, object, unresolved, Elements, no-elements, element, Fields, no_fields, field, Root, root_node, height_of, highest_element, highest_field}
use Rattle.rules.specs.Values.{Value, scalar, array_of, object_of, Members, no-members, member, Answer, nesting_of, deepest_member}
use Rattle.rules.specs.Layers.{Layer, written, settled, Layers, end, layer, wait, Counted, merged, of_objects, of_other, keys_in_order}
use Rattle.rules.specs.Unresolved.{depth_of}
use Rattle.theory.specs.Ends.{WithinSize, nested}
use Rattle.theory.specs.Reach.{Each, each-reverse, AllLow}
use Rattle.theory.specs.Settled.{then_same}
use Rattle.rules.specs.Settled.{Ending, no, at, Settled, Given, push, push_answer, push_node, push_layer, flat, push_all, push_if, named_in, member_in, inside_in, deeper_in, deeper_of, walk_in, gather_in, members_in, merged_in, node_in, elements_in, layer_in, counted_in, value_in}

abbrev pub layer_height : Layer → ℕ
layer_height (written n) = height_of n + 32
layer_height (settled v) = nesting_of v

abbrev pub height_in : List Layer → ℕ
height_in [] = 0
height_in (l ∷ ls) = max (layer_height l) (height_in ls)

-- every known answer is within 32 nestings
abbrev pub Shallow : (ℕ → Option Answer) → Type 0
Shallow known = (b : ℕ) (v : Value) → known b ≡ some (some v) → nesting_of v ≤ 32

module _ (known : ℕ → Option Answer) (shallow : Shallow known) where
  -- ---- one key deeper

  pub node-low : (h : ℕ) (n : Node) (w : Settled) → height_of n + 32 ≤ h → height_in w.0 ≤ h → height_in (push_node known n w).0 ≤ h
  unfolding push_node push
  node-low h (simple x) w r l = omega arith
  node-low h (array es) w r l = omega arith
  node-low h (object fs) w r l = omega arith
  node-low h (unresolved b ps) w r l = go (known b) refl
    where
      go : (o : Option Answer) → known b ≡ o → height_in (push_answer b o w).0 ≤ h
      go none e = omega arith
      go (some none) e = l
      go (some (some v)) e = omega (arith, shallow b v e)

  named-low : (h : ℕ) (k : Text) (fs : Fields) (w : Settled) → highest_field fs + 32 ≤ h → height_in w.0 ≤ h
      → height_in (named_in known k fs w).0 ≤ h
  unfolding named_in height_of
  named-low h k no_fields w r l = l
  named-low h k (field j n fs) w r l = named-low h k fs _ (omega arith) (go (same j.text k))
    where
      go : (t : Bool) → height_in (push_if known t n w).0 ≤ h
      go true = node-low h n w (omega arith) l
      go false = l

  member-low : (h : ℕ) (k : Text) (ms : Members) (w : Settled) → deepest_member ms ≤ h → height_in w.0 ≤ h
      → height_in (member_in known k ms w).0 ≤ h
  unfolding member_in push nesting_of
  member-low h k no-members w r l = l
  member-low h k (member j v ms) w r l = go (same j k) (member-low h k ms w (omega arith) l)
    where
      go : (t : Bool) → height_in (member_in known k ms w).0 ≤ h
          → height_in (elim t as (λ _. Settled) [ true ↦ push (settled v) w | false ↦ member_in known k ms w ]).0 ≤ h
      go true ih = omega arith
      go false ih = ih

  inside-low : (h : ℕ) (k : Text) (l : Layer) (w : Settled) → layer_height l ≤ h → height_in w.0 ≤ pred h
      → height_in (inside_in known k l w).0 ≤ pred h
  unfolding inside_in height_of nesting_of
  inside-low h k (settled (scalar x)) w r m = omega arith
  inside-low h k (settled (array_of vs)) w r m = omega arith
  inside-low h k (settled (object_of ms)) w r m = member-low (pred h) k ms w (omega arith) m
  inside-low h k (written (simple x)) w r m = omega arith
  inside-low h k (written (array es)) w r m = omega arith
  inside-low h k (written (object fs)) w r m = named-low (pred h) k fs w (omega arith) m
  inside-low h k (written (unresolved b ps)) w r m = m

  pub deeper-low : (h : ℕ) (k : Text) (ls : List Layer) (st : Ending) → height_in ls ≤ h → height_in (deeper_in known k ls st).0 ≤ pred h
  unfolding deeper_in
  deeper-low h k [] st r = omega arith
  deeper-low h k (l ∷ ls) st r = inside-low h k l (deeper_in known k ls st) (omega arith) (deeper-low h k ls st (omega arith))

  pub walk-low : (h : ℕ) (ks : List Text) (w : Settled) → height_in w.0 ≤ h → height_in (walk_in known ks w).0 ≤ h
  unfolding walk_in
  walk-low h [] w r = r
  walk-low h (k ∷ ks) w r = walk-low h ks (deeper_of known k w) (omega (arith, deeper-low h k w.0 w.1 r))

  layer-low : (h : ℕ) (l : Layer) (w : Settled) → layer_height l ≤ h → height_in w.0 ≤ h → height_in (push_layer known l w).0 ≤ h
  unfolding push_layer push
  layer-low h (written n) w r m = node-low h n w r m
  layer-low h (settled v) w r m = omega arith

  all-low : (h : ℕ) (os : List Layer) → height_in os ≤ h → height_in (push_all known os).0 ≤ h
  unfolding push_all
  all-low h [] r = omega arith
  all-low h (o ∷ os) r = layer-low h o (push_all known os) (omega arith) (all-low h os (omega arith))

  -- ---- values, where two evaluations are the same on layers up to a height

  module _ (j : ℕ) (ev ev' : Settled → Given Answer) (same-ev : (w : Settled) → height_in w.0 ≤ j → ev w ≡ ev' w) where
    mutual
      unfolding node_in height_of

      node-same : (n : Node) → height_of n + 32 ≤ j → node_in known ev n ≡ node_in known ev' n
      node-same (simple x) r = refl
      node-same (array es) r = then_same known (elements_same es (omega arith)) (λ vs. refl)
      node-same (object fs) r = same-ev (written (object fs) ∷ [], no) (omega arith)
      node-same (unresolved b ps) r = refl

      elements_same : (es : Elements) → highest_element es + 32 ≤ j → elements_in known ev es ≡ elements_in known ev' es
      elements_same no-elements r = refl
      elements_same (element n es) r =
          then_same known (node-same n (omega arith)) (λ a. then_same known (elements_same es (omega arith)) (λ vs. refl))

    members-same : (w : Settled) → ((k : Text) → height_in (deeper_of known k w).0 ≤ j) → (ks : List Text)
        → members_in known ev w ks ≡ members_in known ev' w ks
    unfolding members_in
    members-same w l [] = refl
    members-same w l (k ∷ ks) =
        then_same known (same-ev (deeper_of known k w) (l k)) (λ a. then_same known (members-same w l ks) (λ ms. refl))

    merged-same : (os : List Layer) → ((k : Text) → height_in (deeper_of known k (push_all known os)).0 ≤ j)
        → merged_in known ev os ≡ merged_in known ev' os
    unfolding merged_in
    merged-same os l = then_same known (members-same (push_all known os) l (keys_in_order os)) (λ ms. refl)

  -- ---- what counts of layers of height h, and its value, where the two are the same one lower

  module _ (h : ℕ) (ev ev' : Settled → Given Answer) (same-ev : 1 ≤ h → (w : Settled) → height_in w.0 ≤ pred h → ev w ≡ ev' w) where
    -- an object, so that h is not 0
    abbrev Upper : Layer → Type 0
    Upper o = (layer_height o ≤ h) × (1 ≤ h)

    abbrev Alike : Given Counted → Type 0
    Alike c = then c (λ c. counted_in known ev c) ≡ then c (λ c. counted_in known ev' c)

    uppers-low : (os : List Layer) → Each Upper os → height_in os ≤ h
    uppers-low [] u = omega arith
    uppers-low (o ∷ os) u = omega (arith, u.0.0, uppers-low os u.1)

    merged-alike : (o : Layer) (os : List Layer) → Each Upper (o ∷ os) → Alike (value (merged (o ∷ os)))
    unfolding counted_in
    merged-alike o os u =
        let w = push_all known (o ∷ os) in
        let low = all-low h (o ∷ os) (uppers-low (o ∷ os) u) in
        then_same known (merged-same (pred h) ev ev' (same-ev u.0.1) (o ∷ os) (λ k. deeper-low h k w.0 w.1 low)) (λ v. refl)

    objects-alike : (os : List Layer) → Each Upper os → Alike (value (of_objects os))
    unfolding of_objects counted_in
    objects-alike [] u = refl
    objects-alike (o ∷ os) u = merged-alike o os u

    other-alike : (l : Layer) → layer_in known ev l ≡ layer_in known ev' l → (os : List Layer) → Each Upper os → Alike (value (of_other l os))
    unfolding of_other counted_in
    other-alike l e [] u = e
    other-alike l e (o ∷ os) u = merged-alike o os u

    gather-alike : (ls : List Layer) (st : Ending) (os : List Layer) → height_in ls ≤ h → Each Upper os → Alike (gather_in known ls st os)
    unfolding gather_in layer_in node_in height_of nesting_of
    gather-alike [] no os r u = objects-alike (reverse os) (each-reverse Upper os u)
    gather-alike [] (at b) os r u = refl
    gather-alike (settled (scalar x) ∷ ls) st os r u = other-alike (settled (scalar x)) refl (reverse os) (each-reverse Upper os u)
    gather-alike (settled (array_of vs) ∷ ls) st os r u = other-alike (settled (array_of vs)) refl (reverse os) (each-reverse Upper os u)
    gather-alike (settled (object_of ms) ∷ ls) st os r u =
        gather-alike ls st (settled (object_of ms) ∷ os) (omega arith) ((omega arith, omega arith), u)
    gather-alike (written (simple x) ∷ ls) st os r u = other-alike (written (simple x)) refl (reverse os) (each-reverse Upper os u)
    gather-alike (written (array es) ∷ ls) st os r u =
        let inside = elements_same (pred h) ev ev' (same-ev (omega arith)) es (omega arith) in
        other-alike (written (array es)) (then_same known inside (λ vs. refl)) (reverse os) (each-reverse Upper os u)
    gather-alike (written (object fs) ∷ ls) st os r u =
        gather-alike ls st (written (object fs) ∷ os) (omega arith) ((omega arith, omega arith), u)
    gather-alike (written (unresolved b ps) ∷ ls) st os r u = gather-alike ls st os (omega arith) u

  -- any two depths above the height
  pub same-depth : (d e : ℕ) (w : Settled) → height_in w.0 < d → height_in w.0 < e → value_in known d w ≡ value_in known e w
  unfolding value_in
  same-depth zero e w r l = absurd (omega arith)
  same-depth (suc d) zero w r l = absurd (omega arith)
  same-depth (suc d) (suc e) w r l =
      gather-alike (height_in w.0) (value_in known d) (value_in known e) (λ pos v m. same-depth d e v (omega arith) (omega arith))
      w.0 w.1 [] (omega arith) tt

  module _ (h d e : ℕ) (r : h < d) (l : h < e) where
    up_to : (w : Settled) → height_in w.0 ≤ h → value_in known d w ≡ value_in known e w
    up_to w m = same-depth d e w (omega arith) (omega arith)

    pub node-depth : (n : Node) → height_of n + 32 ≤ h → node_in known (value_in known d) n ≡ node_in known (value_in known e) n
    node-depth = node-same h (value_in known d) (value_in known e) up_to

    pub elements-depth : (es : Elements) → highest_element es + 32 ≤ h
        → elements_in known (value_in known d) es ≡ elements_in known (value_in known e) es
    elements-depth = elements_same h (value_in known d) (value_in known e) up_to

    pub merged-depth : (os : List Layer) → height_in os ≤ h → merged_in known (value_in known d) os ≡ merged_in known (value_in known e) os
    unfolding deeper_in
    merged-depth os m =
        let w = push_all known os in
        merged-same h (value_in known d) (value_in known e) up_to os (λ k. omega (arith, deeper-low h k w.0 w.1 (all-low h os m)))

  -- ---- one depth for every document of at most 32 nestings

  -- the layers of a path from the root
  pub forward-low : (root : Root) (p : List Text)
      → height_in (walk_in known p (push_node known (root_node root) ([], no))).0 ≤ height_of (root_node root) + 32
  forward-low root p =
      let h = height_of (root_node root) + 32 in
      walk-low h p (push_node known (root_node root) ([], no)) (node-low h (root_node root) ([], no) (omega arith) (omega arith))

  module _ (root : Root) (env : Environment) (bounded : height_of (root_node root) ≤ 32) where
    pub enough : (w : Settled) → height_in w.0 ≤ height_of (root_node root) + 32 → value_in known (depth_of root env) w ≡ value_in known 65 w
    unfolding height_of
    enough w r = same-depth (depth_of root env) 65 w (omega arith) (omega arith)

    pub forward-depth : (p : List Text)
        → let w = walk_in known p (push_node known (root_node root) ([], no)) in value_in known (depth_of root env) w ≡ value_in known 65 w
    forward-depth p = enough (walk_in known p (push_node known (root_node root) ([], no))) (forward-low root p)

-- lazy layers of a height are settled layers of it
module _ (known : ℕ → Option Answer) (within : (b : ℕ) (a : Answer) → known b ≡ some a → WithinSize a) where
  pub shallow-within : Shallow known
  shallow-within b v e = nested v (within b (some v) e)

  pub flat-low : (N h : ℕ) (ls : Layers) → AllLow true N h ls → height_in (flat known ls).0 ≤ h
  unfolding flat
  flat-low N h end w = omega arith
  flat-low N h (layer (written n) ls) w =
      layer-low known shallow-within h (written n) (flat known ls) (w.0.1 refl) (flat-low N h ls w.1)
  flat-low N h (layer (settled v) ls) w =
      layer-low known shallow-within h (settled v) (flat known ls) (w.0 refl) (flat-low N h ls w.1)
  flat-low N h (wait b f) w = go (known b) refl (λ a s. flat-low N h (f a) (w.1 a (λ _. s)))
    where
      go : (o : Option Answer) → known b ≡ o → ((a : Answer) → WithinSize a → height_in (flat known (f a)).0 ≤ h)
          → height_in (elim o as (λ _. Settled) [ none ↦ ([], at b) | some a ↦ flat known (f a) ]).0 ≤ h
      go none e ih = omega arith
      go (some a) e ih = ih a (within b a e)

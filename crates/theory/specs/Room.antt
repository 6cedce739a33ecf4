-- How much room layers need that are held one above another, those of each key above the keys of the merged object and its layers: twice
-- the nodes in them at most, however deep they are.
--
-- One key deeper there are fewer nodes: each object goes, and of every other key at least one field or member.
use Rattle.std.specs.Prelude.{◌≡◌, Bool, ◌||◌}
use Rattle.std.proofs.Math.Path.{refl, ap}
use Prim.Native.Nat.{ℕ, zero, suc, ◌+◌, ◌*◌, max, ◌≤◌}
use mathlib.Core.List.{List, [], ◌∷◌, ◌++◌, reverse, reverse_aux}
use Rattle.std.proofs.Math.Bool.{true, false}
use Rattle.std.proofs.Math.Option.{Option, none, some}
use native.Mathlib.Omega.{arith}
use Rattle.std.proofs.Math.ListN.{length}
use Rattle.answers.specs.Ask.{value}
use Rattle.answers.specs.Theory.Sound.{clash}
use Rattle.rules.specs.Bytes.{Text, same}
use Rattle.rules.specs.Tree.{Node, simple, array, object, unresolved, Elements, no-elements, element, Fields, no_fields, field}
use Rattle.rules.specs.Values.{Value, scalar, array_of, object_of, Members, no-members, member, Answer}
use Rattle.rules.specs.Layers.{Layer, written, settled, Counted, merged, of_objects, of_other, has_key, add_key, field_keys, member_keys, layer_keys, keys_in_order}
use Rattle.rules.specs.Weights.{weight_of_value, weight_of_members, weight_of_answer, weight_of, weight_of_elements, weight_of_fields, weight_of_layer, weigh, objects_on, elements_on}
use Rattle.theory.specs.Layout.{same-eq, same_refl}
use Rattle.rules.specs.Settled.{Ending, no, at, Settled, Given, push, push_answer, push_node, push_layer, push_all, push_if, named_in, member_in, inside_in, deeper_in, deeper_of, walk_in, gather_in}

pub value-weighs : (v : Value) → 1 ≤ weight_of_value v
unfolding weight_of_value
value-weighs (scalar x) = omega arith
value-weighs (array_of vs) = omega arith
value-weighs (object_of ms) = omega arith

-- ---- keys, with one that may be new

length_last : (ks : List Text) (k : Text) → length (ks ++ (k ∷ [])) ≡ suc (length ks)
length_last [] k = refl
length_last (j ∷ ks) k = rw (length_last ks k)

has_last : (k j : Text) (ks : List Text) → has_key k (ks ++ (j ∷ [])) ≡ has_key k ks || same k j
unfolding has_key
has_last k j [] = go (same k j)
  where
    go : (t : Bool) → ◌≡◌ {A = Bool} (elim t [ true ↦ true | false ↦ false ]) t
    go true = refl
    go false = refl
has_last k j (i ∷ ks) = go (same k i) (has_last k j ks)
  where
    go : (t : Bool) → has_key k (ks ++ (j ∷ [])) ≡ has_key k ks || same k j
        → elim t as (λ _. Bool) [ true ↦ true | false ↦ has_key k (ks ++ (j ∷ [])) ]
        ≡ (elim t as (λ _. Bool) [ true ↦ true | false ↦ has_key k ks ]) || same k j
    go true ih = refl
    go false ih = ih

key-old : (k : Text) (ks : List Text) → has_key k ks ≡ true → add_key k ks ≡ ks
unfolding add_key
key-old k ks e = rw (add_key, e)

key-new : (k : Text) (ks : List Text) → has_key k ks ≡ false → add_key k ks ≡ ks ++ (k ∷ [])
unfolding add_key
key-new k ks e = rw (add_key, e)

has_some : (k : Text) (ks : List Text) → has_key k ks ≡ true → 1 ≤ length ks
unfolding has_key
has_some k [] e = clash (cc)
has_some k (j ∷ ks) e = omega arith

-- how many keys there are with k
unfoldable keys_with : Text → List Text → ℕ
unfolding add_key
keys_with k ks = length (add_key k ks)

with-old : (k : Text) (ks : List Text) → has_key k ks ≡ true → keys_with k ks ≡ length ks
unfolding keys_with
with-old k ks e = rw (key-old k ks e)

with-new : (k : Text) (ks : List Text) → has_key k ks ≡ false → keys_with k ks ≡ suc (length ks)
unfolding keys_with
with-new k ks e = rw (key-new k ks e) (length_last ks k)

with_all : (k : Text) (ks : List Text) → (length ks ≤ keys_with k ks) × (1 ≤ keys_with k ks)
with_all k ks = go (has_key k ks) refl
  where
    go : (t : Bool) → has_key k ks ≡ t → (length ks ≤ keys_with k ks) × (1 ≤ keys_with k ks)
    go true e = rw (with-old k ks e) (omega arith, has_some k ks e)
    go false e = rw (with-new k ks e) (omega arith, omega arith)

-- a new key behind the others: it may be k
with-last : (k j : Text) (ks : List Text) → keys_with k (ks ++ (j ∷ [])) ≤ suc (keys_with k ks)
with-last k j ks = go (has_key k ks) refl (has_key k (ks ++ (j ∷ []))) refl
  where
    go : (t : Bool) → has_key k ks ≡ t → (u : Bool) → has_key k (ks ++ (j ∷ [])) ≡ u → keys_with k (ks ++ (j ∷ [])) ≤ suc (keys_with k ks)
    go true e true f = omega (arith, with-old k ks e, with-old k (ks ++ (j ∷ [])) f, length_last ks j)
    go true e false f = clash (cc (has_last k j ks))
    go false e true f = omega (arith, with-new k ks e, with-old k (ks ++ (j ∷ [])) f, length_last ks j)
    go false e false f = omega (arith, with-new k ks e, with-new k (ks ++ (j ∷ [])) f, length_last ks j)

with-other : (k j : Text) (ks : List Text) → keys_with k (add_key j ks) ≤ suc (keys_with k ks)
with-other k j ks = go (has_key j ks) refl
  where
    go : (t : Bool) → has_key j ks ≡ t → keys_with k (add_key j ks) ≤ suc (keys_with k ks)
    go true e = rw (key-old j ks e) (omega arith)
    go false e = rw (key-new j ks e) (with-last k j ks)

-- k itself is counted already
with-again : (k j : Text) (ks : List Text) → same j k ≡ true → keys_with k (add_key j ks) ≡ keys_with k ks
with-again k j ks s = rw (same-eq j k s) (go (has_key k ks) refl)
  where
    go : (t : Bool) → has_key k ks ≡ t → keys_with k (add_key k ks) ≡ keys_with k ks
    go true e = rw (key-old k ks e)
    go false e =
        let f : has_key k (ks ++ (k ∷ [])) ≡ true = rw (has_last k k ks, e) (same_refl k) in
        rw (key-new k ks e, with-old k (ks ++ (k ∷ [])) f, with-new k ks e) (length_last ks k)

of-objects : (rs os : List Layer) → ◌≡◌ {A = Given Counted} (value (of_objects rs)) (value (merged os)) → os ≡ rs
unfolding of_objects
of-objects [] os e = clash (cc)
of-objects (r ∷ rs) os e = cc

of-other : (l : Layer) (rs os : List Layer) → ◌≡◌ {A = Given Counted} (value (of_other l rs)) (value (merged os)) → os ≡ rs
unfolding of_other
of-other l [] os e = clash (cc)
of-other l (r ∷ rs) os e = cc

-- ---- the greatest need of any key

abbrev pub greatest : (Text → ℕ) → List Text → ℕ
greatest f [] = 0
greatest f (k ∷ ks) = max (f k) (greatest f ks)

above_low : (n h : ℕ) (f : Text → ℕ) (ks : List Text) → n ≤ h → ((k : Text) → n + f k ≤ h) → n + greatest f ks ≤ h
above_low n h f [] l m = omega arith
above_low n h f (k ∷ ks) l m = omega (arith, m k, above_low n h f ks l m)

module _ (known : ℕ → Option Answer) where
  pub node-weighs : (n : Node) → 1 ≤ weight_of known n
  unfolding weight_of
  node-weighs (simple x) = omega arith
  node-weighs (array es) = omega arith
  node-weighs (object fs) = omega arith
  node-weighs (unresolved b ps) = omega arith

  layer-weighs : (l : Layer) → 1 ≤ weight_of_layer known l
  layer-weighs (written n) = node-weighs n
  layer-weighs (settled v) = value-weighs v

  pub length-weighs : (ls : List Layer) → length ls ≤ weigh known ls
  length-weighs [] = omega arith
  length-weighs (l ∷ ls) = omega (arith, layer-weighs l, length-weighs ls)

  -- ---- one key deeper

  pub node_pushed : (n : Node) (w : Settled) → weigh known (push_node known n w).0 ≤ weight_of known n + weigh known w.0
  unfolding push_node push weight_of
  node_pushed (simple x) w = omega arith
  node_pushed (array es) w = omega arith
  node_pushed (object fs) w = omega arith
  node_pushed (unresolved b ps) w = go (known b)
    where
      go : (o : Option Answer) → weigh known (push_answer b o w).0 ≤ suc (weight_of_answer o) + weigh known w.0
      go none = omega arith
      go (some none) = omega arith
      go (some (some v)) = omega arith

  fields-deeper : (k : Text) (fs : Fields) (w : Settled) (ks : List Text)
      → weigh known (named_in known k fs w).0 + keys_with k (field_keys fs ks) ≤ weigh known w.0 + keys_with k ks + weight_of_fields known fs
  unfolding named_in field_keys weight_of
  fields-deeper k no_fields w ks = omega arith
  fields-deeper k (field j n fs) w ks = go (same j.text k) refl (λ u. fields-deeper k fs u (add_key j.text ks))
    where
      go : (t : Bool) → same j.text k ≡ t
          → ((u : Settled) → weigh known (named_in known k fs u).0 + keys_with k (field_keys fs (add_key j.text ks))
          ≤ weigh known u.0 + keys_with k (add_key j.text ks) + weight_of_fields known fs)
          → weigh known (named_in known k fs (push_if known t n w)).0 + keys_with k (field_keys fs (add_key j.text ks))
          ≤ weigh known w.0 + keys_with k ks + (weight_of known n + weight_of_fields known fs)
      go true e ih = omega (arith, ih (push_node known n w), node_pushed n w, with-again k j.text ks e)
      go false e ih = omega (arith, ih w, with-other k j.text ks, node-weighs n)

  members-keys : (k : Text) (ms : Members) (ks : List Text) → keys_with k (member_keys ms ks) ≤ keys_with k ks + weight_of_members ms
  unfolding member_keys weight_of_value
  members-keys k no-members ks = omega arith
  members-keys k (member j v ms) ks = omega (arith, members-keys k ms (add_key j ks), with-other k j ks, value-weighs v)

  members-deeper : (k : Text) (ms : Members) (w : Settled) (ks : List Text)
      → weigh known (member_in known k ms w).0 + keys_with k (member_keys ms ks) ≤ weigh known w.0 + keys_with k ks + weight_of_members ms
  unfolding member_in push member_keys weight_of_value
  members-deeper k no-members w ks = omega arith
  members-deeper k (member j v ms) w ks = go (same j k) refl (members-deeper k ms w (add_key j ks))
    where
      go : (t : Bool) → same j k ≡ t
          → weigh known (member_in known k ms w).0 + keys_with k (member_keys ms (add_key j ks))
          ≤ weigh known w.0 + keys_with k (add_key j ks) + weight_of_members ms
          → weigh known (elim t as (λ _. Settled) [ true ↦ push (settled v) w | false ↦ member_in known k ms w ]).0
          + keys_with k (member_keys ms (add_key j ks))
          ≤ weigh known w.0 + keys_with k ks + (weight_of_value v + weight_of_members ms)
      go true e ih = omega (arith, members-keys k ms (add_key j ks), with-again k j ks e)
      go false e ih = omega (arith, ih, with-other k j ks, value-weighs v)

  -- a layer itself goes; any other value than an object has no keys, and ends the walk
  inside-deeper : (k : Text) (l : Layer) (w : Settled) (ks : List Text)
      → weigh known (inside_in known k l w).0 + suc (keys_with k (layer_keys l ks)) ≤ weigh known w.0 + keys_with k ks + weight_of_layer known l
  unfolding inside_in layer_keys weight_of weight_of_value
  inside-deeper k (settled (scalar x)) w ks = omega arith
  inside-deeper k (settled (array_of vs)) w ks = omega arith
  inside-deeper k (settled (object_of ms)) w ks = omega (arith, members-deeper k ms w ks)
  inside-deeper k (written (simple x)) w ks = omega arith
  inside-deeper k (written (array es)) w ks = omega arith
  inside-deeper k (written (object fs)) w ks = omega (arith, fields-deeper k fs w ks)
  inside-deeper k (written (unresolved b ps)) w ks = omega arith

  with_keys : (k : Text) (ls : List Layer) (st : Ending)
      → weigh known (deeper_in known k ls st).0 + length ls + keys_with k (keys_in_order ls) ≤ weigh known ls + 1
  unfolding deeper_in keys_in_order has_key
  with_keys k [] st = omega (arith, with-new k [] refl)
  with_keys k (l ∷ ls) st = omega (arith, inside-deeper k l (deeper_in known k ls st) (keys_in_order ls), with_keys k ls st)

  pub deeper-weighs : (k : Text) (ls : List Layer) (st : Ending) → weigh known (deeper_in known k ls st).0 + length ls ≤ weigh known ls
  deeper-weighs k ls st = omega (arith, with_keys k ls st, (with_all k (keys_in_order ls)).1)

  pub keys-weigh : (k : Text) (ls : List Layer) (st : Ending)
      → weigh known (deeper_in known k ls st).0 + length ls + length (keys_in_order ls) ≤ weigh known ls + 1
  keys-weigh k ls st = omega (arith, with_keys k ls st, (with_all k (keys_in_order ls)).0)

  pub walk-weighs : (ks : List Text) (w : Settled) → weigh known (walk_in known ks w).0 ≤ weigh known w.0
  unfolding walk_in
  walk-weighs [] w = omega arith
  walk-weighs (k ∷ ks) w = omega (arith, walk-weighs ks (deeper_of known k w), deeper-weighs k w.0 w.1)

  -- ---- the objects on top

  -- each of the others weighs at least 1
  objects-weigh : (ls : List Layer) → weigh known (objects_on ls) + length ls ≤ weigh known ls + length (objects_on ls)
  unfolding objects_on
  objects-weigh [] = omega arith
  objects-weigh (settled (scalar x) ∷ ls) = omega (arith, value-weighs (scalar x), length-weighs ls)
  objects-weigh (settled (array_of vs) ∷ ls) = omega (arith, value-weighs (array_of vs), length-weighs ls)
  objects-weigh (settled (object_of ms) ∷ ls) = omega (arith, objects-weigh ls)
  objects-weigh (written (simple x) ∷ ls) = omega (arith, node-weighs (simple x), length-weighs ls)
  objects-weigh (written (array es) ∷ ls) = omega (arith, node-weighs (array es), length-weighs ls)
  objects-weigh (written (object fs) ∷ ls) = omega (arith, objects-weigh ls)
  objects-weigh (written (unresolved b ps) ∷ ls) = omega (arith, node-weighs (unresolved b ps), objects-weigh ls)

  -- they are what counts
  pub objects-gathered : (ls : List Layer) (st : Ending) (above os : List Layer) → gather_in known ls st above ≡ value (merged os)
      → os ≡ reverse_aux above (objects_on ls)
  unfolding gather_in objects_on
  objects-gathered [] no above os e = of-objects (reverse above) os e
  objects-gathered [] (at b) above os e = clash (cc)
  objects-gathered (settled (scalar x) ∷ ls) st above os e = of-other (settled (scalar x)) (reverse above) os e
  objects-gathered (settled (array_of vs) ∷ ls) st above os e = of-other (settled (array_of vs)) (reverse above) os e
  objects-gathered (settled (object_of ms) ∷ ls) st above os e = objects-gathered ls st (settled (object_of ms) ∷ above) os e
  objects-gathered (written (simple x) ∷ ls) st above os e = of-other (written (simple x)) (reverse above) os e
  objects-gathered (written (array es) ∷ ls) st above os e = of-other (written (array es)) (reverse above) os e
  objects-gathered (written (object fs) ∷ ls) st above os e = objects-gathered ls st (written (object fs) ∷ above) os e
  objects-gathered (written (unresolved b ps) ∷ ls) st above os e = objects-gathered ls st above os e

  pub objects-pushed : (ls : List Layer) → push_all known (objects_on ls) ≡ (objects_on ls, no)
  unfolding push_all push_layer push_node push objects_on
  objects-pushed [] = refl
  objects-pushed (settled (scalar x) ∷ ls) = refl
  objects-pushed (settled (array_of vs) ∷ ls) = refl
  objects-pushed (settled (object_of ms) ∷ ls) = ap (push (settled (object_of ms))) (objects-pushed ls)
  objects-pushed (written (simple x) ∷ ls) = refl
  objects-pushed (written (array es) ∷ ls) = refl
  objects-pushed (written (object fs) ∷ ls) = ap (push (written (object fs))) (objects-pushed ls)
  objects-pushed (written (unresolved b ps) ∷ ls) = objects-pushed ls

  -- ---- the room

  -- the keys, then one key deeper, above the layers
  pub step-weighs : (k : Text) (ls : List Layer)
      → let ks = keys_in_order (objects_on ls) in
      1 ≤ length ks → length ls + (length ks + 2 * weigh known (deeper_in known k (objects_on ls) no).0) ≤ 2 * weigh known ls
  unfolding objects_on keys_in_order
  step-weighs k [] m = absurd (omega arith)
  step-weighs k (l ∷ ls) m = let os = objects_on (l ∷ ls) in omega (arith, keys-weigh k os no, objects-weigh (l ∷ ls))

  abbrev pub keys_room : (List Layer → ℕ) → List Layer → ℕ
  keys_room room ls =
      let os = objects_on ls in
      let ks = keys_in_order os in
      greatest (λ k. length ks + room (deeper_in known k os no).0) ks

  unfoldable pub room_in : ℕ → List Layer → ℕ
  unfolding objects_on deeper_in keys_in_order
  room_in zero ls = length ls
  room_in (suc d) ls = length ls + keys_room (room_in d) ls

  keys-room : (room : List Layer → ℕ) → ((ls : List Layer) → room ls ≤ 2 * weigh known ls) → (ls : List Layer)
      → length ls + keys_room room ls ≤ 2 * weigh known ls
  keys-room room r ls = go (keys_in_order os) (λ k m. omega (arith, step-weighs k ls m, r (deeper_in known k os no).0))
    where
      os : List Layer
      os = objects_on ls

      go : (ks : List Text) → ((k : Text) → 1 ≤ length ks → length ls + (length ks + room (deeper_in known k os no).0) ≤ 2 * weigh known ls)
          → length ls + greatest (λ k. length ks + room (deeper_in known k os no).0) ks ≤ 2 * weigh known ls
      go [] h = omega (arith, length-weighs ls)
      go (j ∷ ks) h =
          above_low (length ls) (2 * weigh known ls) (λ k. suc (length ks) + room (deeper_in known k os no).0) (j ∷ ks)
          (omega (arith, length-weighs ls)) (λ k. h k (omega arith))

  pub room-enough : (d : ℕ) (ls : List Layer) → room_in d ls ≤ 2 * weigh known ls
  unfolding room_in
  room-enough zero ls = omega (arith, length-weighs ls)
  room-enough (suc d) ls = keys-room (room_in d) (room-enough d) ls

  -- ---- the room, where the elements of an array on top are held above its layers too, each a root of its own

  abbrev mutual
    pub node_room : (List Layer → ℕ) → Node → ℕ
    node_room room (simple x) = 0
    node_room room (array es) = elements_room room es
    node_room room (object fs) = room (written (object fs) ∷ [])
    node_room room (unresolved b ps) = 0

    pub elements_room : (List Layer → ℕ) → Elements → ℕ
    elements_room room no-elements = 0
    elements_room room (element n es) = max (node_room room n) (elements_room room es)

  unfoldable pub room_with_elements : ℕ → List Layer → ℕ
  unfolding objects_on elements_on deeper_in keys_in_order
  room_with_elements zero ls = length ls
  room_with_elements (suc d) ls = length ls + max (keys_room (room_with_elements d) ls) (elements_room (room_with_elements d) (elements_on ls))

  pub elements-weigh : (ls : List Layer) → length ls + 2 * weight_of_elements known (elements_on ls) ≤ 2 * weigh known ls
  unfolding elements_on weight_of
  elements-weigh [] = omega arith
  elements-weigh (settled v ∷ ls) = omega (arith, length-weighs (settled v ∷ ls))
  elements-weigh (written (simple x) ∷ ls) = omega (arith, length-weighs ls)
  elements-weigh (written (array es) ∷ ls) = omega (arith, length-weighs ls)
  elements-weigh (written (object fs) ∷ ls) = omega (arith, length-weighs ls)
  elements-weigh (written (unresolved b ps) ∷ ls) = omega (arith, elements-weigh ls)

  module _ (room : List Layer → ℕ) (r : (ls : List Layer) → room ls ≤ 2 * weigh known ls) where
    mutual
      unfolding weight_of

      node-room : (n : Node) → node_room room n ≤ 2 * weight_of known n
      node-room (simple x) = omega arith
      node-room (array es) = omega (arith, elements-room es)
      node-room (object fs) = omega (arith, r (written (object fs) ∷ []))
      node-room (unresolved b ps) = omega arith

      elements-room : (es : Elements) → elements_room room es ≤ 2 * weight_of_elements known es
      elements-room no-elements = omega arith
      elements-room (element n es) = omega (arith, node-room n, elements-room es)

  pub elements-enough : (d : ℕ) (ls : List Layer) → room_with_elements d ls ≤ 2 * weigh known ls
  unfolding room_with_elements
  elements-enough zero ls = omega (arith, length-weighs ls)
  elements-enough (suc d) ls =
      let room = room_with_elements d in
      omega (arith, keys-room room (elements-enough d) ls, elements-room room (elements-enough d) (elements_on ls), elements-weigh ls)

-- The room that groups take on the stack. Objects that stand up to a place, with a number of entries above it that is twice what their
-- members weigh, have room for their members; and the objects that one key's members come to stand above these with such room again.
use Rattle.std.specs.Prelude.{◌≡◌, Bool, cond}
use Rattle.std.proofs.Math.Path.{refl}
use Rattle.std.proofs.Math.Bool.{true, false}
use mathlib.Core.List.{List, [], ◌∷◌, ◌++◌, reverse, reverse_aux}
use Rattle.std.proofs.Math.Option.{Option, none, some}
use Prim.Native.Nat.{ℕ, suc, ◌+◌, ◌*◌, ◌≤◌}
use native.Mathlib.Omega.{arith}
use Rattle.std.proofs.Math.ListN.{length, length-reverse}
use Rattle.rules.specs.Bytes.{Text, same}
use Rattle.rules.specs.Tree.{simple, array, object, unresolved, Fields, no_fields, field}
use Rattle.rules.specs.Values.{scalar, array_of, object_of, Members, no-members, member, Answer}
use Rattle.rules.specs.Layers.{Layer, written, settled}
use Rattle.rules.specs.Settled.{push, push_answer, push_node, push_layer, push_all, deeper_in, deeper_of}
use Rattle.rules.specs.Weights.{weight_of, weight_of_fields, weight_of_value, weight_of_members, weight_of_answer, weight_of_layer, weigh, objects_on}
use Rattle.theory.specs.Room.{node-weighs, value-weighs, length-weighs}
use Rattle.eval_groups.specs.Entries.{Entry, field_entries, member_entries, layer_entries, entries_of, pick, Objects, deeper-picked}

module _ (known : ℕ → Option Answer) where
  -- what members weigh
  abbrev pub weigh_entries : List Entry → ℕ
  weigh_entries [] = 0
  weigh_entries (e ∷ es) = weight_of_layer known e.1 + weigh_entries es

  -- the room of objects that stand up to hi, where the stack has so many entries
  abbrev pub Roomy : ℕ → ℕ → List Layer → Type 0
  Roomy entries hi os = hi + 2 * weigh_entries (entries_of os) ≤ entries

  weigh-append : (a b : List Entry) → weigh_entries (a ++ b) ≡ weigh_entries a + weigh_entries b
  weigh-append [] b = omega arith
  weigh-append (e ∷ a) b = omega (arith, weigh-append a b)

  fields-weigh : (fs : Fields) → weigh_entries (field_entries fs) ≡ weight_of_fields known fs
  unfolding field_entries weight_of
  fields-weigh no_fields = refl
  fields-weigh (field j n fs) = omega (arith, fields-weigh fs)

  members-weigh : (ms : Members) → weigh_entries (member_entries ms) ≡ weight_of_members ms
  unfolding member_entries weight_of_value
  members-weigh no-members = refl
  members-weigh (member j v ms) = omega (arith, members-weigh ms)

  -- objects weigh what their members weigh, and one each
  pub objects-weigh : (os : List Layer) → Objects os → weigh known os ≡ length os + weigh_entries (entries_of os)
  unfolding entries_of layer_entries weight_of weight_of_value
  objects-weigh [] o = omega arith
  objects-weigh (settled (scalar x) ∷ os) o = absurd o
  objects-weigh (settled (array_of vs) ∷ os) o = absurd o
  objects-weigh (settled (object_of ms) ∷ os) o =
      omega (arith, objects-weigh os o.1, weigh-append (entries_of os) (member_entries ms), members-weigh ms)
  objects-weigh (written (simple x) ∷ os) o = absurd o
  objects-weigh (written (array es) ∷ os) o = absurd o
  objects-weigh (written (object fs) ∷ os) o =
      omega (arith, objects-weigh os o, weigh-append (entries_of os) (field_entries fs), fields-weigh fs)
  objects-weigh (written (unresolved b ps) ∷ os) o = absurd o

  layer-weighs : (l : Layer) → 1 ≤ weight_of_layer known l
  layer-weighs (written n) = node-weighs known n
  layer-weighs (settled v) = value-weighs v

  pub entries-weigh : (es : List Entry) → length es ≤ weigh_entries es
  entries-weigh [] = omega arith
  entries-weigh (e ∷ es) = omega (arith, layer-weighs e.1, entries-weigh es)

  -- there is room for the members
  pub members-fit : (entries hi : ℕ) (os : List Layer) → Roomy entries hi os → hi + length (entries_of os) ≤ entries
  members-fit entries hi os r = omega (arith, entries-weigh (entries_of os))

  -- ---- what one key's members come to

  pub picked-few : (k : Text) (es : List Entry) → length (pick k es) ≤ length es
  unfolding pick
  picked-few k [] = omega arith
  picked-few k (e ∷ es) = go (same e.0 k) (picked-few k es)
    where
      go : (t : Bool) → length (pick k es) ≤ length es → length (cond t (e.1 ∷ pick k es) (pick k es)) ≤ suc (length es)
      go true ih = omega arith
      go false ih = omega arith

  pub picked-weigh : (k : Text) (es : List Entry) → length es + 2 * weigh known (pick k es) ≤ length (pick k es) + 2 * weigh_entries es
  unfolding pick
  picked-weigh k [] = omega arith
  picked-weigh k (e ∷ es) = go (same e.0 k) (picked-weigh k es) (layer-weighs e.1)
    where
      go : (t : Bool) → length es + 2 * weigh known (pick k es) ≤ length (pick k es) + 2 * weigh_entries es → 1 ≤ weight_of_layer known e.1
          → suc (length es) + 2 * weigh known (cond t (e.1 ∷ pick k es) (pick k es))
          ≤ length (cond t (e.1 ∷ pick k es) (pick k es)) + 2 * (weight_of_layer known e.1 + weigh_entries es)
      go true ih l = omega arith
      go false ih l = omega arith

  pub weigh-turned : (xs ys : List Layer) → weigh known (reverse_aux xs ys) ≡ weigh known xs + weigh known ys
  weigh-turned [] ys = omega arith
  weigh-turned (x ∷ xs) ys = omega (arith, weigh-turned xs (x ∷ ys))

  -- the objects on top of members that are pushed
  abbrev on_top : List Layer → List Layer
  on_top ls = objects_on (push_all known ls).0

  none-on-top : (l : Layer) (ls : List Layer) → suc (length ls) + 2 * 0 ≤ 2 * (weight_of_layer known l + weigh known ls) + 0
  none-on-top l ls = omega (arith, layer-weighs l, length-weighs known ls)

  answer-weighs : (b : ℕ) (ls : List Layer) (a : Option Answer) → length ls + 2 * weigh known (on_top ls) ≤ 2 * weigh known ls + length (on_top ls)
      → suc (length ls) + 2 * weigh known (objects_on (push_answer b a (push_all known ls)).0)
      ≤ 2 * (suc (weight_of_answer a) + weigh known ls) + length (objects_on (push_answer b a (push_all known ls)).0)
  unfolding objects_on push_answer push
  answer-weighs b ls none ih = omega (arith, length-weighs known ls)
  answer-weighs b ls (some none) ih = omega arith
  answer-weighs b ls (some (some (scalar x))) ih = omega (arith, length-weighs known ls)
  answer-weighs b ls (some (some (array_of vs))) ih = omega (arith, length-weighs known ls)
  answer-weighs b ls (some (some (object_of ms))) ih = omega arith

  tops-weigh : (ls : List Layer) → length ls + 2 * weigh known (on_top ls) ≤ 2 * weigh known ls + length (on_top ls)
  unfolding objects_on push_all push_layer push_node push weight_of
  tops-weigh [] = omega arith
  tops-weigh (settled (scalar x) ∷ ls) = none-on-top (settled (scalar x)) ls
  tops-weigh (settled (array_of vs) ∷ ls) = none-on-top (settled (array_of vs)) ls
  tops-weigh (settled (object_of ms) ∷ ls) = omega (arith, tops-weigh ls)
  tops-weigh (written (simple x) ∷ ls) = none-on-top (written (simple x)) ls
  tops-weigh (written (array es) ∷ ls) = none-on-top (written (array es)) ls
  tops-weigh (written (object fs) ∷ ls) = omega (arith, tops-weigh ls)
  tops-weigh (written (unresolved b ps) ∷ ls) = answer-weighs b ls (known b) (tops-weigh ls)

  -- the objects on top weigh no more than all layers
  pub tops-lighter : (ls : List Layer) → weigh known (objects_on ls) ≤ weigh known ls
  unfolding objects_on
  tops-lighter [] = omega arith
  tops-lighter (settled (scalar x) ∷ ls) = omega arith
  tops-lighter (settled (array_of vs) ∷ ls) = omega arith
  tops-lighter (settled (object_of ms) ∷ ls) = omega (arith, tops-lighter ls)
  tops-lighter (written (simple x) ∷ ls) = omega arith
  tops-lighter (written (array es) ∷ ls) = omega arith
  tops-lighter (written (object fs) ∷ ls) = omega (arith, tops-lighter ls)
  tops-lighter (written (unresolved b ps) ∷ ls) = omega (arith, tops-lighter ls)

  -- The objects that one key's members come to have room above the members of all keys.
  pub step_fits : (entries hi : ℕ) (os : List Layer) → Objects os → Roomy entries hi os → (k : Text) (os' : List Layer) → Objects os'
      → os' ≡ objects_on (deeper_of known k (push_all known os)).0 → Roomy entries (hi + length (entries_of os) + length os') os'
  unfolding deeper_in
  step_fits entries hi os o r k os' o' e =
      let es = entries_of os in
      let ls = reverse (pick k es) in
      let f : os' ≡ on_top ls = rw (← (deeper-picked known k os o)) e in
      let t : length ls + 2 * weigh known os' ≤ 2 * weigh known ls + length os' = rw f (tops-weigh ls) in
      let n : length ls ≡ length (pick k es) = length-reverse (pick k es) in
      let m : weigh known ls ≡ weigh known (pick k es) + 0 = weigh-turned (pick k es) [] in
      omega (arith, objects-weigh os' o', picked-weigh k es)

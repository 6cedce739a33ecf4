-- What counts of layers: how high it is, and that it is no object or some objects.
use Rattle.std.specs.Prelude.{◌≡◌, refl, ℕ, ◌+◌, ◌≤◌, ◌<◌}
use mathlib.Core.List.{List, [], ◌∷◌, reverse}
use Rattle.std.proofs.Math.Option.{Option}
use native.Mathlib.Omega.{arith}
use Rattle.answers.specs.Ask.{value}
use Rattle.answers.specs.Theory.Sound.{clash}
use Rattle.rules.specs.Tree.{simple, array, object, unresolved, height_of, highest_element}
use Rattle.rules.specs.Values.{scalar, array_of, object_of, Answer, nesting_of}
use Rattle.rules.specs.Layers.{Layer, written, settled, Counted, one, merged, of_objects, of_other}
use Rattle.rules.specs.Settled.{Ending, no, at, Given, gather_in}
use Rattle.rules.specs.Weights.{objects_on}
use Rattle.theory.specs.Depths.{layer_height, height_in}
use Rattle.theory.specs.Room.{objects-gathered}
use Rattle.eval_groups.specs.Entries.{Objects}

-- a depth of the rules that is enough for a layer by itself
abbrev pub LayerDeep : ℕ → Layer → Type 0
LayerDeep d (written (simple x)) = Unit {0}
LayerDeep d (written (array es)) = highest_element es + 32 < d
LayerDeep d (written (object fs)) = height_of (object fs) + 32 < d
LayerDeep d (written (unresolved b ps)) = Unit {0}
LayerDeep d (settled v) = Unit {0}

-- a layer that is no object, and nothing to be asked
abbrev pub NoObject : Layer → Type 0
NoObject (written (simple x)) = Unit {0}
NoObject (written (array es)) = Unit {0}
NoObject (written (object fs)) = ⊥
NoObject (written (unresolved b ps)) = ⊥
NoObject (settled (scalar x)) = Unit {0}
NoObject (settled (array_of vs)) = Unit {0}
NoObject (settled (object_of ms)) = ⊥

objects-not-one : (rs : List Layer) (l : Layer) → ◌≡◌ {A = Given Counted} (value (of_objects rs)) (value (one l)) → ⊥
unfolding of_objects
objects-not-one [] l e = clash (cc (e))
objects-not-one (r ∷ rs) l e = clash (cc (e))

other-is-one : (m l : Layer) (rs : List Layer) → ◌≡◌ {A = Given Counted} (value (of_other m rs)) (value (one l)) → m ≡ l
unfolding of_other
other-is-one m l [] e = cc (e)
other-is-one m l (r ∷ rs) e = clash (cc (e))

module _ (known : ℕ → Option Answer) (h : ℕ) where
  abbrev pub Low : Layer → Type 0
  Low l = (layer_height l ≤ h) × LayerDeep h l × NoObject l

  one-is : (m l : Layer) (rs : List Layer) → Low m → ◌≡◌ {A = Given Counted} (value (of_other m rs)) (value (one l)) → Low l
  one-is m l rs q e = rw (← other-is-one m l rs e) q

  -- a layer that counts alone is as high as the layers, and no object
  pub one-low : (ls : List Layer) (st : Ending) (above : List Layer) (l : Layer) → height_in ls ≤ h → gather_in known ls st above ≡ value (one l) → Low l
  unfolding gather_in height_of nesting_of
  one-low [] no above l r e = absurd (objects-not-one (reverse above) l e)
  one-low [] (at b) above l r e = clash (cc (e))
  one-low (settled (scalar x) ∷ ls) st above l r e = one-is (settled (scalar x)) l (reverse above) (omega arith, tt, tt) e
  one-low (settled (array_of vs) ∷ ls) st above l r e = one-is (settled (array_of vs)) l (reverse above) (omega arith, tt, tt) e
  one-low (settled (object_of ms) ∷ ls) st above l r e = one-low ls st (settled (object_of ms) ∷ above) l (omega arith) e
  one-low (written (simple x) ∷ ls) st above l r e = one-is (written (simple x)) l (reverse above) (omega arith, tt, tt) e
  one-low (written (array es) ∷ ls) st above l r e = one-is (written (array es)) l (reverse above) (omega arith, omega arith, tt) e
  one-low (written (object fs) ∷ ls) st above l r e = one-low ls st (written (object fs) ∷ above) l (omega arith) e
  one-low (written (unresolved b ps) ∷ ls) st above l r e = one-low ls st above l (omega arith) e

-- ---- objects that merge

some-objects : (rs os : List Layer) → ◌≡◌ {A = Given Counted} (value (of_objects rs)) (value (merged os)) → os ≡ [] → ⊥
unfolding of_objects
some-objects [] os e f = clash (cc (e))
some-objects (r ∷ rs) os e f = clash (cc (e, f))

some-other : (m : Layer) (rs os : List Layer) → ◌≡◌ {A = Given Counted} (value (of_other m rs)) (value (merged os)) → (os ≡ [] → ⊥)
unfolding of_other
some-other m [] os e f = clash (cc (e))
some-other m (r ∷ rs) os e f = clash (cc (e, f))

module _ (known : ℕ → Option Answer) where
  merged_some : (ls : List Layer) (st : Ending) (above os : List Layer) → gather_in known ls st above ≡ value (merged os) → (os ≡ [] → ⊥)
  unfolding gather_in
  merged_some [] no above os e f = some-objects (reverse above) os e f
  merged_some [] (at b) above os e f = clash (cc (e))
  merged_some (settled (scalar x) ∷ ls) st above os e f = some-other (settled (scalar x)) (reverse above) os e f
  merged_some (settled (array_of vs) ∷ ls) st above os e f = some-other (settled (array_of vs)) (reverse above) os e f
  merged_some (settled (object_of ms) ∷ ls) st above os e f = merged_some ls st (settled (object_of ms) ∷ above) os e f
  merged_some (written (simple x) ∷ ls) st above os e f = some-other (written (simple x)) (reverse above) os e f
  merged_some (written (array es) ∷ ls) st above os e f = some-other (written (array es)) (reverse above) os e f
  merged_some (written (object fs) ∷ ls) st above os e f = merged_some ls st (written (object fs) ∷ above) os e f
  merged_some (written (unresolved b ps) ∷ ls) st above os e f = merged_some ls st above os e f

  tops-low : (ls : List Layer) → height_in (objects_on ls) ≤ height_in ls
  unfolding objects_on
  tops-low [] = omega arith
  tops-low (settled (scalar x) ∷ ls) = omega arith
  tops-low (settled (array_of vs) ∷ ls) = omega arith
  tops-low (settled (object_of ms) ∷ ls) = omega (arith, tops-low ls)
  tops-low (written (simple x) ∷ ls) = omega arith
  tops-low (written (array es) ∷ ls) = omega arith
  tops-low (written (object fs) ∷ ls) = omega (arith, tops-low ls)
  tops-low (written (unresolved b ps) ∷ ls) = omega (arith, tops-low ls)

  -- they are no higher than the layers
  pub merged-low : (ls : List Layer) (st : Ending) (os : List Layer) → gather_in known ls st [] ≡ value (merged os) → height_in os ≤ height_in ls
  merged-low ls st os e = rw (objects-gathered known ls st [] os e) (tops-low ls)

-- an object is of some height
pub objects-high : (os : List Layer) → Objects os → (os ≡ [] → ⊥) → 1 ≤ height_in os
unfolding height_of nesting_of
objects-high [] o n = absurd (n refl)
objects-high (settled (scalar x) ∷ os) o n = absurd o
objects-high (settled (array_of vs) ∷ os) o n = absurd o
objects-high (settled (object_of ms) ∷ os) o n = omega arith
objects-high (written (simple x) ∷ os) o n = absurd o
objects-high (written (array es) ∷ os) o n = absurd o
objects-high (written (object fs) ∷ os) o n = omega arith
objects-high (written (unresolved b ps) ∷ os) o n = absurd o

module _ (known : ℕ → Option Answer) where
  pub merged-high : (ls : List Layer) (st : Ending) (os : List Layer) → gather_in known ls st [] ≡ value (merged os) → Objects os → 1 ≤ height_in os
  merged-high ls st os e o = objects-high os o (merged_some known ls st [] os e)

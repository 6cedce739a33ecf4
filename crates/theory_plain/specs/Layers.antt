-- Layers of a path as lists, where each unresolved value has its answer. `rules` has them lazy (Layers), since not every answer is there
-- when they are walked; with the answers there, they are these lists, and what counts of them is what is said here. That they are is shown in proofs/Layers.antt.
use Rattle.std.specs.Prelude.{ℕ, Bool}
use mathlib.Core.List.{List, [], ◌∷◌, ◌++◌}
use Rattle.std.proofs.Math.Bool.{true, false}
use Rattle.std.proofs.Math.Option.{Option, none, some}
use Rattle.rules.specs.Bytes.{Text, same}
use Rattle.rules.specs.Tree.{Node, simple, array, object, unresolved, Fields, no_fields, field}
use Rattle.rules.specs.Values.{scalar, array_of, object_of, Members, no-members, member, Answer}
use Rattle.rules.specs.Layers.{Layer, written, settled, Layers, end, layer, wait}
use Rattle.rules.specs.Layers.{Counted, nothing, one, merged}

-- an undefined answer is no layer
abbrev pub of_answer : Answer → List Layer
of_answer none = []
of_answer (some v) = settled v ∷ []

-- "a blend's answer gives its member k"
abbrev pub members_named : Text → Members → List Layer
members_named k no-members = []
members_named k (member j v ms) = elim (same j k) [ true ↦ settled v ∷ [] | false ↦ members_named k ms ]

-- "take layers last first, skip undefined answers; a non-object is the result at once; an object merges with those below until a non-object
-- or the end." "Nothing left means undefined."
abbrev pub is_object : Layer → Bool
is_object (written (simple x)) = false
is_object (written (array es)) = false
is_object (written (object fs)) = true
is_object (written (unresolved b ps)) = false
is_object (settled (scalar x)) = false
is_object (settled (array_of vs)) = false
is_object (settled (object_of ms)) = true

abbrev pub objects_on_top : List Layer → List Layer
objects_on_top [] = []
objects_on_top (l ∷ ls) = elim (is_object l) [ true ↦ l ∷ objects_on_top ls | false ↦ [] ]

abbrev pub counted : List Layer → Counted
counted [] = nothing
counted (l ∷ ls) = elim (is_object l) [ true ↦ merged (l ∷ objects_on_top ls) | false ↦ one l ]

module _ (answers : ℕ → Answer) where
  -- a field's value as a layer: an unresolved one is its answer
  abbrev pub of_node : Node → List Layer
  of_node (simple x) = written (simple x) ∷ []
  of_node (array es) = written (array es) ∷ []
  of_node (object fs) = written (object fs) ∷ []
  of_node (unresolved b ps) = of_answer (answers b)

  -- "a literal gives its fields named k, last first"
  abbrev pub fields_named : Text → Fields → List Layer
  fields_named k no_fields = []
  fields_named k (field j n fs) = fields_named k fs ++ elim (same j.text k) [ true ↦ of_node n | false ↦ [] ]

  -- what one layer gives for a key; `none` where it "stops the walk"
  abbrev pub inside : Text → Layer → Option (List Layer)
  inside k (written (simple x)) = none
  inside k (written (array es)) = none
  inside k (written (object fs)) = some (fields_named k fs)
  inside k (written (unresolved b ps)) = some []
  inside k (settled (scalar x)) = none
  inside k (settled (array_of vs)) = none
  inside k (settled (object_of ms)) = some (members_named k ms)

  -- "For q then key k, go through q's layers"
  abbrev pub below : Text → List Layer → List Layer
  below k [] = []
  below k (l ∷ ls) = elim (inside k l) [ none ↦ [] | some new ↦ new ++ below k ls ]

  -- "Layers of a path, last first"
  abbrev pub layers_of_path : List Text → List Layer → List Layer
  layers_of_path [] ls = ls
  layers_of_path (k ∷ ks) ls = layers_of_path ks (below k ls)

  -- the rules' lazy layers, read off
  abbrev pub listed : Layers → List Layer
  listed end = []
  listed (layer (written n) rest) = of_node n ++ listed rest
  listed (layer (settled v) rest) = settled v ∷ listed rest
  listed (wait b f) = listed (f (answers b))

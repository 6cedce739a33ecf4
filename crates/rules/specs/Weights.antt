-- How many nodes layers have with all that is inside them: what room they take on one stack (module Room of `theory`).
use Rattle.std.specs.Prelude.{ℕ, suc, ◌+◌, List, [], ◌∷◌}
use Rattle.std.proofs.Math.Option.{Option, none, some}
use Rattle.rules.specs.Tree.{Node, simple, array, object, unresolved, Elements, no-elements, element, Fields, no_fields, field}
use Rattle.rules.specs.Values.{Value, scalar, array_of, object_of, Members, no-members, member, Answer}
use Rattle.rules.specs.Layers.{Layer, written, settled}

-- a finished array is one, as nothing in it becomes a layer

unfoldable mutual
  pub weight_of_value : Value → ℕ
  weight_of_value (scalar x) = 1
  weight_of_value (array_of vs) = 1
  weight_of_value (object_of ms) = suc (weight_of_members ms)

  pub weight_of_members : Members → ℕ
  weight_of_members no-members = 0
  weight_of_members (member k v ms) = weight_of_value v + weight_of_members ms

abbrev pub weight_of_answer : Option Answer → ℕ
weight_of_answer none = 0
weight_of_answer (some none) = 0
weight_of_answer (some (some v)) = weight_of_value v

module _ (known : ℕ → Option Answer) where
  -- an unresolved value is a node, and its answer's are there too
  unfoldable mutual
    pub weight_of : Node → ℕ
    weight_of (simple x) = 1
    weight_of (array es) = suc (weight_of_elements es)
    weight_of (object fs) = suc (weight_of_fields fs)
    weight_of (unresolved b ps) = suc (weight_of_answer (known b))

    pub weight_of_elements : Elements → ℕ
    weight_of_elements no-elements = 0
    weight_of_elements (element n es) = weight_of n + weight_of_elements es

    pub weight_of_fields : Fields → ℕ
    weight_of_fields no_fields = 0
    weight_of_fields (field k n fs) = weight_of n + weight_of_fields fs

  abbrev pub weight_of_layer : Layer → ℕ
  weight_of_layer (written n) = weight_of n
  weight_of_layer (settled v) = weight_of_value v

  abbrev pub weigh : List Layer → ℕ
  weigh [] = 0
  weigh (l ∷ ls) = weight_of_layer l + weigh ls

-- ---- the objects on top, as `gather_in` of Settled takes them

unfoldable pub objects_on : List Layer → List Layer
objects_on [] = []
objects_on (settled (scalar x) ∷ ls) = []
objects_on (settled (array_of vs) ∷ ls) = []
objects_on (settled (object_of ms) ∷ ls) = settled (object_of ms) ∷ objects_on ls
objects_on (written (simple x) ∷ ls) = []
objects_on (written (array es) ∷ ls) = []
objects_on (written (object fs) ∷ ls) = written (object fs) ∷ objects_on ls
objects_on (written (unresolved b ps) ∷ ls) = objects_on ls

-- the elements, where an array counts
unfoldable pub elements_on : List Layer → Elements
elements_on [] = no-elements
elements_on (settled v ∷ ls) = no-elements
elements_on (written (simple x) ∷ ls) = no-elements
elements_on (written (array es) ∷ ls) = es
elements_on (written (object fs) ∷ ls) = no-elements
elements_on (written (unresolved b ps) ∷ ls) = elements_on ls

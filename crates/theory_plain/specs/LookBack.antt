-- Looking back as one function of the root and a value: the fields that are entered on the way from the root to it tell the path of its
-- field and the layers before that field. `rules` has both at hand as it lists the unresolved values (Unresolved). That both are
-- the same is shown in proofs/LookBack.antt.
use Rattle.std.specs.Prelude.{ℕ, List, [], ◌∷◌, ◌++◌}
use Rattle.std.proofs.Math.Option.{Option, none, some}
use Rattle.rules.specs.Bytes.{Text}
use Rattle.rules.specs.Tree.{Key, Fields, Root, root_node}
use Rattle.rules.specs.Layers.{Layers, end, named, deeper, walk_path}
use Rattle.rules.specs.Unresolved.{Openness, behind, forward}
use Rattle.theory_back.specs.Descent.{down_node}

-- a field that is entered: its key, and the fields of its literal before it
pub record Entered : Type 0 where
  pub earlier : Fields
  pub key : Key

-- the fields entered from the root on, the last first
abbrev pub Route : Type 0
Route = List Entered

-- the path of the field at a route's end
abbrev pub path_of : Route → List Text
path_of [] = []
path_of (f ∷ outer) = path_of outer ++ (f.key.text ∷ [])

-- "only layers of P before that field count (earlier fields of that key in the same literal, then the literal's lower layers)"; the root
-- has nothing below it
abbrev pub layers_before : Route → Layers
layers_before [] = end
layers_before (f ∷ outer) = named f.key.text f.earlier (deeper f.key.text (layers_before outer))

-- one field further; what is closed stays so
abbrev pub further : Option Route → Fields → Key → Option Route
further none earlier k = none
further (some r) earlier k = some (record { earlier = earlier; key = k } ∷ r)

-- The route from the root to the unresolved value of a number; none where it stands in an array or inside a piece: there it is closed.
abbrev pub route_to : Root → ℕ → Option Route
route_to root b = down_node none further (some []) 0 (root_node root) b

abbrev pub open_by : Option Route → Openness
open_by none = none
open_by (some r) = some (record { path = path_of r; before = layers_before r })

-- "A substitution standing directly in the blend of an open object's field with path P looks back if its path is P or longer by further
-- elements"; "Otherwise it looks forward."
abbrev pub layers_by : Root → Option Route → List Text → Layers
layers_by root none p = forward root p
layers_by root (some r) p = elim (behind (path_of r) p) [ none ↦ forward root p | some rest ↦ walk_path rest (layers_before r) ]

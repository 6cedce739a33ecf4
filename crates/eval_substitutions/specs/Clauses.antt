-- What the code promises.
use Rattle.std.specs.Prelude.{◌≡◌, ℕ, ◌-◌, ◌≤◌, ◌<◌, List, length, get_or}
use Rattle.doc_items.specs.Room.{capacity}
use Rattle.eval_stack.specs.Model.{entries, seg}
use Rattle.eval_stack.specs.Clauses.{Same}
use Rattle.eval_layers.specs.Model.{Walk}
use Rattle.eval_layers.specs.declared.Part.{Part}
use Rattle.eval_layers.specs.Clauses.{walked}
use Rattle.eval_layers.specs.declared.Walked.{Walked}
use Rattle.eval_substitutions.specs.Keys.Contracts.{RouteIs, PathKeysIs}
use Rattle.eval_substitutions.specs.declared.keys.Route.{Route}
use Rattle.eval_substitutions.specs.Paths.Model.{Layered, parted, walk_path_c}
use Rattle.eval_substitutions.specs.RootFields.Contracts.{OfRootIs}
use Rattle.eval_look_back.specs.Clauses.{LooksBackIs}
use Rattle.eval_substitutions.specs.Model.{Levels}

-- what stands on a stack in a part, and how its walk ended
abbrev pub part_of : List ℕ → Part → Walk
part_of w r = (seg w r.lo (r.hi - r.lo), r.stuck)

-- a part of a stack, where nothing below base has changed
pub record PartAbove (base : ℕ) (w w' : List ℕ) (r : Part) : Type 0 where
  pub same : Same base w w'
  pub above : base ≤ r.hi
  pub low : r.lo ≤ r.hi
  pub high : r.hi ≤ entries
  pub len : length w' ≡ length w

-- from the layers of the root's field on, all levels down to the item
pub record BeforeIs (T R keys : List ℕ) (item field : ℕ) (root : Part) (w w' : List ℕ) (r : Part) : Type 0 where
  pub count : ℕ
  pub levels : (base : ℕ) → Levels T R keys item base field 1 root.lo (part_of w root) → Levels T R keys item base item count r.lo (part_of w' r)
  pub part : PartAbove root.hi w w' r

-- what stands from lo on, with the room that there is for it
abbrev pub from_walk : ℕ → Walk → Layered
from_walk lo x = record { room = entries - lo; layers = x.0; stuck = x.1 }

-- the layers of a path: looking back over so many elements, or from the root on
pub data LayersC (T R keys : List ℕ) (count item base : ℕ) : Layered → Type 0 where
  looking-back : {own n lo : ℕ} {x : Walk} → LooksBackIs T keys count item own → 0 < own → Levels T R keys item base item n lo x
      → LayersC T R keys count item base (walk_path_c T R keys (count - own) own (from_walk lo x))
  looking-forward : {w w' : List ℕ} {r : Walked} → LooksBackIs T keys count item 0 → OfRootIs T (get_or keys 0 0) capacity base w w' r
      → LayersC T R keys count item base (walk_path_c T R keys (count - 1) 1 (from_walk base (walked w' base r)))

pub record LayersForIs (T R keys : List ℕ) (count item base : ℕ) (w w' : List ℕ) (r : Part) : Type 0 where
  pub layers : LayersC T R keys count item base (parted w' r)
  pub part : PartAbove base w w' r

-- ---- the layers of a path, by the numbers of its elements

pub record PathLayersIs (T X R : List ℕ) (base item i : ℕ) (w w' : List ℕ) (r : Part) : Type 0 where
  pub route : Route
  pub routed : RouteIs T i route
  pub blank : List ℕ
  pub keys : List ℕ
  pub found : PathKeysIs X T route blank keys
  pub layers : LayersForIs T R keys route.count item base w w' r

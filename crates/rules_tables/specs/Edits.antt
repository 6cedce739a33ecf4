-- Document 02, No. 9: "three edits on it: replace a simple value by another, remove a field, append a simple field by its new path, in the
-- root too". All three give the edited path a new answer, and leave the rest of the tree.
use Rattle.std.specs.Prelude.{List, [], ◌∷◌, Bool, true, false, ◌&&◌}
use Rattle.std.proofs.Math.Option.{none, some}
use Rattle.rules.specs.Bytes.{Text, same}
use Rattle.rules.specs.Refusals.{Refusal, nowhere}
use Rattle.rules.specs.Values.{Value, scalar, array_of, object_of, Members, no-members, member, Answer}
use Rattle.rules.specs.Layers.{made_member}
use Rattle.rules.specs.NamedValues.{value_at}

-- ---- a path's answer made another

-- the first member of a key changed, or taken away; a new one goes last
unfoldable pub set_member : (key : Text) (change : Answer → Answer) → Members → Members
unfolding same
set_member key change no-members = made_member key (change none) no-members
set_member key change (member k v ms) =
    elim (same k key) [ true ↦ made_member k (change (some v)) ms | false ↦ member k v (set_member key change ms) ]

-- only an object has members
unfoldable pub in_object : (Members → Members) → Value → Value
in_object change (scalar x) = scalar x
in_object change (array_of vs) = array_of vs
in_object change (object_of ms) = object_of (change ms)

unfoldable pub set_at : (path : List Text) (new : Answer) → Answer → Answer
unfolding set_member in_object
set_at [] new old = new
set_at (k ∷ ks) new none = none
set_at (k ∷ ks) new (some v) = some (in_object (set_member k (set_at ks new)) v)

-- ---- the edits

pub data Edit : Type 0 where
  replace : Value → Edit
  remove : Edit
  append : Value → Edit

-- what the edited path answers afterwards: "as the edit says"
abbrev pub says : Edit → Answer
says (replace new) = some new
says remove = none
says (append new) = some new

abbrev pub is_simple : Value → Bool
is_simple (scalar x) = true
is_simple (array_of vs) = false
is_simple (object_of ms) = false

abbrev pub is_object : Value → Bool
is_object (scalar x) = false
is_object (array_of vs) = false
is_object (object_of ms) = true

-- a path less its last element, "an appended key"
unfoldable pub above : List Text → List Text
above [] = []
above (k ∷ []) = []
above (k ∷ (j ∷ js)) = k ∷ above (j ∷ js)

-- what becomes of a tree
pub data Outcome : Type 0 where
  becomes : Value → Outcome
  refused : Refusal → Outcome

-- (a path text has an element, and where it has one a tree is left)
abbrev pub became : Answer → Outcome
became none = refused (nowhere 16)
became (some v) = becomes v

-- "refused if the path fails .., or less an appended key in look-up, by its number" (16); "if what it names or the new value is of the
-- wrong kind" (34); "if that key stands there" (35)
unfoldable pub edited : (edit : Edit) (path : List Text) (tree : Value) → Outcome
unfolding value_at above set_at
edited (replace new) path v =
    elim (value_at path v) [
      | none ↦ refused (nowhere 16)
      | some old ↦ elim (is_simple old && is_simple new) [ false ↦ refused (nowhere 34) | true ↦ became (set_at path (some new) (some v)) ]
    ]
edited remove path v =
    elim (value_at path v) [ none ↦ refused (nowhere 16) | some old ↦ became (set_at path none (some v)) ]
edited (append new) path v =
    elim (value_at (above path) v) [
      | none ↦ refused (nowhere 16)
      | some parent ↦ elim (is_object parent && is_simple new) [
        | false ↦ refused (nowhere 34)
        | true ↦ elim (value_at path v) [ some old ↦ refused (nowhere 35) | none ↦ became (set_at path (some new) (some v)) ]
      ]
    ]

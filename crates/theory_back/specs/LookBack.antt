-- Look-back decided on the way down: the keys of the fields that are entered are held against the path's elements one by one. What is left of
-- the path, and the layers before the field, are carried; where a key differs, or the path has ended, it looks forward. That this is what the rules give is
-- shown in proofs/LookBack.antt.
use Rattle.std.specs.Prelude.{ℕ}
use mathlib.Core.List.{List, [], ◌∷◌}
use Rattle.std.proofs.Math.Bool.{true, false}
use Rattle.std.proofs.Math.Option.{Option, none, some}
use Rattle.rules.specs.Bytes.{Text, same}
use Rattle.rules.specs.Tree.{Key, Fields, Root, root_node}
use Rattle.rules.specs.Layers.{Layers, named, deeper, walk_path}
use Rattle.rules.specs.Unresolved.{Openness, behind, forward}
use Rattle.rules.specs.Values.{Answer}
use Rattle.rules.specs.Settled.{Settled, no, named_in, deeper_of, walk_in}
use Rattle.theory.specs.SettledAnswers.{forward_in}
use Rattle.theory_back.specs.Descent.{down_node}

-- what is left of a path, with what is carried along
abbrev pub Left : Type 0 → Type 0
Left L = Option (List Text × L)

-- `below k earlier l`: one key deeper than l, and above that the earlier fields of the literal
module _ {L : Type 0} (below : Text → Fields → L → L) where
  unfoldable pub next_key : List Text → L → Fields → Key → Left L
  unfolding same
  next_key [] l earlier k = none
  next_key (j ∷ js) l earlier k = elim (same k.text j) [ true ↦ some (js, below j earlier l) | false ↦ none ]

  unfoldable pub onward : Left L → Fields → Key → Left L
  unfolding next_key
  onward none earlier k = none
  onward (some s) earlier k = next_key s.0 s.1 earlier k

  -- what is left of the path p at the unresolved value b, if it looks back there
  abbrev pub look_back : Root → List Text → L → ℕ → Left L
  look_back root p l b = down_node none onward (some (p, l)) 0 (root_node root) b

-- ---- one carrier for another

abbrev pub carried : {L M : Type 0} → (L → M) → Left L → Left M
carried φ none = none
carried φ (some s) = some (s.0, φ s.1)

-- ---- the lazy layers

abbrev pub below_lazy : Text → Fields → Layers → Layers
below_lazy k earlier ls = named k earlier (deeper k ls)

abbrev pub left_behind : Option (List Text) → Layers → Left Layers
left_behind none ls = none
left_behind (some rest) ls = some (rest, ls)

-- what an open field leaves of a path
abbrev pub left_of : List Text → Openness → Left Layers
left_of p none = none
left_of p (some h) = left_behind (behind h.path p) h.before

abbrev pub layers_by : Root → List Text → Left Layers → Layers
layers_by root p none = forward root p
layers_by root p (some s) = walk_path s.0 s.1

-- ---- with the answers known: deeper, then the literal's earlier fields

module _ (known : ℕ → Option Answer) where
  abbrev pub below_in : Text → Fields → Settled → Settled
  below_in k earlier w = named_in known k earlier (deeper_of known k w)

  abbrev pub settled_by : Root → List Text → Left Settled → Settled
  settled_by root p none = forward_in known root p
  settled_by root p (some s) = walk_in known s.0 s.1

  abbrev pub look_back_in : Root → List Text → ℕ → Left Settled
  look_back_in root p b = look_back below_in root p ([], no) b

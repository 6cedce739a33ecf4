-- The test in front of a look-back: the key of the field that an unresolved value is the whole value of is among the path's elements.
-- That it looks forward where the key is not is shown in proofs/OwnKey.antt.
use Rattle.std.specs.Prelude.{◌≡◌, ℕ, false}
use mathlib.Core.List.{List}
use Rattle.std.proofs.Math.Option.{Option, none, some}
use Rattle.rules.specs.Bytes.{Text}
use Rattle.rules.specs.Tree.{Key, Fields, Root, root_node}
use Rattle.rules.specs.Layers.{has_key}
use Rattle.theory_back.specs.Descent.{down_node}

abbrev pub key_onward : Option Text → Fields → Key → Option Text
key_onward x earlier k = some k.text

-- the key of that field; none of an element, and of what stands inside an array or a piece
abbrev pub own_key : Root → ℕ → Option Text
own_key root b = down_node none key_onward none 0 (root_node root) b

-- it is none of the path's elements
abbrev pub Apart : Option Text → List Text → Type 0
Apart none p = Unit {0}
Apart (some k) p = has_key k p ≡ false

-- By computation, of `o = {a = 1}, o = {a = ${o.a}, c = [${o}]}`: the first unresolved value is in the open
-- field o.a, before which stands 1; the second in none.
use Rattle.std.specs.Prelude.{◌≡◌, refl, ℕ, List, [], ◌∷◌, false}
use Rattle.std.proofs.Math.Option.{none, some}
use Rattle.rules.specs.Bytes.{Text, same}
use Rattle.rules.specs.Tree.{number, Key, Node, simple, array, object, unresolved, no-elements, element, no_fields, field, no_pieces, substituted, Root, fields}
use Rattle.rules.specs.Layers.{end, layer, written, named, deeper}
use Rattle.rules.specs.Unresolved.{field_openness, with_field}
use Rattle.theory_back.specs.Descent.{count_node, down_node}
use Rattle.theory_back.specs.Openness.{openness_at}
use Rattle.theory_back.specs.LookBack.{next_key, onward, look_back, below_lazy}
use Rattle.theory_back.specs.Passes.{looks_back}
use Rattle.theory_back.specs.OwnKey.{own_key}

abbrev o : Text
o = 111 ∷ []

abbrev a : Text
a = 97 ∷ []

abbrev c : Text
c = 99 ∷ []

abbrev key : Text → Key
key t = record { text = t; place = 0 }

abbrev one : Node
one = simple (number (49 ∷ []))

abbrev refers : ℕ → List Text → Node
refers b p = unresolved b (substituted [] (record { place = 0; optional = false; path = p }) no_pieces)

abbrev root : Root
root =
    fields (field (key o) (object (field (key a) one no_fields))
    (field (key o) (object (field (key a) (refers 0 (o ∷ a ∷ [])) (field (key c) (array (element (refers 1 (o ∷ [])) no-elements)) no_fields)))
    no_fields))

counted : count_node (object (field (key o) (refers 0 []) no_fields)) ≡ 1
unfolding count_node
counted = refl

first-openness : openness_at root 0 ≡ some (record { path = o ∷ a ∷ []; before = layer (written one) end })
unfolding down_node count_node field_openness with_field named deeper same
first-openness = refl

second-openness : openness_at root 1 ≡ none
unfolding down_node count_node field_openness with_field named deeper same
second-openness = refl

-- `${o.a}` there looks back over two elements, to 1; `${o}` looks forward, as its path ends before the field
back : look_back below_lazy root (o ∷ a ∷ []) end 0 ≡ some ([], layer (written one) end)
unfolding down_node count_node with_field onward next_key named deeper same
back = refl

elements : looks_back root (o ∷ a ∷ c ∷ []) 0 ≡ some (c ∷ [], 2)
unfolding down_node count_node with_field onward next_key same
elements = refl

ends : looks_back root (o ∷ []) 0 ≡ none
unfolding down_node count_node with_field onward next_key same
ends = refl

own : own_key root 0 ≡ some a
unfolding down_node count_node with_field
own = refl

-- an element has no key of its own
own-none : own_key root 1 ≡ none
unfolding down_node count_node with_field
own-none = refl

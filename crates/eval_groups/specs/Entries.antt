-- The rules, with the members of merged objects in one list, the lowest object's first: one key deeper are the members with that key, last
-- first; the keys by first appearance are the keys of that list.
use Rattle.std.proofs.Math.Path.{◌≡◌, refl, ap}
use Rattle.std.proofs.Common.{sym, ◌∙◌}
use Rattle.std.specs.Prelude.{Bool, cond, ℕ}
use Rattle.std.proofs.Math.Bool.{true, false}
use mathlib.Core.List.{List, [], ◌∷◌, ◌++◌, reverse, reverse_aux, reverse_aux-eq, reverse-append, append_assoc, append-nil}
use Rattle.std.proofs.Math.Option.{Option, none, some}
use Rattle.answers.specs.Theory.Sound.{clash}
use Rattle.rules.specs.Bytes.{Text, same}
use Rattle.rules.specs.Tree.{simple, array, object, unresolved, Fields, no_fields, field}
use Rattle.rules.specs.Values.{Value, scalar, array_of, object_of, Members, no-members, member, Answer}
use Rattle.rules.specs.Layers.{Layer, written, settled, add_key, field_keys, member_keys, layer_keys, keys_in_order}
use Rattle.rules.specs.Settled.{no, Settled, push, push_node, push_layer, push_all, push_if, named_in, member_in, inside_in, deeper_in, deeper_of}
use Rattle.rules.specs.NamedValues.{member_of, DistinctMembers}
use Rattle.theory.specs.Layout.{same-eq}

-- a member: its key, and the layer that it is
abbrev pub Entry : Type 0
Entry = Text × Layer

unfoldable pub field_entries : Fields → List Entry
field_entries no_fields = []
field_entries (field j n fs) = (j.text, written n) ∷ field_entries fs

unfoldable pub member_entries : Members → List Entry
member_entries no-members = []
member_entries (member j v ms) = (j, settled v) ∷ member_entries ms

unfoldable pub layer_entries : Layer → List Entry
unfolding field_entries member_entries
layer_entries (settled (scalar x)) = []
layer_entries (settled (array_of vs)) = []
layer_entries (settled (object_of ms)) = member_entries ms
layer_entries (written (simple x)) = []
layer_entries (written (array es)) = []
layer_entries (written (object fs)) = field_entries fs
layer_entries (written (unresolved b ps)) = []

-- of layers, last first
unfoldable pub entries_of : List Layer → List Entry
unfolding layer_entries
entries_of [] = []
entries_of (o ∷ os) = entries_of os ++ layer_entries o

-- of layers, lowest first
unfoldable pub entries_up : List Layer → List Entry
unfolding layer_entries
entries_up [] = []
entries_up (o ∷ os) = layer_entries o ++ entries_up os

-- the members with a key
unfoldable pub pick : Text → List Entry → List Layer
unfolding same
pick k [] = []
pick k (e ∷ es) = cond (same e.0 k) (e.1 ∷ pick k es) (pick k es)

-- objects, and no key twice in a finished one
abbrev pub Objects : List Layer → Type 0
Objects [] = Unit {0}
Objects (settled (scalar x) ∷ os) = ⊥
Objects (settled (array_of vs) ∷ os) = ⊥
Objects (settled (object_of ms) ∷ os) = DistinctMembers ms × Objects os
Objects (written (simple x) ∷ os) = ⊥
Objects (written (array es) ∷ os) = ⊥
Objects (written (object fs) ∷ os) = Objects os
Objects (written (unresolved b ps) ∷ os) = ⊥

entries-turned : (os rs : List Layer) → entries_up (reverse_aux os rs) ≡ entries_of os ++ entries_up rs
unfolding entries_up entries_of
entries-turned [] rs = refl
entries-turned (o ∷ os) rs = entries-turned os (o ∷ rs) ∙ sym (append_assoc (entries_of os) (layer_entries o) (entries_up rs))

pub entries-reversed : (os : List Layer) → entries_up (reverse os) ≡ entries_of os
unfolding entries_up
entries-reversed os = entries-turned os [] ∙ append-nil (entries_of os)

pub pick-append : (k : Text) (a b : List Entry) → pick k (a ++ b) ≡ pick k a ++ pick k b
unfolding pick
pick-append k [] b = refl
pick-append k (e ∷ a) b = go (same e.0 k) (pick-append k a b)
  where
    go : (t : Bool) → pick k (a ++ b) ≡ pick k a ++ pick k b
        → cond t (e.1 ∷ pick k (a ++ b)) (pick k (a ++ b)) ≡ cond t (e.1 ∷ pick k a) (pick k a) ++ pick k b
    go true h = ap (λ (l : List Layer). e.1 ∷ l) h
    go false h = h

-- ---- one key deeper

module _ (known : ℕ → Option Answer) where
  fields-picked : (k : Text) (fs : Fields) (ls : List Layer)
      → named_in known k fs (push_all known ls) ≡ push_all known (reverse_aux (pick k (field_entries fs)) ls)
  unfolding named_in pick field_entries push_all push_layer
  fields-picked k no_fields ls = refl
  fields-picked k (field j n fs) ls = go (same j.text k) (fields-picked k fs)
    where
      go : (t : Bool) → ((ms : List Layer) → named_in known k fs (push_all known ms) ≡ push_all known (reverse_aux (pick k (field_entries fs)) ms))
          → named_in known k fs (push_if known t n (push_all known ls))
          ≡ push_all known (reverse_aux (cond t (written n ∷ pick k (field_entries fs)) (pick k (field_entries fs))) ls)
      go true h = h (written n ∷ ls)
      go false h = h ls

  none-picked : (k : Text) (ms : Members) → member_of k ms ≡ none → pick k (member_entries ms) ≡ []
  unfolding member_of pick member_entries
  none-picked k no-members e = refl
  none-picked k (member j v ms) e = go (same j k) e (none-picked k ms)
    where
      go : (t : Bool) → ◌≡◌ {A = Option Value} (elim t as (λ _. Option Value) [ true ↦ some v | false ↦ member_of k ms ]) none
          → (member_of k ms ≡ none → pick k (member_entries ms) ≡ [])
          → ◌≡◌ {A = List Layer} (cond t (settled v ∷ pick k (member_entries ms)) (pick k (member_entries ms))) []
      go true f h = clash (cc)
      go false f h = h f

  members-picked : (k : Text) (ms : Members) (ls : List Layer) → DistinctMembers ms
      → member_in known k ms (push_all known ls) ≡ push_all known (reverse_aux (pick k (member_entries ms)) ls)
  unfolding member_in pick member_entries push_all push_layer
  members-picked k no-members ls d = refl
  members-picked k (member j v ms) ls d = go (same j k) refl (members-picked k ms ls d.2)
    where
      go : (t : Bool) → same j k ≡ t → member_in known k ms (push_all known ls) ≡ push_all known (reverse_aux (pick k (member_entries ms)) ls)
          → elim t as (λ _. Settled) [ true ↦ push (settled v) (push_all known ls) | false ↦ member_in known k ms (push_all known ls) ]
          ≡ push_all known (reverse_aux (cond t (settled v ∷ pick k (member_entries ms)) (pick k (member_entries ms))) ls)
      go true e h =
          let gone : member_of k ms ≡ none = rw (same-eq j k e) at d.0 in
          rw (none-picked k ms gone) refl
      go false e h = h

  turned : (k : Text) (a b : List Entry) → reverse_aux (pick k b) (reverse (pick k a)) ≡ reverse (pick k (a ++ b))
  turned k a b = reverse_aux-eq (pick k b) (reverse (pick k a)) ∙ sym (ap reverse (pick-append k a b) ∙ reverse-append (pick k a) (pick k b))

  deeper-turned : (k : Text) (os : List Layer) → Objects os → deeper_in known k os no ≡ push_all known (reverse (pick k (entries_of os)))
  unfolding deeper_in inside_in entries_of layer_entries pick push_all
  deeper-turned k [] o = refl
  deeper-turned k (settled (scalar x) ∷ os) o = absurd o
  deeper-turned k (settled (array_of vs) ∷ os) o = absurd o
  deeper-turned k (settled (object_of ms) ∷ os) o =
      ap (member_in known k ms) (deeper-turned k os o.1) ∙ members-picked k ms (reverse (pick k (entries_of os))) o.0
      ∙ ap (push_all known) (turned k (entries_of os) (member_entries ms))
  deeper-turned k (written (simple x) ∷ os) o = absurd o
  deeper-turned k (written (array es) ∷ os) o = absurd o
  deeper-turned k (written (object fs) ∷ os) o =
      ap (named_in known k fs) (deeper-turned k os o) ∙ fields-picked k fs (reverse (pick k (entries_of os)))
      ∙ ap (push_all known) (turned k (entries_of os) (field_entries fs))
  deeper-turned k (written (unresolved b ps) ∷ os) o = absurd o

  -- objects wait for nothing
  pub objects-stand : (os : List Layer) → Objects os → push_all known os ≡ (os, no)
  unfolding push_all push_layer push_node push
  objects-stand [] o = refl
  objects-stand (settled (scalar x) ∷ os) o = absurd o
  objects-stand (settled (array_of vs) ∷ os) o = absurd o
  objects-stand (settled (object_of ms) ∷ os) o = ap (push (settled (object_of ms))) (objects-stand os o.1)
  objects-stand (written (simple x) ∷ os) o = absurd o
  objects-stand (written (array es) ∷ os) o = absurd o
  objects-stand (written (object fs) ∷ os) o = ap (push (written (object fs))) (objects-stand os o)
  objects-stand (written (unresolved b ps) ∷ os) o = absurd o

  -- One key deeper in objects are the members with that key, last first.
  pub deeper-picked : (k : Text) (os : List Layer) → Objects os → deeper_of known k (push_all known os) ≡ push_all known (reverse (pick k (entries_of os)))
  unfolding deeper_in
  deeper-picked k os o = ap (deeper_of known k) (objects-stand os o) ∙ deeper-turned k os o

-- ---- keys by first appearance

unfoldable pub entry_keys : List Entry → List Text → List Text
unfolding add_key
entry_keys [] ks = ks
entry_keys (e ∷ es) ks = entry_keys es (add_key e.0 ks)

keys-append : (a b : List Entry) (ks : List Text) → entry_keys (a ++ b) ks ≡ entry_keys b (entry_keys a ks)
unfolding entry_keys
keys-append [] b ks = refl
keys-append (e ∷ a) b ks = keys-append a b (add_key e.0 ks)

field-keys : (fs : Fields) (ks : List Text) → field_keys fs ks ≡ entry_keys (field_entries fs) ks
unfolding field_keys entry_keys field_entries
field-keys no_fields ks = refl
field-keys (field j n fs) ks = field-keys fs (add_key j.text ks)

member-keys : (ms : Members) (ks : List Text) → member_keys ms ks ≡ entry_keys (member_entries ms) ks
unfolding member_keys entry_keys member_entries
member-keys no-members ks = refl
member-keys (member j v ms) ks = member-keys ms (add_key j ks)

layer-keys : (o : Layer) (ks : List Text) → layer_keys o ks ≡ entry_keys (layer_entries o) ks
unfolding layer_keys entry_keys layer_entries
layer-keys (settled (scalar x)) ks = refl
layer-keys (settled (array_of vs)) ks = refl
layer-keys (settled (object_of ms)) ks = member-keys ms ks
layer-keys (written (simple x)) ks = refl
layer-keys (written (array es)) ks = refl
layer-keys (written (object fs)) ks = field-keys fs ks
layer-keys (written (unresolved b ps)) ks = refl

pub keys-picked : (os : List Layer) → keys_in_order os ≡ entry_keys (entries_of os) []
unfolding keys_in_order entries_of entry_keys
keys-picked [] = refl
keys-picked (o ∷ os) =
    layer-keys o (keys_in_order os) ∙ ap (entry_keys (layer_entries o)) (keys-picked os) ∙ sym (keys-append (entries_of os) (layer_entries o) [])

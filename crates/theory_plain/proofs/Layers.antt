-- Layers of a path, where each unresolved value has its answer, are lists; and what counts of them is what counts of their list.
use Rattle.std.specs.Prelude.{◌≡◌, ℕ, Bool}
use Rattle.std.proofs.Math.Path.{refl, sym, ap}
use Rattle.std.proofs.Common.{◌∙◌}
use mathlib.Core.List.{List, [], ◌∷◌, ◌++◌, reverse_aux, append_assoc, append-nil}
use Rattle.std.proofs.Math.Bool.{true, false}
use Rattle.std.proofs.Math.Option.{Option, none, some}
use Rattle.answers.specs.Ask.{value, run}
use Rattle.rules.specs.Bytes.{Text, same}
use Rattle.rules.specs.Tree.{simple, array, object, unresolved, Fields, no_fields, field}
use Rattle.rules.specs.Values.{Value, scalar, array_of, object_of, Members, no-members, member, Answer}
use Rattle.rules.specs.Layers.{Work, Layer, written, settled, Layers, end, layer, wait}
use Rattle.rules.specs.Layers.{named, member_named, inside_value, inside_answer, deeper, walk_path}
use Rattle.rules.specs.Layers.{Counted, merged, of_objects, of_other, take_value, take_answer, take_layer, gather}
use Rattle.theory_plain.specs.Layers.{of_answer, members_named, is_object, objects_on_top, counted, of_node, fields_named, below, layers_of_path, listed}

module _ (answers : ℕ → Answer) where
  -- ---- the walk

  pub named-listed : (k : Text) (fs : Fields) (ls : Layers) → listed answers (named k fs ls) ≡ fields_named answers k fs ++ listed answers ls
  unfolding named
  named-listed k no_fields ls = refl
  named-listed k (field j n fs) ls = go (same j.text k) (λ l. named-listed k fs l)
    where
      go : (t : Bool) → ((l : Layers) → listed answers (named k fs l) ≡ fields_named answers k fs ++ listed answers l)
          → listed answers (named k fs (elim t as (λ _. Layers) [ true ↦ layer (written n) ls | false ↦ ls ]))
          ≡ (fields_named answers k fs ++ elim t as (λ _. List Layer) [ true ↦ of_node answers n | false ↦ [] ]) ++ listed answers ls
      go true ih = ih (layer (written n) ls) ∙ sym (append_assoc (fields_named answers k fs) (of_node answers n) (listed answers ls))
      go false ih = ih ls ∙ ap (λ l. l ++ listed answers ls) (sym (append-nil (fields_named answers k fs)))

  member-listed : (k : Text) (ms : Members) (ls : Layers) → listed answers (member_named k ms ls) ≡ members_named k ms ++ listed answers ls
  unfolding member_named
  member-listed k no-members ls = refl
  member-listed k (member j v ms) ls = go (same j k) (member-listed k ms ls)
    where
      go : (t : Bool) → listed answers (member_named k ms ls) ≡ members_named k ms ++ listed answers ls
          → listed answers (elim t as (λ _. Layers) [ true ↦ layer (settled v) ls | false ↦ member_named k ms ls ])
          ≡ elim t as (λ _. List Layer) [ true ↦ settled v ∷ [] | false ↦ members_named k ms ] ++ listed answers ls
      go true ih = refl
      go false ih = ih

  -- a value that stands above what is below it
  value-listed : (k : Text) (v : Value) (ls : Layers) (rest : List Layer) → listed answers ls ≡ below answers k rest
      → listed answers (inside_value k v ls) ≡ below answers k (settled v ∷ rest)
  unfolding inside_value
  value-listed k (scalar x) ls rest e = refl
  value-listed k (array_of vs) ls rest e = refl
  value-listed k (object_of ms) ls rest e = member-listed k ms ls ∙ ap (λ l. members_named k ms ++ l) e

  -- One key deeper, in lists.
  pub deeper-listed : (k : Text) (ls : Layers) → listed answers (deeper k ls) ≡ below answers k (listed answers ls)
  unfolding deeper inside_answer
  deeper-listed k end = refl
  deeper-listed k (wait b f) = deeper-listed k (f (answers b))
  deeper-listed k (layer (settled v) rest) = value-listed k v (deeper k rest) (listed answers rest) (deeper-listed k rest)
  deeper-listed k (layer (written (simple x)) rest) = refl
  deeper-listed k (layer (written (array es)) rest) = refl
  deeper-listed k (layer (written (object fs)) rest) =
      named-listed k fs (deeper k rest) ∙ ap (λ l. fields_named answers k fs ++ l) (deeper-listed k rest)
  deeper-listed k (layer (written (unresolved b ps)) rest) = go (answers b) (deeper-listed k rest)
    where
      go : (a : Answer) → listed answers (deeper k rest) ≡ below answers k (listed answers rest)
          → listed answers (inside_answer k a (deeper k rest)) ≡ below answers k (of_answer a ++ listed answers rest)
      go none ih = ih
      go (some v) ih = value-listed k v (deeper k rest) (listed answers rest) ih

  -- The layers of a path, in lists.
  pub path-listed : (p : List Text) (ls : Layers) → listed answers (walk_path p ls) ≡ layers_of_path answers p (listed answers ls)
  unfolding walk_path
  path-listed [] ls = refl
  path-listed (k ∷ ks) ls = path-listed ks (deeper k ls) ∙ ap (layers_of_path answers ks) (deeper-listed k ls)

  -- ---- what counts

  -- the objects above, lowest first, and the layers from there on
  abbrev onto : List Layer → List Layer → Counted
  onto [] ls = counted ls
  onto (o ∷ os) ls = merged (reverse_aux (o ∷ os) (objects_on_top ls))

  some-objects : (os : List Layer) (o : Layer) (ls : List Layer) → of_objects (reverse_aux os (o ∷ ls)) ≡ merged (reverse_aux os (o ∷ ls))
  unfolding of_objects
  some-objects [] o ls = refl
  some-objects (p ∷ os) o ls = some-objects os p (o ∷ ls)

  some-others : (l : Layer) (os : List Layer) (o : Layer) (ls : List Layer)
      → of_other l (reverse_aux os (o ∷ ls)) ≡ merged (reverse_aux os (o ∷ ls))
  unfolding of_other
  some-others l [] o ls = refl
  some-others l (p ∷ os) o ls = some-others l os p (o ∷ ls)

  -- a layer that is no object
  other-counts : (l : Layer) (os rest : List Layer) → is_object l ≡ false → of_other l (reverse_aux os []) ≡ onto os (l ∷ rest)
  unfolding of_other
  other-counts l [] rest e = rw (e, counted) refl
  other-counts l (o ∷ os) rest e = some-others l os o [] ∙ rw (e, objects_on_top) refl

  abbrev known : ℕ → Option Answer
  known b = some (answers b)

  value-counts : (v : Value) (os : List Layer) (go : List Layer → Work Counted) (rest : List Layer)
      → ((ps : List Layer) → run known (go ps) ≡ value (onto ps rest)) → run known (take_value v os go) ≡ value (onto os (settled v ∷ rest))
  unfolding take_value
  value-counts (scalar x) os go rest h = ap (λ c. value c) (other-counts (settled (scalar x)) os rest refl)
  value-counts (array_of vs) os go rest h = ap (λ c. value c) (other-counts (settled (array_of vs)) os rest refl)
  value-counts (object_of ms) [] go rest h = h (settled (object_of ms) ∷ [])
  value-counts (object_of ms) (o ∷ os) go rest h = h (settled (object_of ms) ∷ o ∷ os)

  gather-onto : (ls : Layers) (os : List Layer) → run known (gather ls os) ≡ value (onto os (listed answers ls))
  unfolding gather take_layer take_answer of_objects
  gather-onto end [] = refl
  gather-onto end (o ∷ os) = ap (λ c. value c) (some-objects os o [])
  gather-onto (wait b f) os = gather-onto (f (answers b)) os
  gather-onto (layer (settled v) rest) os = value-counts v os (λ ps. gather rest ps) (listed answers rest) (λ ps. gather-onto rest ps)
  gather-onto (layer (written (simple x)) rest) os = ap (λ c. value c) (other-counts (written (simple x)) os (listed answers rest) refl)
  gather-onto (layer (written (array es)) rest) os = ap (λ c. value c) (other-counts (written (array es)) os (listed answers rest) refl)
  gather-onto (layer (written (object fs)) rest) [] = gather-onto rest (written (object fs) ∷ [])
  gather-onto (layer (written (object fs)) rest) (o ∷ os) = gather-onto rest (written (object fs) ∷ o ∷ os)
  gather-onto (layer (written (unresolved b ps)) rest) os = go (answers b) (λ qs. gather-onto rest qs)
    where
      go : (a : Answer) → ((qs : List Layer) → run known (gather rest qs) ≡ value (onto qs (listed answers rest)))
          → run known (take_answer a os (λ qs. gather rest qs)) ≡ value (onto os (of_answer a ++ listed answers rest))
      go none ih = ih os
      go (some v) ih = value-counts v os (λ qs. gather rest qs) (listed answers rest) ih

  -- What counts of layers is what counts of their list.
  pub gather-counted : (ls : Layers) → run known (gather ls []) ≡ value (counted (listed answers ls))
  gather-counted ls = gather-onto ls []

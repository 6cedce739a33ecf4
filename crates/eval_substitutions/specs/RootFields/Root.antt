-- The root's fields with a key, laid in order, show the layers one key below the root.
use Rattle.std.specs.Prelude.{◌≡◌, Bool, true, false, cond, None}
use Rattle.std.proofs.Common.{sym, ◌∙◌, arith}
use Rattle.std.proofs.Math.Path.{ap, subst}
use Prim.Native.Nat.{ℕ, suc, ◌+◌, ◌*◌, ◌-◌, ◌≤◌, ◌<◌}
use mathlib.Core.List.{List, [], ◌∷◌}
use Rattle.std.proofs.Math.Option.{Option}
use Rattle.rules.specs.Bytes.{Text, same}
use Rattle.rules.specs.Tree.{Fields, no_fields, field, Root, fields, elements, root_node}
use Rattle.rules.specs.Values.{Answer}
use Rattle.rules.specs.Layers.{written}
use Rattle.rules.specs.Settled.{no, Settled, push_node, push_if, named_in, inside_in, deeper_in}
use Rattle.rules.specs.Weights.{weight_of, weight_of_fields, weigh}
use Rattle.theory.specs.Room.{node-weighs, length-weighs, node_pushed}
use Rattle.doc_items.specs.Codes.{as_member}
use Rattle.doc_items.specs.Parts.{numbers, letters}
use Rattle.doc_items.specs.Room.{capacity}
use Rattle.eval_keys.specs.Columns.{first_at, next_at}
use Rattle.eval_keys.specs.Numbers.{number_of}
use Rattle.eval_keys.specs.Uses.{number_small}
use Rattle.eval_root_index.specs.Links.{Follows, items_before, every_map, before-all}
use Rattle.eval_root_index.specs.Documents.{places_of, places-rise, places-inside, Keyed}
use Rattle.eval_stack.specs.Model.{entries}
use Rattle.eval_memory.specs.Finished.{Memory}
use Rattle.eval_memory.specs.Tables.{Number, as-member, Tables, match-length}
use Rattle.eval_memory.specs.Views.{FieldsIn}
use Rattle.eval_layers.specs.Model.{Walk, push_layer_c}
use Rattle.eval_layers.specs.Clauses.{walked}
use Rattle.eval_layers.specs.Shows.{WalkShows, lay-node}
use Rattle.eval_layers.specs.declared.Walked.{Walked}
use Rattle.eval_substitutions.specs.RootFields.Contracts.{push_layers_c, OfRootIs}

module _ (M : Memory) (known : ℕ → Option Answer) (tables : Tables M known) where
  abbrev pub items_of : Text → (fs : Fields) (i end : ℕ) → FieldsIn M i end fs → List ℕ
  items_of = places_of (numbers M.table) (letters 0 M.bytes) 0 M.ends (Number M)

  -- fields laid one above the other where their key is a text
  module _ (t : Text) (r end : ℕ) (high : end ≤ M.items) where
    pub fields_laid : (fs : Fields) (i : ℕ) (s : FieldsIn M i end fs) (w : Walk) (u : Settled) → WalkShows M w u
        → weigh known u.0 + weight_of_fields known fs ≤ r → WalkShows M (push_layers_c M.table r (items_of t fs i end s) w) (named_in known t fs u)
    unfolding places_of push_layers_c named_in weight_of
    fields_laid no_fields i s w u m l = m
    fields_laid (field k n fs) i s w u m l =
        go (same k.text t) (λ v z. fields_laid fs (s.0 + numbers M.table (8 * s.0 + 1)) s.6 v z)
      where
        rest : List ℕ
        rest = items_of t fs (s.0 + numbers M.table (8 * s.0 + 1)) end s.6

        go : (b : Bool)
            → ((v : Walk) (z : Settled) → WalkShows M v z → weigh known z.0 + weight_of_fields known fs ≤ r
            → WalkShows M (push_layers_c M.table r rest v) (named_in known t fs z))
            → WalkShows M (push_layers_c M.table r (cond b (s.0 ∷ rest) rest) w) (named_in known t fs (push_if known b n u))
        go true ih =
            ih (push_layer_c M.table r s.0 w) (push_node known n u)
            (lay-node M known tables r s.0 w u m (omega (arith, match-length M w.0 u.0 m.0, length-weighs known u.0, node-weighs known n)) n
            (record { sized = s.2.0; inside = omega (arith, s.2.1); role = as_member; roles = as-member n; node = s.5 }))
            (omega (arith, node_pushed known n u))
        go false ih = ih w u m (omega arith)

  -- all of them: `of_root` of a text's number gives numbers that show the layers one key below the root
  pub of-root-shows : {items : ℕ} (root : Root) → Keyed M.bytes M.table items M.ends (Number M) root → M.items ≡ items + 1
      → (t : Text) {k base : ℕ} {w w' : List ℕ} {r : Walked} → k ≡ number_of M.bytes M.table M.items t
      → OfRootIs M.table k capacity base w w' r → weigh known (written (root_node root) ∷ []) ≤ suc (entries - base)
      → WalkShows M (walked w' base r) (deeper_in known t (written (root_node root) ∷ []) no)
  unfolding deeper_in inside_in weight_of push_layers_c items_before
  of-root-shows {items} (fields fs) K e t {k} {base} {w} {w'} {r} f x l =
      let s = K.shown.1 in
      let js = items_of t fs (0 + 1) (0 + numbers M.table 1) s in
      let g : k ≡ number_of M.bytes M.table (items + 1) t = f ∙ ap (λ (n : ℕ). number_of M.bytes M.table n t) e in
      let h : Follows (next_at M.table) (first_at M.table k) js = rw g (K.linked s t) in
      let all : items_before capacity js ≡ js = before-all capacity js (every_map (λ j u. omega (arith, K.whole, tables.stored.few)) js
      (places-inside (numbers M.table) (letters 0 M.bytes) 0 M.ends (Number M) t fs (0 + 1) (0 + numbers M.table 1) s)) in
      subst (λ (v : Walk). WalkShows M v (named_in known t fs ([], no)))
      (sym (x.is js h (places-rise (numbers M.table) (letters 0 M.bytes) 0 M.ends (Number M) t fs (0 + 1) (0 + numbers M.table 1) s)
      ∙ ap (λ (cs : List ℕ). push_layers_c M.table (entries - base) cs ([], None)) all))
      (fields_laid t (entries - base) (0 + numbers M.table 1) (omega (arith, K.whole)) fs (0 + 1) s ([], None) ([], no) (tt, tt) (omega arith))
  of-root-shows {items} (elements es) K e t {k} {base} {w} {w'} {r} f x l =
      let small : k < capacity = rw f (let n = number_small M.bytes M.table M.items t (omega arith) in omega (arith, tables.stored.few)) in
      subst (λ (v : Walk). WalkShows M v ([], no)) (sym (x.is [] (K.linked k small) tt)) (tt, tt)

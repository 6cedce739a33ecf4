-- Numbers that show layers give numbers that show the layers one key deeper.
use Rattle.std.proofs.Math.Path.{◌≡◌, refl}
use Rattle.std.proofs.Common.{◌∙◌, arith}
use Rattle.std.specs.Prelude.{ℕ, suc, ◌+◌, ◌≤◌, Bool, cond, length, Some, None}
use Rattle.std.proofs.Math.Bool.{true, false}
use mathlib.Core.List.{List, [], ◌∷◌}
use Rattle.std.proofs.Math.Option.{Option, none, some}
use Rattle.answers.specs.Theory.Sound.{clash}
use Rattle.rules.specs.Bytes.{Text, same}
use Rattle.rules.specs.Tree.{simple, array, object, unresolved, Fields, no_fields, field}
use Rattle.rules.specs.Values.{Value, scalar, array_of, object_of, Members, no-members, member, Answer}
use Rattle.rules.specs.Layers.{Layer, written, settled}
use Rattle.rules.specs.Settled.{Ending, Settled, push, push_node, push_if, named_in, member_in, inside_in, deeper_in}
use Rattle.rules.specs.NamedValues.{member_of, DistinctMembers}
use Rattle.rules.specs.Weights.{weight_of, weight_of_fields, weight_of_members, weight_of_value, weight_of_layer, weigh}
use Rattle.theory.specs.Layout.{same-eq}
use Rattle.theory.specs.Room.{node-weighs, value-weighs, length-weighs, node_pushed, deeper-weighs}
use Rattle.eval_nodes.specs.Model.{View, view_at, members_of}
use Rattle.eval_memory.specs.Keys.{Means}
use Rattle.eval_memory.specs.Finished.{Memory}
use Rattle.eval_memory.specs.Tables.{Tables, KeyOf, Match, match-length, key-test}
use Rattle.eval_memory.specs.Views.{FieldsListed, MembersListed, Viewed, viewed}
use Rattle.eval_layers.specs.Model.{Stuck, Walk, push_layer_c, push_named_c, push_members_c, inside_by, deeper_c}
use Rattle.eval_layers.specs.Shows.{Ended, WalkShows, lay-layer, lay-node}

module _ (M : Memory) (known : ℕ → Option Answer) (tables : Tables M known) where
  abbrev T : List ℕ
  T = M.table

  abbrev R : List ℕ
  R = M.records

  match-weighs : (w : Walk) (s : Settled) → WalkShows M w s → length w.0 ≤ weigh known s.0
  match-weighs w s m = omega (arith, match-length M w.0 s.0 m.0, length-weighs known s.0)

  -- the number k stands for the text t
  module _ (k : ℕ) (t : Text) (means : Means M.key T M.items k t) (r : ℕ) where
    named-is : (c : ℕ) (j : Text) (w : Walk) (b : Bool) → KeyOf M c j → same j t ≡ b → push_named_c T R k r c w ≡ cond b (push_layer_c T r c w) w
    unfolding push_named_c
    named-is c j w b e f = rw (push_named_c, key-test M c k j t e means ∙ f) refl

    pub pick-fields : (cs : List ℕ) (fs : Fields) (w : Walk) (s : Settled) → FieldsListed M cs fs → WalkShows M w s
        → weigh known s.0 + weight_of_fields known fs ≤ r → WalkShows M (push_members_c T R k r cs w) (named_in known t fs s)
    unfolding push_members_c named_in weight_of
    pick-fields [] no_fields w s x m l = m
    pick-fields [] (field j n fs) w s x m l = absurd x
    pick-fields (c ∷ cs) no_fields w s x m l = absurd x
    pick-fields (c ∷ cs) (field j n fs) w s x m l =
        go (same j.text t) refl (λ v u. pick-fields cs fs v u x.2)
      where
        go : (b : Bool) → same j.text t ≡ b
            → ((v : Walk) (u : Settled) → WalkShows M v u → weigh known u.0 + weight_of_fields known fs ≤ r
            → WalkShows M (push_members_c T R k r cs v) (named_in known t fs u))
            → WalkShows M (push_members_c T R k r cs (push_named_c T R k r c w)) (named_in known t fs (push_if known b n s))
        go true e ih =
            rw (named-is c j.text w true x.1 e)
            (ih (push_layer_c T r c w) (push_node known n s)
            (lay-node M known tables r c w s m (omega (arith, match-weighs w s m, node-weighs known n)) n x.0)
            (omega (arith, node_pushed known n s)))
        go false e ih = rw (named-is c j.text w false x.1 e) (ih w s m (omega arith))

    -- no member has the key
    pick-none : (cs : List ℕ) (ms : Members) (w : Walk) → MembersListed M cs ms → member_of t ms ≡ none → push_members_c T R k r cs w ≡ w
    unfolding push_members_c member_of
    pick-none [] no-members w x e = refl
    pick-none [] (member j v ms) w x e = absurd x
    pick-none (c ∷ cs) no-members w x e = absurd x
    pick-none (c ∷ cs) (member j v ms) w x e = go (same j t) refl e (λ f. pick-none cs ms w x.2 f)
      where
        go : (b : Bool) → same j t ≡ b
            → ◌≡◌ {A = Option Value} (elim b [ true ↦ some v | false ↦ member_of t ms ]) none
            → (member_of t ms ≡ none → push_members_c T R k r cs w ≡ w) → push_members_c T R k r cs (push_named_c T R k r c w) ≡ w
        go true f g ih = clash (cc)
        go false f g ih = rw (named-is c j w false x.1 f) (ih g)

    pub pick-members : (cs : List ℕ) (ms : Members) (w : Walk) (s : Settled) → MembersListed M cs ms → DistinctMembers ms → WalkShows M w s
        → weigh known s.0 + weight_of_members ms ≤ r → WalkShows M (push_members_c T R k r cs w) (member_in known t ms s)
    unfolding push_members_c member_in weight_of_value
    pick-members [] no-members w s x d m l = m
    pick-members [] (member j v ms) w s x d m l = absurd x
    pick-members (c ∷ cs) no-members w s x d m l = absurd x
    pick-members (c ∷ cs) (member j v ms) w s x d m l =
        go (same j t) refl (pick-members cs ms w s x.2 d.2 m (omega arith))
      where
        go : (b : Bool) → same j t ≡ b → WalkShows M (push_members_c T R k r cs w) (member_in known t ms s)
            → WalkShows M (push_members_c T R k r cs (push_named_c T R k r c w))
            (elim b as (λ _. Settled) [ true ↦ push (settled v) s | false ↦ member_in known t ms s ])
        go true e ih =
            let gone : member_of t ms ≡ none = cc (same-eq j t e, d.0) in
            rw (named-is c j w true x.1 e, pick-none cs ms (push_layer_c T r c w) x.2 gone)
            (lay-layer M known tables r c w s m (omega (arith, match-weighs w s m, value-weighs v)) (settled v) x.0)
        go false e ih = rw (named-is c j w false x.1 e) ih

    inside-shows : (l : Layer) (w : Walk) (s : Settled) (v : View) → Viewed M v l → WalkShows M w s
        → weigh known s.0 + weight_of_layer known l ≤ suc r → WalkShows M (inside_by T R k r w v) (inside_in known t l s)
    unfolding inside_in weight_of weight_of_value push_members_c members_of
    inside-shows (settled (scalar x)) w s None y m l = (tt, tt)
    inside-shows (settled (scalar x)) w s (Some v) y m l = absurd y
    inside-shows (settled (array_of vs)) w s None y m l = (tt, tt)
    inside-shows (settled (array_of vs)) w s (Some v) y m l = absurd y
    inside-shows (settled (object_of ms)) w s None y m l = absurd y
    inside-shows (settled (object_of ms)) w s (Some v) y m l = pick-members (members_of T R v.first v.end) ms w s y.0 y.1 m (omega arith)
    inside-shows (written (simple x)) w s None y m l = (tt, tt)
    inside-shows (written (simple x)) w s (Some v) y m l = absurd y
    inside-shows (written (array es)) w s None y m l = (tt, tt)
    inside-shows (written (array es)) w s (Some v) y m l = absurd y
    inside-shows (written (object fs)) w s None y m l = absurd y
    inside-shows (written (object fs)) w s (Some v) y m l = pick-fields (members_of T R v.first v.end) fs w s y m (omega arith)
    inside-shows (written (unresolved b ps)) w s None y m l = absurd y
    inside-shows (written (unresolved b ps)) w s (Some v) y m l = absurd y

    -- numbers that show layers give numbers that show the layers one key deeper
    pub deeper-shows : (cs : List ℕ) (ls : List Layer) (st : Stuck) (st' : Ending) → Match M cs ls → Ended st st'
        → weigh known ls ≤ r + length ls → WalkShows M (deeper_c T R k r cs st) (deeper_in known t ls st')
    unfolding deeper_c deeper_in
    deeper-shows [] [] st st' m e l = (tt, e)
    deeper-shows [] (y ∷ ls) st st' m e l = absurd m
    deeper-shows (c ∷ cs) [] st st' m e l = absurd m
    deeper-shows (c ∷ cs) (y ∷ ls) st st' m e l =
        inside-shows y (deeper_c T R k r cs st) (deeper_in known t ls st') (view_at T R c) (viewed M tables.stored c y m.0)
        (deeper-shows cs ls st st' m.1 e (omega (arith, length-weighs known (y ∷ [])))) (omega (arith, deeper-weighs known t ls st'))

-- What a caller has of `members` and `take`: the keys of merged objects in order, and of each key what its layers come to.
use Rattle.std.specs.Prelude.{◌≡◌, ℕ, suc, ◌+◌, ◌-◌, ◌*◌, ◌≤◌, ◌<◌}
use Rattle.std.proofs.Math.Path.{refl, subst}
use Rattle.std.proofs.Common.{sym, ap}
use mathlib.Core.List.{List, [], ◌∷◌, reverse}
use Rattle.std.proofs.Math.Option.{Option}
use native.Mathlib.Omega.{arith}
use Rattle.std.proofs.Math.ListN.{length, length-reverse}
use Rattle.answers.specs.Ask.{value, refused, missing}
use Rattle.rules.specs.Values.{Answer}
use Rattle.rules.specs.Layers.{Layer, written, settled, Counted, nothing, one, merged}
use Rattle.rules.specs.Settled.{Ending, Settled, Given, push_layer, push_all, deeper_in, deeper_of, gather_in, gather_of}
use Rattle.rules.specs.Weights.{weight_of_layer, weigh, objects_on}
use Rattle.theory.specs.Room.{length-weighs, objects-gathered}
use Rattle.eval_stack.specs.Model.{entries, code_at, link_at, seg}
use Rattle.eval_memory.specs.Finished.{Memory}
use Rattle.eval_memory.specs.Tables.{Tables, Shows, Match}
use Rattle.eval_layers.specs.Shows.{WalkShows, lay-layer, lay-node}
use Rattle.eval_layers.specs.Gather.{TakenShows, nothing-shows, one-shows, needs-shows, merged-shows, Pushed, ObjectsFrom, taken-shows, layers-taken}
use Rattle.eval_layers.specs.declared.Taken.{Taken}
use Rattle.eval_groups.specs.Model.{chain_c}
use Rattle.eval_groups.specs.Clauses.{Below}
use Rattle.eval_groups.specs.Groups.{keys_at}
use Rattle.eval_groups.specs.Entries.{entries_of, pick, Objects, deeper-picked}
use Rattle.eval_groups.specs.Room.{Roomy, objects-weigh, entries-weigh, picked-few, tops-lighter, step_fits}
use Rattle.eval_groups.specs.Shown.{AllShow, group-shows}
use Rattle.eval_groups.specs.Select.Model.{take_c}
use Rattle.eval_groups.specs.Select.Contracts.{TakeIs}
use Rattle.eval_groups.specs.Select.Gather.{layers_c, layers-short, take-gathers}
use Rattle.eval_groups.specs.Select.Levels.{key_number_of, IsKey, numbers-tell, MemberShows, ObjectsAt, objects-size}
use Rattle.eval_groups.specs.Select.Levels.{tops-objects, object-alone, Level, level-top, entry-number, same-below}

module _ (M : Memory) (known : ℕ → Option Answer) (tables : Tables M known) where
  -- ---- members as layers

  abbrev MembersMatch : List ℕ → List Layer → Type 0
  MembersMatch = AllShow (key_number_of M) M.key (IsKey M) (MemberShows M)

  members-length : (cs : List ℕ) (ls : List Layer) → MembersMatch cs ls → length cs ≡ length ls
  members-length [] [] m = refl
  members-length [] (l ∷ ls) m = absurd m
  members-length (c ∷ cs) [] m = absurd m
  members-length (c ∷ cs) (l ∷ ls) m = ap suc (members-length cs ls m.1)

  -- numbers that show members give numbers that show their layers
  layers-show : (r : ℕ) (cs : List ℕ) (ls : List Layer) → MembersMatch cs ls → length cs ≤ r
      → WalkShows M (layers_c M.table M.records r cs) (push_all known ls)
  unfolding layers_c push_all push_layer
  layers-show r [] [] m l = (tt, tt)
  layers-show r [] (y ∷ ls) m l = absurd m
  layers-show r (c ∷ cs) [] m l = absurd m
  layers-show r (c ∷ cs) (written n ∷ ls) m l =
      lay-node M known tables r c (layers_c M.table M.records r cs) (push_all known ls) (layers-show r cs ls m.1 (omega arith))
      (omega (arith, layers-short M.table M.records r cs (omega arith))) n m.0
  layers-show r (c ∷ cs) (settled v ∷ ls) m l =
      lay-layer M known tables r c (layers_c M.table M.records r cs) (push_all known ls) (layers-show r cs ls m.1 (omega arith))
      (omega (arith, layers-short M.table M.records r cs (omega arith))) (settled v) m.0

  -- what they come to
  take-shown : (base r : ℕ) (cs : List ℕ) (ls : List Layer) → MembersMatch cs ls → length cs ≤ r
      → TakenShows M (Pushed M base (take_c M.table M.records base r cs []).1) (take_c M.table M.records base r cs []).0
      (gather_of known (push_all known ls) [])
  unfolding gather_in
  take-shown base r cs ls m l =
      let w = layers_c M.table M.records r cs in
      let x = layers-show r cs ls m l in
      rw (take-gathers M.table M.records base r cs [] l)
      (layers-taken M tables.stored known base r w.0 (push_all known ls).0 w.1 (push_all known ls).1 [] [] x.0 x.1 tt
      (omega (arith, layers-short M.table M.records r cs l)))

  -- ---- what a key's layers come to

  -- objects that stand on the stack, with room for all that is inside them
  abbrev pub Merging : ℕ → List ℕ → ℕ → List Layer → Type 0
  Merging lo w hi os = ObjectsAt M os lo hi w × Roomy known entries hi os

  -- the objects that layers come to are those on top of them
  module _ (ls : List Layer) (st : Ending) (top : ℕ)
      (fits : (os : List Layer) → Objects os → os ≡ objects_on ls → Roomy known entries (top + length os) os) (w : List ℕ) where
    merging : (hi : ℕ) (os : List Layer) → gather_in known ls st [] ≡ value (merged os) → ObjectsFrom M top w hi os → Merging top w hi os
    merging hi os e q =
        let f : os ≡ objects_on ls = objects-gathered known ls st [] os e in
        let cs = reverse (seg w top (hi - top)) in
        let o : Objects os = subst Objects (sym f) (tops-objects M cs ls (subst (Match M cs) f q.2)) in
        let O : ObjectsAt M os top hi w = record { from = q; objects = o } in
        (O, subst (λ (m : ℕ). Roomy known entries m os) (sym (objects-size M O)) (fits os o f))

    pub merges : (r : Taken) (g : Given Counted) → gather_in known ls st [] ≡ g → TakenShows M (ObjectsFrom M top w) r g → TakenShows M (Merging top w) r g
    merges Taken.Nothing (value nothing) e nothing-shows = nothing-shows
    merges (Taken.One c) (value (one l)) e (one-shows s) = one-shows s
    merges (Taken.Needs a) (missing b) e (needs-shows q) = needs-shows q
    merges (Taken.Merged hi) (value (merged os)) e (merged-shows q) = merged-shows (merging hi os e q)
    merges Taken.Nothing (value (one l)) e x = elim x [ ]
    merges Taken.Nothing (value (merged os)) e x = elim x [ ]
    merges Taken.Nothing (refused r) e x = elim x [ ]
    merges Taken.Nothing (missing b) e x = elim x [ ]
    merges (Taken.One c) (value nothing) e x = elim x [ ]
    merges (Taken.One c) (value (merged os)) e x = elim x [ ]
    merges (Taken.One c) (refused r) e x = elim x [ ]
    merges (Taken.One c) (missing b) e x = elim x [ ]
    merges (Taken.Needs a) (value v) e x = elim x [ ]
    merges (Taken.Needs a) (refused r) e x = elim x [ ]
    merges (Taken.Merged hi) (value nothing) e x = elim x [ ]
    merges (Taken.Merged hi) (value (one l)) e x = elim x [ ]
    merges (Taken.Merged hi) (refused r) e x = elim x [ ]
    merges (Taken.Merged hi) (missing b) e x = elim x [ ]

  -- What `gather` gives: room for twice what the layers weigh is enough.
  pub gather-merges : (ls : List Layer) (st : Ending) {hi : ℕ} {w : List ℕ} {r : Taken} → hi + 2 * weigh known ls ≤ entries
      → TakenShows M (ObjectsFrom M hi w) r (gather_in known ls st []) → TakenShows M (Merging hi w) r (gather_in known ls st [])
  gather-merges ls st {hi} {w} {r} room x =
      merges ls st hi (λ os o f. let l : weigh known os ≤ weigh known ls = rw f (tops-lighter known ls) in omega (arith, objects-weigh known os o)) w r
      (gather_in known ls st []) refl x

  -- an object by itself
  pub alone-merges : (l : Layer) (lo : ℕ) (w : List ℕ) → Shows M (code_at w lo) l → Objects (l ∷ []) → lo + 2 * weight_of_layer known l ≤ suc entries
      → Merging lo w (lo + 1) (l ∷ [])
  alone-merges l lo w s o room =
      let n = objects-weigh known (l ∷ []) o in
      (object-alone M l lo w (omega (arith, length-weighs known (l ∷ []))) s o, omega arith)

  -- What `take` gives for a first entry: what the layers of its key come to.
  pub take-shows : {os : List Layer} {base top : ℕ} {w w' : List ℕ} {first : ℕ} {r : Taken} → Level M os base top w → Roomy known entries base os
      → base ≤ first → first < top → first ≤ link_at w first → TakeIs M.table M.records first top w w' r
      → TakenShows M (Merging top w') r (gather_of known (deeper_of known (M.key (keys_at (key_number_of M) w first)) (push_all known os)) [])
  unfolding gather_in deeper_in
  take-shows {os} {base} {top} {w} {w'} {first} {r} L room a b u x =
      let t = M.key (keys_at (key_number_of M) w first) in
      let es = entries_of os in
      let ls = reverse (pick t es) in
      let cs = chain_c w top (link_at w first) in
      let m : MembersMatch cs ls =
      group-shows (key_number_of M) M.key (IsKey M) (MemberShows M) (numbers-tell M tables.stored) L.chained es L.shown first a b u t
      (entry-number M L first a b) refl in
      let fits : length cs ≤ entries - top =
      omega (
        arith,
        members-length cs ls m,
        length-reverse (pick t es),
        picked-few known t es,
        entries-weigh known es,
        level-top M L,
      ) in
      let shown : TakenShows M (ObjectsFrom M top w') r (gather_of known (push_all known ls) []) =
      taken-shows M x.is (take-shown top (entries - top) cs ls m fits) in
      let e : deeper_of known t (push_all known os) ≡ push_all known ls = deeper-picked known t os L.objects in
      let below = deeper_of known t (push_all known os) in
      merges below.0 below.1 top
      (λ os' o f. subst (λ (m : ℕ). Roomy known entries (m + length os') os') (sym (level-top M L))
      (step_fits known entries base os L.objects room t os' o f))
      w' r (gather_of known below []) refl
      (subst (λ (s : Settled). TakenShows M (ObjectsFrom M top w') r (gather_of known s [])) (sym e) shown)

  -- and it leaves the level as it is
  pub take-leaves : {first top : ℕ} {w w' : List ℕ} {r : Taken} → TakeIs M.table M.records first top w w' r → Below top w w'
  take-leaves {first} {top} {w} {w'} x = same-below top w w' x.is.same

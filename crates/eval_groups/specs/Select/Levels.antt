-- Objects on the stack, and their members above them, grouped by key: what they show of the rules' layers. Nothing here hangs on the answers
-- that are known: a level stays right while answers come.
use Rattle.std.specs.Prelude.{◌≡◌, Bool, true, false, cond, leb, eqb, length, Some, None}
use Rattle.std.proofs.Math.Path.{refl, sym, ap}
use Rattle.std.proofs.Common.{subst, ◌∙◌}
use mathlib.Core.List.{List, [], ◌∷◌, map, reverse, reverse-reverse}
use Rattle.std.proofs.Math.Option.{Option}
use Prim.Native.Nat.{ℕ, zero, suc, ◌+◌, ◌-◌, ◌*◌, ◌≤◌, ◌<◌}
use native.Mathlib.Omega.{arith}
use Rattle.std.proofs.lemmas.List.{length-reverse}
use Rattle.rules.specs.Bytes.{Text, same}
use Rattle.rules.specs.Tree.{simple, array, object, unresolved, Fields, no_fields, field}
use Rattle.rules.specs.Values.{scalar, array_of, object_of, Members, no-members, member, Answer}
use Rattle.rules.specs.Layers.{Layer, written, settled, keys_in_order}
use Rattle.rules.specs.Weights.{objects_on}
use Rattle.eval_nodes.specs.Model.{View, view_at, key_at, members_of}
use Rattle.eval_nodes.specs.Members.{key-small}
use Rattle.eval_stack.specs.Model.{stack_at, entries, Work, code_at, link_at, seg, seg-length}
use Rattle.eval_stack.specs.Clauses.{Same}
use Rattle.eval_stack.specs.Pushes.{seg_same}
use Rattle.eval_memory.specs.Keys.{KeyNumber, own-means}
use Rattle.eval_memory.specs.Finished.{Memory, Stored}
use Rattle.eval_memory.specs.Tables.{WrittenAt, RecordOf, Shows, Match, match-length, match-reverse}
use Rattle.eval_memory.specs.Views.{FieldsListed, MembersListed, Viewed, viewed}
use Rattle.eval_layers.specs.Gather.{ObjectsFrom}
use Rattle.eval_groups.specs.Model.{State, view_members, layer_members, object_members}
use Rattle.eval_groups.specs.Clauses.{Below, MembersIs}
use Rattle.eval_groups.specs.Groups.{keys_at, Chained, chained-below}
use Rattle.eval_groups.specs.Adding.{all-grouped}
use Rattle.eval_groups.specs.Firsts.{first_keys, firsts-one, firsts-pass, firsts_same}
use Rattle.eval_groups.specs.Entries.{Entry, field_entries, member_entries, layer_entries, entries_of, entries_up, Objects, entries-reversed}
use Rattle.eval_groups.specs.Room.{Roomy, members-fit}
use Rattle.eval_groups.specs.Shown.{ShownMember, Listed, listed-length, listed-append, listed_at, listed-turned, firsts-show, listed-moves, chained-moves}

-- ---- what stays below a place of the stack

pub same-below : (place : ℕ) (w w' : List ℕ) → Same place w w' → Below place w w'
same-below place w w' s i l h = s i (λ p m e. omega arith)

pub below_then : (place : ℕ) (w w' w'' : List ℕ) → Below place w w' → Below place w' w'' → Below place w w''
below_then place w w' w'' a b i l h = b i l h ∙ a i l h

pub below-lower : {place lower : ℕ} (w w' : List ℕ) → lower ≤ place → Below place w w' → Below lower w w'
below-lower w w' l b i x y = b i x (omega arith)

module _ (M : Memory) where
  -- the key number of a member, and what is a key's number
  abbrev pub key_number_of : ℕ → ℕ
  key_number_of c = key_at M.table M.records c

  abbrev pub IsKey : ℕ → Type 0
  IsKey k = KeyNumber M.table M.items k

  pub numbers-tell : Stored M → (i j : ℕ) → IsKey i → IsKey j → eqb i j ≡ same (M.key i) (M.key j)
  numbers-tell S i j I J = own-means S.numbered S.names j J i I

  -- a number shows a member, which may be an unresolved value
  abbrev pub MemberShows : ℕ → Layer → Type 0
  MemberShows c (written n) = WrittenAt M n c
  MemberShows c (settled v) = RecordOf M v c

  -- with its key
  abbrev pub MemberOf : ℕ → Entry → Type 0
  MemberOf = ShownMember key_number_of M.key IsKey MemberShows

  abbrev pub MembersShow : List ℕ → List Entry → Type 0
  MembersShow = Listed key_number_of M.key IsKey MemberShows

  -- ---- the members of objects

  fields_show : (cs : List ℕ) (fs : Fields) → FieldsListed M cs fs → MembersShow cs (field_entries fs)
  unfolding field_entries
  fields_show [] no_fields l = tt
  fields_show [] (field k n fs) l = absurd l
  fields_show (c ∷ cs) no_fields l = absurd l
  fields_show (c ∷ cs) (field k n fs) (a, o, l) = (record { number = o.number; key-text = o.text; layer = a }, fields_show cs fs l)

  finished-show : (cs : List ℕ) (ms : Members) → MembersListed M cs ms → MembersShow cs (member_entries ms)
  unfolding member_entries
  finished-show [] no-members l = tt
  finished-show [] (member k v ms) l = absurd l
  finished-show (c ∷ cs) no-members l = absurd l
  finished-show (c ∷ cs) (member k v ms) (a, o, l) = (record { number = o.number; key-text = o.text; layer = a }, finished-show cs ms l)

  view-shows : (v : View) (l : Layer) → Viewed M v l → MembersShow (view_members M.table M.records v) (layer_entries l)
  unfolding layer_entries
  view-shows None (settled (scalar x)) y = tt
  view-shows None (settled (array_of vs)) y = tt
  view-shows None (settled (object_of ms)) y = absurd y
  view-shows None (written (simple x)) y = tt
  view-shows None (written (array es)) y = tt
  view-shows None (written (object fs)) y = absurd y
  view-shows None (written (unresolved b ps)) y = absurd y
  view-shows (Some v) (settled (scalar x)) y = absurd y
  view-shows (Some v) (settled (array_of vs)) y = absurd y
  view-shows (Some v) (settled (object_of ms)) y = finished-show (members_of M.table M.records v.first v.end) ms y.0
  view-shows (Some v) (written (simple x)) y = absurd y
  view-shows (Some v) (written (array es)) y = absurd y
  view-shows (Some v) (written (object fs)) y = fields_show (members_of M.table M.records v.first v.end) fs y
  view-shows (Some v) (written (unresolved b ps)) y = absurd y

  -- objects, lowest first
  objects-show : Stored M → (cs : List ℕ) (rs : List Layer) → Match M cs rs → MembersShow (object_members M.table M.records cs) (entries_up rs)
  unfolding object_members layer_members entries_up
  objects-show S [] [] m = tt
  objects-show S [] (r ∷ rs) m = absurd m
  objects-show S (c ∷ cs) [] m = absurd m
  objects-show S (c ∷ cs) (r ∷ rs) m =
      listed-append key_number_of M.key IsKey MemberShows (layer_members M.table M.records c) (object_members M.table M.records cs)
      (layer_entries r) (entries_up rs) (view-shows (view_at M.table M.records c) r (viewed M S c r m.0)) (objects-show S cs rs m.1)

  -- ---- objects that stand from lo to hi, the last written first

  pub record ObjectsAt (os : List Layer) (lo hi : ℕ) (w : List ℕ) : Type 0 where
    pub from : ObjectsFrom M lo w hi os
    pub objects : Objects os

  pub objects-size : {os : List Layer} {lo hi : ℕ} {w : List ℕ} → ObjectsAt os lo hi w → hi ≡ lo + length os
  objects-size {os} {lo} {hi} {w} O =
      let cs = seg w lo (hi - lo) in
      let l : lo ≤ hi = O.from.0 in
      omega (arith, seg-length w lo (hi - lo), length-reverse cs, match-length M (reverse cs) os O.from.2)

  -- the lowest first
  objects-up : {os : List Layer} {lo hi : ℕ} {w : List ℕ} → ObjectsAt os lo hi w → Match M (seg w lo (hi - lo)) (reverse os)
  objects-up {os} {lo} {hi} {w} O =
      let cs = seg w lo (hi - lo) in
      subst (λ (ds : List ℕ). Match M ds (reverse os)) (reverse-reverse cs) (match-reverse M (reverse cs) os O.from.2)

  -- the objects on top of layers are such
  pub tops-objects : (cs : List ℕ) (ls : List Layer) → Match M cs (objects_on ls) → Objects (objects_on ls)
  unfolding objects_on
  tops-objects cs [] m = tt
  tops-objects cs (settled (scalar x) ∷ ls) m = tt
  tops-objects cs (settled (array_of vs) ∷ ls) m = tt
  tops-objects [] (settled (object_of ms) ∷ ls) m = absurd m
  tops-objects (c ∷ cs) (settled (object_of ms) ∷ ls) m = (m.0.2.distinct, tops-objects cs ls m.1)
  tops-objects cs (written (simple x) ∷ ls) m = tt
  tops-objects cs (written (array es) ∷ ls) m = tt
  tops-objects [] (written (object fs) ∷ ls) m = absurd m
  tops-objects (c ∷ cs) (written (object fs) ∷ ls) m = tops-objects cs ls m.1
  tops-objects cs (written (unresolved b ps) ∷ ls) m = tops-objects cs ls m

  -- one object by itself
  pub object-alone : (l : Layer) (lo : ℕ) (w : List ℕ) → lo < entries → Shows M (code_at w lo) l → Objects (l ∷ []) → ObjectsAt (l ∷ []) lo (lo + 1) w
  object-alone l lo w h s o =
      let e : lo + 0 ≡ lo = omega arith in
      let n : lo + 1 - lo ≡ 1 = omega arith in
      let m : Match M (reverse (seg w lo 1)) (l ∷ []) = (subst (λ (p : ℕ). Shows M (code_at w p) l) (sym e) s, tt) in
      record { from = (omega arith, omega arith, subst (λ (k : ℕ). Match M (reverse (seg w lo k)) (l ∷ [])) (sym n) m); objects = o }

  pub objects-stay : {os : List Layer} {lo hi : ℕ} {w : List ℕ} (w' : List ℕ) → Below hi w w' → ObjectsAt os lo hi w → ObjectsAt os lo hi w'
  objects-stay {os} {lo} {hi} {w} w' b O =
      let l : lo ≤ hi = O.from.0 in
      let e : seg w' lo (hi - lo) ≡ seg w lo (hi - lo) =
      seg_same w w' lo (hi - lo) (λ j x h. b (stack_at + 2 * j) (omega arith) (omega arith)) in
      record { from = (l, O.from.1, subst (λ (cs : List ℕ). Match M (reverse cs) os) (sym e) O.from.2); objects = O.objects }

  -- ---- their members, from base to top, grouped by key

  pub record Level (os : List Layer) (base top : ℕ) (w : List ℕ) : Type 0 where
    pub objects : Objects os
    pub members : List ℕ
    pub chained : Chained key_number_of base top members w
    pub shown : MembersShow members (entries_of os)

  -- how far they go
  pub level-top : {os : List Layer} {base top : ℕ} {w : List ℕ} → Level os base top w → top ≡ base + length (entries_of os)
  level-top {os} {base} {top} {w} L =
      L.chained.size
      ∙ ap (λ (n : ℕ). base + n) (listed-length key_number_of M.key IsKey MemberShows L.members (entries_of os) L.shown)

  -- What `members` makes of objects for which there is room.
  pub members-level : Stored M → (known : ℕ → Option Answer) {os : List Layer} {lo hi : ℕ} {w w' : List ℕ} {top : ℕ} → ObjectsAt os lo hi w
      → Roomy known entries hi os → Work w → MembersIs M.table M.records lo hi w w' top → Level os hi top w'
  members-level S known {os} {lo} {hi} {w} {w'} {top} O room work m =
      let cs = seg w lo (hi - lo) in
      let xs = object_members M.table M.records cs in
      let listed : MembersShow xs (entries_of os) =
      rw (← (entries-reversed os)) (objects-show S cs (reverse os) (objects-up O)) in
      let k : length xs ≡ length (entries_of os) = listed-length key_number_of M.key IsKey MemberShows xs (entries_of os) listed in
      let g = all-grouped key_number_of hi (key-small M.table M.records) xs w work (omega (arith, members-fit known entries hi os room)) in
      record {
        objects = O.objects;
        members = xs;
        chained = rw (ap (λ (s : State). s.0) m.is, ap (λ (s : State). s.1) m.is) g.chained;
        shown = listed;
      }

  -- Later writes above the top, and into what stands in front of the stack, leave a level as it is.
  pub level-stays : {os : List Layer} {base top : ℕ} {w : List ℕ} (w' : List ℕ) → Below top w w' → Level os base top w → Level os base top w'
  level-stays {os} {base} {top} {w} w' b L = record {
    objects = L.objects;
    members = L.members;
    chained = chained-below key_number_of w' top (omega arith) b L.chained;
    shown = L.shown;
  }

  -- ---- the keys in turn

  -- the keys of the first entries from p to the top
  abbrev pub keys_from : List ℕ → ℕ → ℕ → List Text
  keys_from w p top = map M.key (first_keys key_number_of w p (top - p))

  -- from the base on they are the rules' keys
  pub level-keys : Stored M → {os : List Layer} {base top : ℕ} {w : List ℕ} → Level os base top w → keys_from w base top ≡ keys_in_order os
  level-keys S {os} {base} {top} {w} L =
      let n : top ≡ base + length L.members = L.chained.size in
      let k : top - base ≡ length L.members = omega arith in
      ap (λ (m : ℕ). map M.key (first_keys key_number_of w base m)) k
      ∙ firsts-show key_number_of M.key IsKey MemberShows (numbers-tell S) L.chained os L.shown

  -- a first entry has the next of them, another entry none
  pub keys-first : (w : List ℕ) (p top : ℕ) → p < top → p ≤ link_at w p
      → keys_from w p top ≡ M.key (keys_at key_number_of w p) ∷ keys_from w (p + 1) top
  keys-first w p top h l =
      let e : top - p ≡ suc (top - (p + 1)) = omega arith in
      ap (λ (n : ℕ). map M.key (first_keys key_number_of w p n)) e ∙ ap (map M.key) (firsts-one key_number_of w p (top - (p + 1)) l)

  pub keys-later : (w : List ℕ) (p top : ℕ) → p < top → link_at w p < p → keys_from w p top ≡ keys_from w (p + 1) top
  keys-later w p top h l =
      let e : top - p ≡ suc (top - (p + 1)) = omega arith in
      ap (λ (n : ℕ). map M.key (first_keys key_number_of w p n)) e ∙ ap (map M.key) (firsts-pass key_number_of w p (top - (p + 1)) l)

  pub keys_none : (w : List ℕ) (p top : ℕ) → top ≤ p → keys_from w p top ≡ []
  unfolding first_keys
  keys_none w p top h = let e : top - p ≡ 0 = omega arith in ap (λ (n : ℕ). map M.key (first_keys key_number_of w p n)) e

  pub keys-stay : (w w' : List ℕ) (p top : ℕ) → Below top w w' → keys_from w' p top ≡ keys_from w p top
  keys-stay w w' p top b =
      ap (map M.key) (firsts_same key_number_of w w' p (top - p) (λ j l h. b (stack_at + 2 * j) (omega arith) (omega arith))
      (λ j l h. b (stack_at + 2 * j + 1) (omega arith) (omega arith)))

  -- every entry shows a member, and has a key's number
  pub entry-shows : {os : List Layer} {base top : ℕ} {w : List ℕ} → Level os base top w → (p : ℕ) → base ≤ p → p < top
      → (e : Entry) × MemberOf (code_at w p) e
  entry-shows {os} {base} {top} {w} L p l h =
      let n : top ≡ base + length L.members = L.chained.size in
      listed_at key_number_of M.key IsKey MemberShows (reverse L.members) (reverse (entries_of os))
      (listed-turned key_number_of M.key IsKey MemberShows L.members [] (entries_of os) [] L.shown tt) w base (length L.members)
      L.chained.entries p l (omega arith)

  pub entry-number : {os : List Layer} {base top : ℕ} {w : List ℕ} → Level os base top w → (p : ℕ) → base ≤ p → p < top
      → IsKey (keys_at key_number_of w p)
  entry-number L p l h = (entry-shows L p l h).1.number

-- ---- In another memory that has the same members with the same key numbers, as after an answer more, a level stays right.

module _ (M M' : Memory) (moves : (c : ℕ) (e : Entry) → MemberOf M c e → (key_number_of M' c ≡ key_number_of M c) × MemberOf M' c e)
    {os : List Layer} {base top : ℕ} {w : List ℕ} (L : Level M os base top w) where
  pub level-moves : Level M' os base top w
  level-moves = record {
    objects = L.objects;
    members = L.members;
    chained = chained-moves (key_number_of M) M.key (IsKey M) (MemberShows M) (key_number_of M') M'.key (IsKey M') (MemberShows M') moves
        (entries_of os) L.shown L.chained;
    shown = listed-moves (key_number_of M) M.key (IsKey M) (MemberShows M) (key_number_of M') M'.key (IsKey M') (MemberShows M') moves
        L.members (entries_of os) L.shown;
  }

  keys-moved : (n p : ℕ) → base ≤ p → p + n ≤ top
      → map M'.key (first_keys (key_number_of M') w p n) ≡ map M.key (first_keys (key_number_of M) w p n)
  unfolding first_keys
  keys-moved zero p l h = refl
  keys-moved (suc n) p l h = go (leb p (link_at w p)) (keys-moved n (p + 1) (omega arith) (omega arith))
    where
      here : M'.key (keys_at (key_number_of M') w p) ≡ M.key (keys_at (key_number_of M) w p)
      here =
          let m = entry-shows M L p l (omega arith) in
          (moves (code_at w p) m.0 m.1).1.key-text ∙ sym m.1.key-text

      go : (t : Bool) → map M'.key (first_keys (key_number_of M') w (p + 1) n) ≡ map M.key (first_keys (key_number_of M) w (p + 1) n)
          → map M'.key (cond t (keys_at (key_number_of M') w p ∷ first_keys (key_number_of M') w (p + 1) n) (first_keys (key_number_of M') w (p + 1) n))
          ≡ map M.key (cond t (keys_at (key_number_of M) w p ∷ first_keys (key_number_of M) w (p + 1) n) (first_keys (key_number_of M) w (p + 1) n))
      go true ih =
          ap (λ (k : Text). k ∷ map M'.key (first_keys (key_number_of M') w (p + 1) n)) here
          ∙ ap (λ (ks : List Text). M.key (keys_at (key_number_of M) w p) ∷ ks) ih
      go false ih = ih

  -- so do the keys that are left
  pub keys-move : (p : ℕ) → base ≤ p → p ≤ top → keys_from M' w p top ≡ keys_from M w p top
  keys-move p l h = keys-moved (top - p) p l (omega arith)

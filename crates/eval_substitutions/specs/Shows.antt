-- The layers that `before` has on the stack, level by level, show the rules' layers before the field.
use Rattle.std.specs.Prelude.{◌≡◌, refl, ℕ, ◌+◌, ◌-◌, ◌≤◌, ◌<◌, Bool, drop, get_or, None}
use Rattle.std.proofs.Common.{sym, ◌∙◌, arith}
use Rattle.std.proofs.Math.Path.{ap, subst}
use Rattle.std.proofs.Math.Bool.{cond}
use mathlib.Core.List.{List, []}
use Rattle.std.proofs.Math.Option.{Option, some}
use Rattle.std.proofs.Math.ListN.{length}
use Rattle.answers.specs.Theory.Sound.{clash}
use Rattle.rules.specs.Bytes.{Text}
use Rattle.rules.specs.Tree.{Node, simple, array, object, unresolved, Fields, no_fields, field, join_fields, Root, fields, elements, root_node}
use Rattle.rules.specs.Values.{Answer}
use Rattle.rules.specs.Settled.{Settled, no, deeper_in, deeper_of}
use Rattle.rules.specs.Weights.{weight_of, weight_of_fields, weigh}
use Rattle.theory.specs.Room.{deeper-weighs}
use Rattle.doc_items.specs.Codes.{number_at, next_at}
use Rattle.doc_items.specs.Parts.{numbers, letters}
use Rattle.theory_back.specs.LookBack.{carried, below_in, look_back_in}
use Rattle.theory_back.proofs.LookBack.{look-carried}
use Rattle.theory_back.specs.Passes.{looks_back}
use Rattle.theory_back.specs.Room.{Stacked, below_on, Within, within-field, earlier-weighs}
use Rattle.eval_nodes.specs.Model.{members_of}
use Rattle.eval_stack.specs.Model.{entries}
use Rattle.eval_memory.specs.Keys.{Means}
use Rattle.eval_memory.specs.Finished.{Memory}
use Rattle.eval_memory.specs.Tables.{Number, Tables, match-length}
use Rattle.eval_memory.specs.Views.{FieldsIn, fields-listed}
use Rattle.eval_keys.specs.Columns as columns
use Rattle.eval_root_index.specs.Links.{Follows, Rises, items_before}
use Rattle.eval_root_index.specs.Documents.{places-rise}
use Rattle.eval_layers.specs.Model.{Walk, deeper_c}
use Rattle.eval_layers.specs.Clauses.{walked}
use Rattle.eval_layers.specs.declared.Walked.{Walked}
use Rattle.eval_substitutions.specs.RootFields.Contracts.{push_layers_c, OfRootIs}
use Rattle.eval_substitutions.specs.RootFields.Root.{items_of, fields_laid}
use Rattle.eval_layers.specs.Shows.{WalkShows}
use Rattle.eval_layers.specs.Deeper.{pick-fields, deeper-shows}
use Rattle.eval_look_back.specs.Passing.{Found}
use Rattle.eval_look_back.specs.Before.{Kept, Before, Entering, before-turn, Begun, before-start}
use Rattle.eval_look_back.specs.Roots.{FirstFields, AroundOf, around-of}
use Rattle.eval_look_back.specs.Clauses.{RootAroundIs}
use Rattle.eval_substitutions.specs.Model.{level_c, Levels, level-root, level-more}
use Rattle.eval_substitutions.specs.Documents.{Standing, PathNumbers, UnresolvedAt, asked-at, path-number, path-means, first-fields}

-- the fields of a node that is an object
abbrev fields_or : Node → Fields
fields_or (simple x) = no_fields
fields_or (array es) = no_fields
fields_or (object fs) = fs
fields_or (unresolved b ps) = no_fields

module _ (M : Memory) (known : ℕ → Option Answer) (tables : Tables M known) where
  abbrev T : List ℕ
  T = M.table

  abbrev R : List ℕ
  R = M.records

  -- one key deeper, and above that the fields of a literal from its first item up to another
  pub level-shows : (k : ℕ) (t : Text) (r literal at : ℕ) (fs : Fields) (x : Walk) (s : Settled) → Means M.key T M.items k t → at ≤ M.items
      → FieldsIn M (literal + 1) at fs → WalkShows M x s → weigh known s.0 + weight_of_fields known fs ≤ r + length s.0
      → WalkShows M (level_c T R k r (literal + 1) at x) (below_in known t fs s)
  unfolding level_c members_of deeper_in
  level-shows k t r literal at fs x s means u stand m room =
      let fewer : weigh known (deeper_of known t s).0 + length s.0 ≤ weigh known s.0 = deeper-weighs known t s.0 s.1 in
      pick-fields M known tables k t means r (members_of T R (literal + 1) at) fs (deeper_c T R k r x.0 x.1) (deeper_of known t s)
      (fields-listed M tables.stored at u (at - (literal + 1)) (literal + 1) fs (omega arith) (omega arith) stand)
      (deeper-shows M known tables k t means r x.0 s.0 x.1 s.1 m.0 m.1 (omega arith)) (omega arith)

  module _ {root : Root} (D : Standing M root) {keys : List ℕ} {count : ℕ} {p : List Text} (P : PathNumbers M keys count p) {item : ℕ} (U : UnresolvedAt M item)
      (base : ℕ) (enough : base + weight_of known (root_node root) ≤ entries) where
    abbrev b : ℕ
    b = number_at (numbers T) item

    abbrev h : ℕ → ℕ
    h = letters 0 M.bytes

    abbrev weight : ℕ
    weight = weight_of known (root_node root)

    kept : Kept (below_on known) (Within known weight)
    kept = record { enters = within-field known weight }

    module _ (rest : List Text) (own : ℕ) (e : looks_back root p b ≡ some (rest, own)) where
      begun : Begun (below_on known) (Within known weight) kept (numbers T) h 0 M.ends M.answered item U.kind root p own (([], no), 0)
      begun =
          let a = asked-at M tables.stored D U in
          before-start (below_on known) (Within known weight) kept (numbers T) h 0 M.ends M.answered item U.kind root p rest own (([], no), 0) e a.shown a.from
          U.low a.inside (omega arith)

      -- the layers of a level, and where they stand
      record LevelShows (literal i lo : ℕ) (x : Walk) : Type 0 where
        layers : Settled
        used : ℕ
        before : Before (below_on known) (Within known weight) kept (numbers T) h 0 M.ends M.answered item U.kind p own begun.within begun.last literal i
            (layers, used)
        shows : WalkShows M x layers
        stands : lo ≡ base + used

      -- a level at which the item has not been reached
      abbrev enters : (literal i : ℕ) (x : Stacked known)
          → (B : Before (below_on known) (Within known weight) kept (numbers T) h 0 M.ends M.answered item U.kind p own begun.within begun.last literal i x)
          → (l : literal < item)
          → Entering (below_on known) (Within known weight) kept (numbers T) h 0 M.ends M.answered item U.kind p own begun.within begun.last literal i x B l
      enters = before-turn (below_on known) (Within known weight) kept (numbers T) h 0 M.ends M.answered item U.kind p own begun.within begun.last

      -- ---- the root's level: its fields that have the path's first element as their key, before the one around the item

      abbrev element : Text
      element = get_or p 0 []

      root-enters : Entering (below_on known) (Within known weight) kept (numbers T) h 0 M.ends M.answered item U.kind p own begun.within begun.last 0 0
          (([], no), 0) begun.before U.low
      root-enters = enters 0 0 (([], no), 0) begun.before U.low

      abbrev root_fields : Fields
      root_fields = root-enters.fields

      first : AroundOf (numbers T) h 0 M.ends M.answered item U.kind element root_fields (0 + 1) (next_at (numbers T) 0) root-enters.stand
      first =
          around-of (numbers T) h 0 M.ends M.answered item U.kind element root_fields (0 + 1) (next_at (numbers T) 0) root-enters.stand U.low
          root-enters.high

      abbrev found : Found (numbers T) h 0 M.ends M.answered (0 + 1) (next_at (numbers T) 0) root_fields first.at
      found = first.spans.found

      -- those fields of the root, by their links
      abbrev js : List ℕ
      js = items_of M known tables element root_fields (0 + 1) (next_at (numbers T) 0) root-enters.stand

      linked : Follows (columns.next_at T) (columns.first_at T (get_or keys 0 0)) js
      linked =
          first_of root (sym (begun.at-root U.low) ∙ root-enters.node)
          (first-fields M tables.stored D element (path-number P 0 root-enters.inside))
        where
          first_of : (r : Root) → root_node r ≡ object root_fields → FirstFields T (get_or keys 0 0) h 0 M.ends M.answered element r
              → Follows (columns.next_at T) (columns.first_at T (get_or keys 0 0)) js
          first_of (fields gs) q l =
              subst (λ (ks : Fields). FirstFields T (get_or keys 0 0) h 0 M.ends M.answered element (fields ks)) (ap fields_or q) l root-enters.stand
          first_of (elements es) q l = clash (cc q)

      rises : Rises 1 js
      rises = places-rise (numbers T) h 0 M.ends (Number M) element root_fields (0 + 1) (next_at (numbers T) 0) root-enters.stand

      root-level : {at : ℕ} {w w' : List ℕ} {r : Walked} → RootAroundIs T (get_or keys 0 0) item at → OfRootIs T (get_or keys 0 0) at base w w' r
          → LevelShows at 1 base (walked w' base r)
      unfolding deeper_in
      root-level {at} {w} {w'} {r} a o =
          let is : at ≡ first.at = a.is js linked rises ∙ first.is ∙ ap (λ (c : Bool). cond c first.at 0) (root-enters.key first.at first.spans) in
          let laid : walked w' base r ≡ push_layers_c T (entries - base) (items_of M known tables element found.earlier (0 + 1) first.at found.before) ([], None) =
          o.is js linked rises ∙ ap (λ (n : ℕ). push_layers_c T (entries - base) (items_before n js) ([], None)) is
          ∙ ap (λ (cs : List ℕ). push_layers_c T (entries - base) cs ([], None)) first.earlier in
          let holds : 0 + weigh known [] + weight_of known (object (join_fields found.earlier (field found.key found.node found.later))) ≤ weight =
          root-enters.holds first.at first.spans in
          subst (λ (n : ℕ). LevelShows n 1 base (walked w' base r)) (sym is) (record {
            layers = below_in known element found.earlier ([], no);
            used = 0;
            before = root-enters.before first.at first.spans;
            shows = subst (λ (v : Walk). WalkShows M v (below_in known element found.earlier ([], no))) (sym laid)
                (fields_laid M known tables element (entries - base) first.at (omega (arith, first.spans.low, U.inside)) found.earlier (0 + 1)
                found.before ([], None) ([], no) (tt, tt)
                (omega (arith, enough, earlier-weighs known found.earlier (field found.key found.node found.later))));
            stands = omega arith;
          })

      levels-show : (literal i lo : ℕ) (x : Walk) → Levels T R keys item base literal i lo x → LevelShows literal i lo x
      levels-show end n to z (level-root a o) = root-level a o
      levels-show end n to z (level-more {literal} {i} {lo} {at} {x} L l around) =
          let so = levels-show literal i lo x L in
          let s = so.layers in
          let t = enters literal i (s, so.used) so.before l in
          let spans = around.is h 0 M.ends M.answered (next_at (numbers T) literal) t.fields t.stand t.high U.kind in
          let f = spans.found in
          let holds : so.used + weigh known s.0 + weight_of known (object (join_fields f.earlier (field f.key f.node f.later))) ≤ weight = t.holds at spans in
          let size = match-length M x.0 s.0 so.shows.0 in
          record {
            layers = below_in known (get_or p i []) f.earlier s;
            used = so.used + length s.0;
            before = t.before at spans;
            shows = level-shows (get_or keys i 0) (get_or p i []) (entries - (lo + length x.0)) literal at f.earlier x s
                (path-means M tables.stored D P i t.inside) (omega (arith, around.upto, U.inside)) f.before so.shows
                (omega (arith, so.stands, earlier-weighs known f.earlier (field f.key f.node f.later)));
            stands = omega (arith, so.stands);
          }

      -- the layers before the field, and the room that they leave
      pub record BeforeShows (lo : ℕ) (x : Walk) : Type 0 where
        pub layers : Settled
        pub is : look_back_in known root p b ≡ some (drop own p, layers)
        pub shows : WalkShows M x layers
        pub room : lo + weigh known layers.0 ≤ base + weight
        pub light : weigh known layers.0 ≤ weight

      pub before-shows : {i lo : ℕ} {x : Walk} → Levels T R keys item base item i lo x → BeforeShows lo x
      before-shows {i} {lo} {x} L =
          let so = levels-show item i lo x L in
          let z = so.before.ended refl in
          let holds : so.used + weigh known so.layers.0 + weight_of known z.node ≤ weight = z.holds in
          record {
            layers = so.layers;
            is =
                sym (look-carried (below_on known) (below_in known) (λ y. y.0) (λ k earlier y. refl) root p (([], no), 0) b)
                ∙ ap (carried (λ y. y.0)) (begun.is ∙ ap (λ y. some (drop own p, y)) (sym z.is));
            shows = so.shows;
            room = omega (arith, so.stands);
            light = omega arith;
          }

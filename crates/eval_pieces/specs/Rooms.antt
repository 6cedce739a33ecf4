-- Room on the stack: what the layers of a path weigh, with what was pushed below them, is no more than what the root weighs.
use Rattle.std.specs.Prelude.{◌≡◌, ℕ, zero, suc, ◌+◌, ◌-◌, ◌≤◌, ◌<◌, List, [], ◌∷◌, length, drop, get_or}
use Rattle.std.proofs.Common.{sym, subst, arith}
use Rattle.std.proofs.Math.Option.{Option, some}
use Rattle.std.proofs.Math.ListN.{get_elem?}
use Rattle.rules.specs.Bytes.{Text}
use Rattle.rules.specs.Tree.{simple, array, object, unresolved, Root, root_node}
use Rattle.rules.specs.Values.{scalar, array_of, object_of, Answer}
use Rattle.rules.specs.Layers.{Layer, written, settled}
use Rattle.rules.specs.Settled.{Settled, no, deeper_in, deeper_of, walk_in}
use Rattle.rules.specs.Weights.{weight_of, weigh, objects_on}
use Rattle.rules.specs.Unresolved.{Unresolved}
use Rattle.rules.specs.Documents.{Document}
use Rattle.theory.specs.Numbering.{Prepared}
use Rattle.theory.specs.Room.{length-weighs, deeper-weighs, walk-weighs}
use Rattle.theory.specs.SettledAnswers.{open_in, layers_in}
use Rattle.doc_items.specs.Codes.{number_at}
use Rattle.doc_items.specs.Parts.{numbers}
use Rattle.theory_back.specs.Passes.{dropped}
use Rattle.theory_back.proofs.Passes.{looks-within}
use Rattle.theory_back.proofs.Uses.{layers-of}
use Rattle.eval_keys.specs.Numbers.{number_of}
use Rattle.eval_stack.specs.Model.{entries}
use Rattle.eval_memory.specs.Keys.{Means, number-means}
use Rattle.eval_memory.specs.Finished.{Memory}
use Rattle.eval_memory.specs.Tables.{Tables, match-length}
use Rattle.eval_layers.specs.Clauses.{walked}
use Rattle.eval_layers.specs.declared.Part.{Part}
use Rattle.eval_substitutions.specs.Keys.Elements.{KeysOf}
use Rattle.eval_substitutions.specs.RootFields.Root.{of-root-shows}
use Rattle.eval_substitutions.specs.Paths.Model.{Layered, parted, onward_c, walk_path_c}
use Rattle.eval_substitutions.specs.Paths.WalkPath.{Roomy, onward-shows}
use Rattle.eval_look_back.specs.Uses.{looks-own}
use Rattle.eval_substitutions.specs.Documents.{Standing, PathNumbers, UnresolvedAt, path-from, path-number, asked-at, path-tells}
use Rattle.eval_substitutions.specs.Clauses.{from_walk, LayersC, looking-back, looking-forward, LayersForIs}
use Rattle.eval_substitutions.specs.Shows.{before-shows}
use Rattle.eval_substitutions.specs.LayersFor.{layers_of, layers-forward, layers-back}

-- the objects on top are lighter by one for each layer that is below them
pub tops-shorter : (known : ℕ → Option Answer) (ls : List Layer) → weigh known (objects_on ls) + length ls ≤ weigh known ls + length (objects_on ls)
unfolding objects_on
tops-shorter known [] = omega arith
tops-shorter known (settled (scalar x) ∷ ls) = omega (arith, length-weighs known (settled (scalar x) ∷ ls))
tops-shorter known (settled (array_of vs) ∷ ls) = omega (arith, length-weighs known (settled (array_of vs) ∷ ls))
tops-shorter known (settled (object_of ms) ∷ ls) = omega (arith, tops-shorter known ls)
tops-shorter known (written (simple x) ∷ ls) = omega (arith, length-weighs known (written (simple x) ∷ ls))
tops-shorter known (written (array es) ∷ ls) = omega (arith, length-weighs known (written (array es) ∷ ls))
tops-shorter known (written (object fs) ∷ ls) = omega (arith, tops-shorter known ls)
tops-shorter known (written (unresolved b ps) ∷ ls) =
    omega (arith, tops-shorter known ls, length-weighs known (written (unresolved b ps) ∷ []))

-- a walk leaves what was free above the layers
walk-room : (M : Memory) (known : ℕ → Option Answer) (tables : Tables M known) (K : List ℕ) (ts : List Text) (i n : ℕ) → n ≡ length ts
    → KeysOf (number_of M.bytes M.table M.items) K i ts → (a : Layered) (s : Settled) → Roomy M known a s → (m : ℕ) → m + weigh known s.0 ≤ a.room
    → m + weigh known (walk_in known ts s).0 ≤ (walk_path_c M.table M.records K n i a).room
unfolding walk_path_c walk_in onward_c deeper_in
walk-room M known tables K [] i zero e k a s x m l = l
walk-room M known tables K [] i (suc n) e k a s x m l = absurd (omega arith)
walk-room M known tables K (t ∷ ts) i zero e k a s x m l = absurd (omega arith)
walk-room M known tables K (t ∷ ts) i (suc n) e k a s x m l =
    let z : i + 1 ≡ suc i = omega arith in
    let num = number_of M.bytes M.table M.items in
    let means : Means M.key M.table M.items (get_or K i 0) t =
    subst (λ (j : ℕ). Means M.key M.table M.items j t) (sym k.0) (number-means tables.stored.numbered tables.stored.names t) in
    walk-room M known tables K ts (suc i) n (omega arith) (subst (λ (j : ℕ). KeysOf num K j ts) z k.1)
    (onward_c M.table M.records (get_or K i 0) a) (deeper_of known t s) (onward-shows M known tables (get_or K i 0) t means a s x) m
    (omega (arith, deeper-weighs known t s.0 s.1, match-length M a.layers s.0 x.layers))

module _ (M : Memory) (known : ℕ → Option Answer) (tables : Tables M known) {root : Root} (D : Standing M root) {keys : List ℕ} {count : ℕ} {p : List Text}
    (P : PathNumbers M keys count p) (filled : 0 < length p) {item : ℕ} (U : UnresolvedAt M item) (base : ℕ)
    (enough : base + weight_of known (root_node root) ≤ entries) where
  abbrev weight : ℕ
  weight = weight_of known (root_node root)

  -- layers that weigh no more than the root, above what was pushed
  pub record Light (a : Layered) (s : Settled) : Type 0 where
    pub room : entries - (base + weight) + weigh known s.0 ≤ a.room
    pub light : weigh known s.0 ≤ weight

  pub layers-light : {a : Layered} → LayersC M.table M.records keys count item base a → Light a (layers_of M tables.stored known D P U)
  layers-light (looking-back {own} {n} {lo} {x} w l L) =
      let S = tables.stored in
      let (rest, e) = looks-own (asked-at M S D U) (path-tells M S D P) w l in
      let b = before-shows M known tables D P U base enough rest own e L in
      let within = looks-within root p (number_at (numbers M.table) item) rest own e in
      let size = dropped p own (omega arith) in
      let start : Roomy M known (from_walk lo x) b.layers = record { layers = b.shows.0; stuck = b.shows.1; room = omega (arith, b.room) } in
      subst (Light (walk_path_c M.table M.records keys (count - own) own (from_walk lo x))) (layers-back M S known D P U own b.layers b.is)
      (record {
        room = walk-room M known tables keys (drop own p) own (count - own) (omega (arith, P.long)) (path-from P own (omega arith)) (from_walk lo x)
            b.layers start (entries - (base + weight)) (omega (arith, b.room));
        light = omega (arith, walk-weighs known (drop own p) b.layers, b.light);
      })
  layers-light (looking-forward {w} {w'} {r} l o) =
      let S = tables.stored in
      let m = of-root-shows M known tables root D.keyed D.all (get_or p 0 []) (path-number P 0 filled) o (omega arith) in
      let below = deeper_in known (get_or p 0 []) (written (root_node root) ∷ []) no in
      let fewer = deeper-weighs known (get_or p 0 []) (written (root_node root) ∷ []) no in
      let size = dropped p 1 filled in
      let start : Roomy M known (from_walk base (walked w' base r)) below = record { layers = m.0; stuck = m.1; room = omega arith } in
      subst (Light (walk_path_c M.table M.records keys (count - 1) 1 (from_walk base (walked w' base r)))) (layers-forward M S known D P U filled l)
      (record {
        room = walk-room M known tables keys (drop 1 p) 1 (count - 1) (omega (arith, P.long)) (path-from P 1 filled)
            (from_walk base (walked w' base r)) below start (entries - (base + weight)) (omega arith);
        light = omega (arith, walk-weighs known (drop 1 p) below);
      })

-- of a document that was read
module _ (M : Memory) (known : ℕ → Option Answer) (tables : Tables M known) (d : Document) (R : Prepared d) (D : Standing M d.root) {keys : List ℕ}
    {count : ℕ} {p : List Text} (P : PathNumbers M keys count p) (filled : 0 < length p) {item : ℕ} (U : UnresolvedAt M item) (u : Unresolved)
    (e : get_elem? d.unresolved (number_at (numbers M.table) item) ≡ some u) (base : ℕ)
    (enough : base + weight_of known (root_node d.root) ≤ entries) where
  pub path-light : {w w' : List ℕ} {r : Part} → LayersForIs M.table M.records keys count item base w w' r
      → Light M known tables D P filled U base enough (parted w' r) (layers_in known d.root (open_in known u.openness) p)
  path-light {w} {w'} {r} x =
      subst (Light M known tables D P filled U base enough (parted w' r)) (sym (layers-of d R (number_at (numbers M.table) item) u e known p))
      (layers-light M known tables D P filled U base enough x.layers)

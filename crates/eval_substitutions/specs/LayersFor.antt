-- The layers of a substitution's path: where the look-back was decided, what was walked shows them.
use Rattle.std.specs.Prelude.{◌≡◌, refl, ℕ, ◌+◌, ◌-◌, ◌≤◌, ◌<◌, List, [], ◌∷◌, length, drop, get_or}
use Rattle.std.proofs.Common.{sym, ap, subst, ◌∙◌, arith}
use Rattle.std.proofs.Math.Option.{Option, none, some}
use Rattle.std.proofs.Math.ListN.{get_elem?}
use Rattle.rules.specs.Bytes.{Text}
use Rattle.rules.specs.Tree.{unresolved, Root, fields, elements, root_node}
use Rattle.rules.specs.Values.{Answer}
use Rattle.rules.specs.Layers.{written}
use Rattle.rules.specs.Settled.{Settled, no, push, push_node, deeper_in, walk_in}
use Rattle.rules.specs.Weights.{weight_of}
use Rattle.rules.specs.Unresolved.{Unresolved}
use Rattle.rules.specs.Documents.{Document}
use Rattle.theory.specs.Numbering.{Prepared}
use Rattle.theory.specs.Room.{deeper-weighs}
use Rattle.theory.specs.SettledAnswers.{open_in, forward_in, layers_in}
use Rattle.doc_items.specs.Codes.{number_at}
use Rattle.doc_items.specs.Parts.{numbers}
use Rattle.theory_back.specs.LookBack.{below_in, look_back_in, settled_by}
use Rattle.theory_back.specs.Passes.{dropped}
use Rattle.theory_back.proofs.Passes.{looks-within, forward-both}
use Rattle.theory_back.proofs.Uses.{layers-of}
use Rattle.eval_stack.specs.Model.{entries}
use Rattle.eval_memory.specs.Finished.{Memory, Stored}
use Rattle.eval_memory.specs.Tables.{WrittenAt, Tables}
use Rattle.eval_layers.specs.Clauses.{walked}
use Rattle.eval_layers.specs.declared.Part.{Part}
use Rattle.eval_substitutions.specs.RootFields.Root.{of-root-shows}
use Rattle.eval_substitutions.specs.Paths.Model.{Layered, parted, walk_path_c}
use Rattle.eval_substitutions.specs.Paths.WalkPath.{Roomy, walk-shows}
use Rattle.eval_look_back.specs.Clauses.{LooksBackIs}
use Rattle.eval_look_back.specs.Uses.{looks-forward, looks-own}
use Rattle.eval_substitutions.specs.Documents.{Standing, PathNumbers, UnresolvedAt, path-from, path-number, asked-at, path-tells, unresolved-at, unresolved-number}
use Rattle.eval_substitutions.specs.Clauses.{from_walk, LayersC, looking-back, looking-forward, LayersForIs}
use Rattle.eval_substitutions.specs.Shows.{before-shows}

-- a path's layers from the root on: those of its first element, then one key deeper for each further one
forward-first : (known : ℕ → Option Answer) (root : Root) (p : List Text) → 0 < length p
    → forward_in known root p ≡ walk_in known (drop 1 p) (deeper_in known (get_or p 0 []) (written (root_node root) ∷ []) no)
unfolding forward_in walk_in push_node push deeper_in
forward-first known root [] l = absurd (omega arith)
forward-first known (fields fs) (t ∷ ts) l = refl
forward-first known (elements es) (t ∷ ts) l = refl

module _ (M : Memory) (S : Stored M) (known : ℕ → Option Answer) {root : Root} (D : Standing M root) {keys : List ℕ} {count : ℕ} {p : List Text}
    (P : PathNumbers M keys count p) {item : ℕ} (U : UnresolvedAt M item) where
  -- the layers that the rules give the path at the item's unresolved value
  abbrev pub layers_of : Settled
  layers_of = settled_by known root p (look_back_in known root p (number_at (numbers M.table) item))

  module _ (some-element : 0 < length p) where
    first_of : look_back_in known root p (number_at (numbers M.table) item) ≡ none
        → walk_in known (drop 1 p) (deeper_in known (get_or p 0 []) (written (root_node root) ∷ []) no) ≡ layers_of
    first_of e = sym (ap (settled_by known root p) e ∙ forward-first known root p some-element)

    -- the path is found to look forward
    pub layers-forward : LooksBackIs M.table keys count item 0
        → walk_in known (drop 1 p) (deeper_in known (get_or p 0 []) (written (root_node root) ∷ []) no) ≡ layers_of
    layers-forward w =
        first_of (forward-both (below_in known) root p ([], no) (number_at (numbers M.table) item) (looks-forward (asked-at M S D U) (path-tells M S D P) w))

  -- it looks back over so many elements
  pub layers-back : (own : ℕ) (m : Settled) → look_back_in known root p (number_at (numbers M.table) item) ≡ some (drop own p, m)
      → walk_in known (drop own p) m ≡ layers_of
  layers-back own m e = sym (ap (settled_by known root p) e)

-- what the code has on the stack shows them, and has room for what they weigh
module _ (M : Memory) (known : ℕ → Option Answer) (tables : Tables M known) {root : Root} (D : Standing M root) {keys : List ℕ} {count : ℕ} {p : List Text}
    (P : PathNumbers M keys count p) (filled : 0 < length p) {item : ℕ} (U : UnresolvedAt M item) (base : ℕ)
    (enough : base + weight_of known (root_node root) ≤ entries) where
  abbrev S : Stored M
  S = tables.stored

  pub layers-show : {a : Layered} → LayersC M.table M.records keys count item base a → Roomy M known a (layers_of M S known D P U)
  layers-show (looking-back {own} {n} {lo} {x} w l L) =
      let (rest, e) = looks-own (asked-at M S D U) (path-tells M S D P) w l in
      let b = before-shows M known tables D P U base enough rest own e L in
      let within = looks-within root p (number_at (numbers M.table) item) rest own e in
      let size = dropped p own (omega arith) in
      let start : Roomy M known (from_walk lo x) b.layers = record { layers = b.shows.0; stuck = b.shows.1; room = omega (arith, b.room) } in
      subst (Roomy M known (walk_path_c M.table M.records keys (count - own) own (from_walk lo x))) (layers-back M S known D P U own b.layers b.is)
      (walk-shows M known tables keys (drop own p) own (count - own) (omega (arith, P.long)) (path-from P own (omega arith)) (from_walk lo x)
      b.layers start)
  layers-show (looking-forward {w} {w'} {r} l o) =
      let m = of-root-shows M known tables root D.keyed D.all (get_or p 0 []) (path-number P 0 filled) o (omega arith) in
      let below = deeper_in known (get_or p 0 []) (written (root_node root) ∷ []) no in
      let fewer = deeper-weighs known (get_or p 0 []) (written (root_node root) ∷ []) no in
      let size = dropped p 1 filled in
      let start : Roomy M known (from_walk base (walked w' base r)) below = record { layers = m.0; stuck = m.1; room = omega arith } in
      subst (Roomy M known (walk_path_c M.table M.records keys (count - 1) 1 (from_walk base (walked w' base r)))) (layers-forward M S known D P U filled l)
      (walk-shows M known tables keys (drop 1 p) 1 (count - 1) (omega (arith, P.long)) (path-from P 1 filled)
      (from_walk base (walked w' base r)) below start)

-- of a document that was read: the layers that the rules of its unresolved value give the path
module _ (M : Memory) (known : ℕ → Option Answer) (tables : Tables M known) (d : Document) (R : Prepared d) (D : Standing M d.root) {keys : List ℕ}
    {count : ℕ} {p : List Text} (P : PathNumbers M keys count p) (filled : 0 < length p) {b item : ℕ} (u : Unresolved) (e : get_elem? d.unresolved b ≡ some u)
    (a : WrittenAt M (unresolved b u.pieces) item) (base : ℕ) (enough : base + weight_of known (root_node d.root) ≤ entries) where
  pub layers-for-shows : {w w' : List ℕ} {r : Part} → LayersForIs M.table M.records keys count item base w w' r
      → Roomy M known (parted w' r) (layers_in known d.root (open_in known u.openness) p)
  layers-for-shows {w} {w'} {r} x =
      let number = unresolved-number M tables.stored D a in
      subst (Roomy M known (parted w' r))
      (sym (layers-of d R (number_at (numbers M.table) item) u (subst (λ (n : ℕ). get_elem? d.unresolved n ≡ some u) (sym number) e) known p))
      (layers-show M known tables D P filled (unresolved-at M tables.stored D a) base enough x.layers)

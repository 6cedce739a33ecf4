-- A substitution: what its layers come to on the stack is what the rules give for it.
use Rattle.std.specs.Prelude.{◌≡◌, ℕ, ◌+◌, ◌-◌, ◌≤◌, length}
use Rattle.std.proofs.Math.Path.{refl, ap}
use Rattle.std.proofs.Common.{sym, ◌∙◌, subst, arith}
use mathlib.Core.List.{List, []}
use Rattle.std.proofs.Math.Option.{Option, none, some}
use Rattle.answers.specs.Ask.{value, missing, refused, then}
use Rattle.rules.specs.Environment.{Environment}
use Rattle.rules.specs.Tree.{Substitution, simple, array, object, unresolved, Root, root_node}
use Rattle.rules.specs.Values.{Value, Values, Answer, array_of}
use Rattle.rules.specs.Layers.{Layer, written, settled, Counted, nothing, one, merged}
use Rattle.rules.specs.Settled.{Settled, Given, gather_in, node_in, elements_in, layer_in, merged_in, counted_in, value_in}
use Rattle.rules.specs.Weights.{weight_of, weight_of_elements, weigh}
use Rattle.rules.specs.Unresolved.{Unresolved}
use Rattle.rules.specs.Documents.{Setting}
use Rattle.theory.specs.Depths.{height_in, shallow-within}
use Rattle.theory.specs.Room.{length-weighs, elements-weigh}
use Rattle.theory.specs.SettledAnswers.{HomeIn, open_in, layers_in, or_environment_in, substitution_in}
use Rattle.theory_back.proofs.Uses.{layers-of}
use Rattle.doc_items.specs.Codes.{number_at}
use Rattle.doc_items.specs.Parts.{numbers}
use Rattle.eval_stack.specs.Model.{entries, seg, seg-length}
use Rattle.eval_memory.specs.Finished.{Memory}
use Rattle.eval_memory.specs.Tables.{Number, Shows, match-length}
use Rattle.eval_layers.specs.Clauses.{GatherIs}
use Rattle.eval_layers.specs.Gather.{TakenShows, nothing-shows, one-shows, needs-shows, merged-shows, gather-shows}
use Rattle.eval_layers.specs.declared.Part.{Part}
use Rattle.eval_layers.specs.declared.Taken.{Taken}
use Rattle.eval_groups.specs.Room as groups
use Rattle.eval_groups.specs.Select.Uses.{Merging, merges}
use Rattle.eval_substitutions.specs.Keys.Elements.{item-read}
use Rattle.eval_substitutions.specs.Paths.Model.{parted}
use Rattle.eval_substitutions.specs.Paths.WalkPath.{Roomy}
use Rattle.eval_substitutions.specs.Clauses.{PathLayersIs}
use Rattle.eval_substitutions.specs.Documents.{PathNumbers}
use Rattle.eval_substitutions.specs.LayersFor.{layers-show}
use Rattle.eval_value_laws.specs.Counting.{NoObject, one-low, merged-low, merged-high}
use Rattle.eval_value_laws.specs.OneRoom.{one-elements}
use Rattle.eval_value_laws.specs.Clauses.{Ground, LayerFits}
use Rattle.eval_value_laws.specs.Given.{value-by}
use Rattle.eval_pieces.specs.Clauses.{levels, ReferenceGiven, OneOf, MergedOf}
use Rattle.eval_pieces.specs.Rooms.{tops-shorter, Light, path-light}
use Rattle.eval_pieces.specs.Heights.{path-low}

-- ---- by the code's answer

module _ (M : Memory) (Q : ℕ → List Layer → Type 0) where
  abbrev TakenAs : Given Counted → Taken → Type 0
  TakenAs g Taken.Nothing = g ≡ value nothing
  TakenAs g (Taken.One c) = (l : Layer) × (g ≡ value (one l)) × Shows M c l
  TakenAs g (Taken.Needs b) = g ≡ missing b
  TakenAs g (Taken.Merged t) = (os : List Layer) × (g ≡ value (merged os)) × Q t os

  taken_as : {t : Taken} {g : Given Counted} → TakenShows M Q t g → TakenAs g t
  taken_as nothing-shows = refl
  taken_as (one-shows s) = (_, refl, s)
  taken_as (needs-shows e) = ap missing (sym e)
  taken_as (merged-shows q) = (_, refl, q)

-- ---- what is defined asks no environment

module _ (known : ℕ → Option Answer) (ev : Settled → Given Answer) (env : Environment) (y : Substitution) where
  layer-defined : (l : Layer) → NoObject l → then (layer_in known ev l) (λ a. or_environment_in env y a) ≡ layer_in known ev l
  unfolding layer_in node_in or_environment_in
  layer-defined (settled v) n = refl
  layer-defined (written (simple x)) n = refl
  layer-defined (written (array es)) n = go (elements_in known ev es)
    where
      go : (g : Given Values) → then (then g (λ vs. value (some (array_of vs)))) (λ a. or_environment_in env y a) ≡ then g (λ vs. value (some (array_of vs)))
      go (value vs) = refl
      go (refused x) = refl
      go (missing b) = refl
  layer-defined (written (object fs)) n = absurd n
  layer-defined (written (unresolved b ps)) n = absurd n

  merged-defined : (g : Given Value) → then (then g (λ v. value (some v))) (λ a. or_environment_in env y a) ≡ then g (λ v. value (some v))
  unfolding or_environment_in
  merged-defined (value v) = refl
  merged-defined (refused x) = refl
  merged-defined (missing b) = refl

-- ---- a substitution that stands at an item

module _ {x : Setting} {M : Memory} {E : List ℕ} {known : ℕ → Option Answer} {base item i : ℕ} {u : Unresolved} {y : Substitution}
    (G : ReferenceGiven x M E known base item i u y) {w w₁ w₂ : List ℕ} {part : Part} {taken : Taken}
    (h : PathLayersIs M.table M.bytes M.records base item i w w₁ part)
    (k : GatherIs M.table M.records part.lo part.hi part.stuck w₁ w₂ taken) where
  abbrev root : Root
  root = x.document.root

  abbrev weight : ℕ
  weight = weight_of known (root_node root)

  abbrev openness : Option HomeIn
  openness = open_in known u.openness

  abbrev layers : Settled
  layers = layers_in known root openness y.path

  abbrev pub given : Given Answer
  unfolding substitution_in
  given = substitution_in known root levels x.environment openness y

  counted : h.route.count ≡ length y.path
  counted = let c = G.reference.count in h.routed.count (omega (arith, G.path.1)) ∙ c

  path : PathNumbers M h.keys h.route.count y.path
  path = record {
    long = counted;
    keys = item-read M.bytes M.ends G.tables.stored.document G.tables.stored.numbered h.route h.found (Number M) i y h.routed G.path.1
        G.reference;
  }

  enough : base + weight ≤ entries
  enough = omega (arith, G.fits)

  roomy : Roomy M known (parted w₁ part) layers
  roomy =
      subst (Roomy M known (parted w₁ part)) (sym (layers-of x.document G.read (number_at (numbers M.table) item) u G.listed known y.path))
      (layers-show M known G.tables G.standing path G.path.0 G.value base enough h.layers.layers)

  light : Light M known G.tables G.standing path G.path.0 G.value base enough (parted w₁ part) layers
  light = path-light M known G.tables x.document G.read G.standing path G.path.0 G.value u G.listed base enough h.layers

  -- where they stand
  size : part.hi ≡ part.lo + length layers.0
  size =
      let m = match-length M (seg w₁ part.lo (part.hi - part.lo)) layers.0 roomy.layers in
      let n = seg-length w₁ part.lo (part.hi - part.lo) in
      omega (arith, h.layers.part.low)

  below : part.lo + weigh known layers.0 ≤ base + weight
  below = omega (arith, light.room, enough, h.layers.part.low, h.layers.part.high)

  low : height_in layers.0 ≤ 64
  low = omega (arith, path-low x G.read known G.within (number_at (numbers M.table) item) u G.listed y.path, G.nested)

  shows : TakenAs M (Merging M known G.tables part.hi w₂) (gather_in known layers.0 layers.1 []) taken
  shows =
      taken_as M (Merging M known G.tables part.hi w₂) shown
    where
      shown : TakenShows M (Merging M known G.tables part.hi w₂) taken (gather_in known layers.0 layers.1 [])
      shown =
          let len = groups.objects-weigh known in
          merges M known G.tables layers.0 layers.1 part.hi
          (λ os o f.
          let t : weigh known os + length layers.0 ≤ weigh known layers.0 + length os = rw f (tops-shorter known layers.0) in
          let v : weigh known os ≤ weigh known layers.0 = rw f (groups.tops-lighter known layers.0) in
          omega (arith, len os o, size, below, light.light, G.fits))
          w₂ taken (gather_in known layers.0 layers.1 []) refl
          (gather-shows M G.tables.stored known layers.1 layers.0 k roomy.layers roomy.stuck (omega (
            arith,
            size,
            below,
            light.light,
            G.fits,
            length-weighs known layers.0,
          )))

  -- the rules, by what the layers come to
  by : {g : Given Counted} → gather_in known layers.0 layers.1 [] ≡ g
      → given ≡ then (then g (λ c. counted_in known (value_in known 64) c)) (λ a. or_environment_in x.environment y a)
  unfolding substitution_in gather_in
  by {g} e =
      ap (λ v. then v (λ a. or_environment_in x.environment y a))
      (value-by M known 65 layers (omega arith) ∙ ap (λ q. then q (λ c. counted_in known (value_in known 64) c)) e)

  basis : Ground M known
  basis = record { tables = G.tables; shallow = shallow-within known G.within }

  pub reference-nothing : taken ≡ Taken.Nothing → given ≡ or_environment_in x.environment y none
  unfolding counted_in
  reference-nothing e = by (rw e at shows)

  pub reference-needs : {b : ℕ} → taken ≡ Taken.Needs b → given ≡ missing b
  reference-needs e = by (rw e at shows)

  one-shown : {c : ℕ} → taken ≡ Taken.One c → (l : Layer) × (gather_in known layers.0 layers.1 [] ≡ value (one l)) × Shows M c l
  one-shown e = rw e at shows

  merged-shown : {t : ℕ} → taken ≡ Taken.Merged t
      → (os : List Layer) × (gather_in known layers.0 layers.1 [] ≡ value (merged os)) × Merging M known G.tables part.hi w₂ t os
  merged-shown e = rw e at shows

  pub reference-one : {c : ℕ} → taken ≡ Taken.One c → OneOf M known part.hi c given
  unfolding counted_in gather_in
  reference-one {c} e =
      let (l, z, s) = one-shown e in
      let q = one-low known 64 layers.0 layers.1 [] l low z in
      record {
        depth = 64;
        layer = l;
        is = by z ∙ layer-defined known (value_in known 64) x.environment y l q.2;
        plain = q.2;
        given = record { basis = basis; shown = s; fits = fits l z; low = omega (arith, q.0); deep = q.1 };
      }
    where
      fits : (l : Layer) → gather_in known layers.0 layers.1 [] ≡ value (one l) → LayerFits M known part.hi l
      fits (written (simple x)) z = tt
      fits (written (array es)) z =
          let t = elements-weigh known layers.0 in
          let f = one-elements known layers.0 layers.1 es z in
          let v = ap (weight_of_elements known) f in
          omega (arith, size, below, light.light, G.fits)
      fits (written (object fs)) z = absurd (one-low known 64 layers.0 layers.1 [] (written (object fs)) low z).2
      fits (written (unresolved b ps)) z = tt
      fits (settled v) z = tt

  pub reference-merged : {t : ℕ} → taken ≡ Taken.Merged t → MergedOf M known w₂ part.hi t given
  unfolding counted_in gather_in merged_in
  reference-merged {t} e =
      let (os, z, m) = merged-shown e in
      record {
        depth = 64;
        objects = os;
        is = by z ∙ merged-defined known (value_in known 64) x.environment y (merged_in known (value_in known 64) os);
        given = record {
          basis = basis;
          shown = m.0;
          fits = m.1;
          some = merged-high known layers.0 layers.1 os z m.0.objects;
          low = omega (arith, low, merged-low known layers.0 layers.1 os z);
          deep = omega (arith, low, merged-low known layers.0 layers.1 os z);
        };
      }

-- From what is asked of layers to what is asked of those inside them.
use Rattle.std.specs.Prelude.{◌≡◌, get_or}
use Rattle.std.proofs.Math.Path.{refl}
use Prim.Native.Nat.{ℕ, zero, suc, pred, ◌+◌, ◌-◌, ◌≤◌}
use mathlib.Core.List.{List, [], ◌∷◌}
use Rattle.std.proofs.Math.Option.{Option, none, some}
use native.Mathlib.Omega.{arith}
use borrow.Author.Tests.{ne_eqb}
use Rattle.answers.specs.Ask.{value, missing, then}
use Rattle.rules.specs.Bytes.{Text}
use Rattle.rules.specs.Tree.{Node, simple, array, object, unresolved, Elements, element, Fields, height_of}
use Rattle.rules.specs.Values.{Answer}
use Rattle.rules.specs.Layers.{Layer, written, settled, one, merged, of_objects}
use Rattle.rules.specs.Settled.{no, Given, Settled, push_all, deeper_in, deeper_of, gather_in, gather_of, answered, merged_in, node_in, layer_in, counted_in, value_in}
use Rattle.rules.specs.Weights.{weight_of}
use Rattle.theory.specs.Depths.{height_in, deeper-low}
use Rattle.doc_items.specs.Room.{capacity, answers_at}
use Rattle.eval_nodes.specs.Answer.Model as model
use Rattle.eval_nodes.specs.declared.answer.Answered.{Answered}
use Rattle.eval_nodes.specs.Model.{answered_at}
use Rattle.eval_stack.specs.Model.{entries, code_at}
use Rattle.eval_memory.specs.Finished.{Memory}
use Rattle.eval_memory.specs.Tables.{WrittenAt, AnswerAt, Shows, layer-shown, unresolved-shown}
use Rattle.eval_groups.specs.Entries.{objects-stand}
use Rattle.eval_groups.specs.Room.{objects-weigh}
use Rattle.eval_groups.specs.Select.Levels.{object-alone, level-top}
use Rattle.eval_groups.specs.Select.Uses.{Merging}
use Rattle.eval_value_laws.specs.Counting.{LayerDeep, NoObject, one-low, merged-low, merged-high}
use Rattle.eval_value_laws.specs.OneRoom.{one-fits}
use Rattle.eval_value_laws.specs.Elements.{ElementsShown}
use Rattle.eval_value_laws.specs.Clauses.{merged_by, Ground, LayerFits, LayerGiven, ElementGiven, ElementsGiven, ObjectsGiven, MembersGiven}

module _ (M : Memory) (known : ℕ → Option Answer) where
  -- ---- elements

  module _ (top levels d i end : ℕ) (n : Node) (ns : Elements) (g : ElementsGiven M known top levels d i end (element n ns)) where
    pub element-first : {c : ℕ} → WrittenAt M n c → ElementGiven M known top levels d c n
    unfolding weight_of height_of
    element-first s =
        record {
          basis = g.basis;
          shown = s;
          fits = omega (arith, g.fits);
          low = omega (arith, g.low);
          deep = omega (arith, g.deep);
        }

    pub elements-rest : {q : ℕ} → ElementsShown M q end ns → ElementsGiven M known top levels d q end ns
    unfolding weight_of height_of
    elements-rest s =
        record {
          basis = g.basis;
          shown = s;
          fits = omega (arith, g.fits);
          low = omega (arith, g.low);
          deep = omega (arith, g.deep);
        }

  -- an element as what its number shows
  module _ (ev : Settled → Given Answer) where
    abbrev pub ElementAs : ℕ → ℕ → ℕ → Given Answer → Answered → Type 0
    ElementAs top levels d x (Answered.Missing b) = x ≡ missing b
    ElementAs top levels d x Answered.Undefined = x ≡ value none
    ElementAs top levels d x (Answered.Layer c) = (l : Layer) × (x ≡ layer_in known ev l) × LayerGiven M known top levels d c l

    module _ (top levels d : ℕ) where
      plain : {c : ℕ} (n : Node) → ElementGiven M known top levels d c n → Shows M c (written n) → LayerFits M known top (written n) → LayerDeep d (written n)
          → ElementAs top levels d (node_in known ev n) (answered_at M.table c)
      unfolding layer_in
      plain {c} n g s f e =
          rw (layer-shown M g.basis.tables.stored c (written n) s)
          (written n, refl, record { basis = g.basis; shown = s; fits = f; low = g.low; deep = e })

      answer-as : (b : ℕ) (o : Option Answer) (a : ℕ) → Ground M known → 32 ≤ levels → AnswerAt M o a
          → ElementAs top levels d (answered known b o) (model.answered b a)
      unfolding layer_in
      answer-as b none a G h x = rw x refl
      answer-as b (some none) a G h x = rw x refl
      answer-as b (some (some v)) a G h x =
          let o = x.0 in
          let z : o + 2 - 2 ≡ o = omega arith in
          let e : model.answered b (o + 2) ≡ Answered.Layer (capacity + o) =
          rw (ne_eqb (o + 2) 0 (λ q. omega arith), ne_eqb (o + 2) 1 (λ q. omega arith), z) refl in
          rw (x.1, e)
          (settled v, refl, record { basis = G; shown = (o, refl, x.2); fits = tt; low = omega (arith, x.2.nesting); deep = tt })

      pub element-as : {c : ℕ} (n : Node) → ElementGiven M known top levels d c n → ElementAs top levels d (node_in known ev n) (answered_at M.table c)
      unfolding node_in height_of weight_of
      element-as (simple x) g = plain (simple x) g g.shown tt tt
      element-as (array es) g = plain (array es) g g.shown (omega (arith, g.fits)) (omega (arith, g.deep))
      element-as (object fs) g = plain (object fs) g g.shown (omega (arith, g.fits)) (omega (arith, g.deep))
      element-as (unresolved b ps) g =
          let T = g.basis.tables in
          rw (unresolved-shown M known T ps g.shown)
          (answer-as b (known b) (get_or M.table (answers_at + b) 0) g.basis (omega (arith, g.low)) (T.answers b g.shown.node.1.1))

  -- ---- an object by itself

  -- its number is on the stack, and nothing else above what was there
  pub object-given : {top levels d c : ℕ} (w : List ℕ) (fs : Fields) → LayerGiven M known top (suc levels) d c (written (object fs)) → code_at w top ≡ c
      → ObjectsGiven M known w top (top + 1) (suc levels) (pred d) (written (object fs) ∷ [])
  unfolding height_of weight_of
  object-given {top} {levels} {d} {c} w fs g e =
      let l = written (object fs) in
      let n = objects-weigh known (l ∷ []) tt in
      record {
        basis = g.basis;
        shown = object-alone M l top w (omega (arith, g.fits)) (rw e g.shown) tt;
        fits = omega (arith, g.fits);
        some = omega arith;
        low = omega (arith, g.low);
        deep = omega (arith, g.deep);
      }

  -- the rules merge it with nothing
  pub object-value : (d : ℕ) (fs : Fields) → 1 ≤ d → node_in known (value_in known d) (object fs) ≡ merged_by known (pred d) (written (object fs) ∷ [])
  unfolding node_in value_in gather_in of_objects counted_in merged_in
  object-value zero fs h = absurd (omega arith)
  object-value (suc d) fs h = refl

  -- ---- what one key comes to

  module _ {w : List ℕ} {base top levels d : ℕ} {os : List Layer} (g : MembersGiven M known w base top levels d os) (k : Text) where
    abbrev below : Settled
    below = deeper_of known k (push_all known os)

    below-low : height_in below.0 ≤ pred (height_in os)
    unfolding deeper_in
    below-low =
        rw (objects-stand known os g.shown.objects) (deeper-low known g.basis.shallow (height_in os) k os no (omega arith))

    pub one-given : {c : ℕ} (w' : List ℕ) (l : Layer) → gather_of known below [] ≡ value (one l) → Shows M c l → LayerGiven M known top levels (pred d) c l
    unfolding gather_in
    one-given {c} w' l e s =
        let h = below-low in
        let p = g.low in
        let q = g.deep in
        let x = one-low known levels below.0 below.1 [] l (omega arith) e in
        let y = one-low known (pred d) below.0 below.1 [] l (omega arith) e in
        record { basis = g.basis; shown = s; fits = fits l e y.2; low = x.0; deep = y.1 }
      where
        fits : (l : Layer) → gather_of known below [] ≡ value (one l) → NoObject l → LayerFits M known top l
        fits (written (simple x)) e n = tt
        fits (written (array es)) e n =
            rw (level-top M g.shown) (one-fits known entries base os g.shown.objects g.fits k es e)
        fits (written (object fs)) e n = absurd n
        fits (written (unresolved b ps)) e n = absurd n
        fits (settled v) e n = tt

    pub merged-given : {hi : ℕ} (w' : List ℕ) (os' : List Layer) → gather_of known below [] ≡ value (merged os') → Merging M known g.basis.tables top w' hi os'
        → ObjectsGiven M known w' top hi levels (pred d) os'
    unfolding gather_in
    merged-given w' os' e m =
        let h = below-low in
        let p = g.low in
        let q = g.deep in
        let x = merged-low known below.0 below.1 os' e in
        record {
          basis = g.basis;
          shown = m.0;
          fits = m.1;
          some = merged-high known below.0 below.1 os' e m.0.objects;
          low = omega arith;
          deep = omega arith;
        }

  -- the value of a key, by what its layers come to
  pub value-by : (d : ℕ) (b : Settled) → 1 ≤ d → value_in known d b ≡ then (gather_of known b []) (λ c. counted_in known (value_in known (pred d)) c)
  unfolding value_in gather_in counted_in
  value-by zero b h = absurd (omega arith)
  value-by (suc d) b h = refl

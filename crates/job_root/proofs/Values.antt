-- Laws of the root's value.
use mathlib.Core.Path.{◌≡◌, refl, ap, subst}
use Prim.Native.Nat.{ℕ, ◌+◌, ◌*◌, ◌≤◌}
use mathlib.Core.List.{List}
use mathlib.Core.Option.{Option, some}
use native.Mathlib.Omega.{arith}
use Rattle.answers.specs.Ask.{lookup, value, missing, refused, then}
use Rattle.answers.specs.Theory.Sound.{clash}
use Rattle.rules.specs.Bytes.{Text}
use Rattle.rules.specs.Sizes.{max_room, max_unresolved}
use Rattle.rules.specs.Tree.{array, object, Root, fields, elements, root_node, height_of}
use Rattle.rules.specs.Values.{Value, Values, Answer, array_of}
use Rattle.rules.specs.Layers.{written}
use Rattle.rules.specs.Settled.{Given, node_in, elements_in, merged_in, layer_in, value_in}
use Rattle.rules.specs.Weights.{weight_of}
use Rattle.theory.specs.Depths.{shallow-within}
use Rattle.theory.specs.SettledAnswers.{root_in, run-root-of}
use Rattle.doc_items.specs.Room.{text_room, sheet_at, trail_at}
use Rattle.eval_writer.specs.Composition.{start}
use Rattle.eval_writer.specs.declared.Source.{Source}
use Rattle.eval_stack.specs.Model.{entries}
use Rattle.eval_memory.specs.Keys.{KeyNumber}
use Rattle.eval_memory.specs.Tables.{WrittenAt}
use Rattle.eval_results.specs.Values.Comes.{ComesBy}
use Rattle.eval_results.specs.declared.values.Worked.{Worked}
use Rattle.eval_state.specs.Memories.{answers_of}
use Rattle.eval_state.specs.Documents.{root-written}
use Rattle.eval_state.specs.State.{state-tables}
use Rattle.eval_value_laws.specs.Ground.{Names}
use Rattle.eval_value_laws.specs.Clauses.{Asked, Ground, NodeIs}
use Rattle.eval_value_laws.specs.Given.{object-value}
use Rattle.job_root.specs.Clauses.{RootAsked, RootCase, RootIs}

abbrev answers : Source
answers = record { rec = record { 0 = trail_at }; text = record { 0 = sheet_at } }

pub root-asked : {B w : List ℕ} {base : ℕ} {room : List ℕ} → RootAsked B w base room → Asked B answers w base start room
root-asked A = record {
  room = A.whole;
  bytes = A.most;
  records = omega (arith, A.bytes);
  texts = omega arith;
  work = A.work;
  used = A.used;
  start = record { rec = omega arith; text = omega arith };
}

-- what is defined of the root's value
defined : (key : ℕ → Text) (items : ℕ) (T b a : List ℕ) (g : Given Value) (r : Worked)
    → ComesBy key (KeyNumber T (items + 1)) (then g (λ v. value (some v))) start b a r → RootCase key items T g b a r
defined key items T b a (value v) (Worked.Done e) c = record { held = c.held; is = same c.is; keys = c.keys; came = c.came }
  where
    same : {u v : Value} → ◌≡◌ {A = Given Answer} (value (some u)) (value (some v)) → ◌≡◌ {A = Given Value} (value u) (value v)
    same e = cc (e)
defined key items T b a (refused x) (Worked.Done e) c = clash (cc c.is)
defined key items T b a (missing n) (Worked.Done e) c = clash (cc c.is)
defined key items T b a (value v) Worked.Undefined c = clash (cc c.0)
defined key items T b a (refused x) Worked.Undefined c = clash (cc c.0)
defined key items T b a (missing n) Worked.Undefined c = clash (cc c.0)
defined key items T b a (value v) (Worked.Needs n) c = clash (cc (c))
defined key items T b a (refused x) (Worked.Needs n) c = clash (cc (c))
defined key items T b a (missing m) (Worked.Needs n) c = let e : m ≡ n = cc (c) in ap missing e

module _ {T B : List ℕ} {base : ℕ} {w w' : List ℕ} {r : Worked} {b a : List ℕ} (f : NodeIs T B answers base 0 start 65 w w' r b a) where
  by-root : (key : ℕ → Text) (items : ℕ) (known : ℕ → Option Answer) (root : Root) → Ground (answers_of key items T B) known
      → WrittenAt (answers_of key items T B) (root_node root) 0 → height_of (root_node root) ≤ 32 → base + 2 * weight_of known (root_node root) ≤ entries
      → ComesBy key (KeyNumber T (items + 1)) (then (root_in known root 65) (λ v. value (some v))) start b a r
  unfolding root_in layer_in node_in height_of weight_of merged_in
  by-root key items known (fields fs) G s h room =
      let M = answers_of key items T B in
      let N : Names = record { key = key; items = items + 1; ends = text_room; answered = max_unresolved; filled = max_room; filled-text = max_room } in
      rw (object-value M known 66 fs (omega arith)) at
      (f.is N known 66 (written (object fs)) (record { basis = G; shown = s; fits = omega arith; low = omega arith; deep = omega arith })).is
  by-root key items known (elements es) G s h room =
      let N : Names = record { key = key; items = items + 1; ends = text_room; answered = max_unresolved; filled = max_room; filled-text = max_room } in
      subst (λ (g : Given Answer). ComesBy key (KeyNumber T (items + 1)) g start b a r) (go (elements_in known (value_in known 65) es))
      (f.is N known 65 (written (array es)) (record { basis = G; shown = s; fits = omega arith; low = omega arith; deep = omega arith })).is
    where
      go : (g : Given Values) → then g (λ vs. value (some (array_of vs))) ≡ then (then g (λ vs. value (array_of vs))) (λ v. value (some v))
      go (value vs) = refl
      go (refused x) = refl
      go (missing n) = refl

  pub root_is : RootIs T B base w w' r b a
  root_is = record {
    left = f.left;
    bounded = f.within;
    is = λ x key items S G.
        let known = lookup S in
        rw (run-root-of x G.state.document.read G.nested known G.within)
        (defined key items T b a (root_in known x.document.root 65) r
        (by-root key items known x.document.root (record { tables = state-tables G.state; shallow = shallow-within known G.within })
        (root-written G.state.document) G.nested G.fits));
  }

pub ruleset root_laws = (root_is, root-asked)

-- A settled root: one law for each return, and what its callees ask.
use mathlib.Core.Path.{◌≡◌, sym, ap, subst, ◌∙◌}
use mathlib.Core.List.{List}
use Prim.Native.Nat.{ℕ, ◌≤◌}
use native.Mathlib.Omega.{arith}
use lib.ListN.{length}
use Rattle.std.specs.Prelude.{Result}
use Rattle.answers.specs.Ask.{lookup, run, value}
use Rattle.answers.specs.Resolve.{answer}
use Rattle.answers.specs.Theory.Sound.{clash}
use Rattle.rules.specs.Tree.{root_node, height_of}
use Rattle.rules.specs.Values.{Value}
use Rattle.rules.specs.Settled.{Given}
use Rattle.rules.specs.Jobs.{handed_back}
use Rattle.theory.specs.Resolving.{laid-within, root_of}
use Rattle.theory.specs.SettledAnswers.{run-root-of}
use Rattle.theory_order.specs.Clauses.{Task, tree_of, KeptOf}
use Rattle.theory_order.specs.Whole.{resolved_of}
use Rattle.theory_order.proofs.Whole.{root-answered}
use Rattle.text_chars.specs.declared.Refusal.{Refusal}
use Rattle.sheet_kept.specs.Kept.{named}
use Rattle.eval_results.specs.declared.extents.Extent.{Extent}
use Rattle.eval_results.specs.declared.values.Worked.{Worked}
use Rattle.eval_frames.specs.Weights.{root_below}
use Rattle.eval_trail.specs.declared.Progress.{Progress}
use Rattle.job_results.specs.declared.Resolution.{Resolution}
use Rattle.job_root.specs.Output.Contracts.{HandAsked, HandedBack, HandIs}
use Rattle.job_root.specs.Clauses.{RootAsked, RootCase, RootIs, HandRootAsked, Settled, HandRootIs}

-- the root's value, and what the job hands back
record Answered (t : Task) (T B trail text : List ℕ) (p : Progress) (H : Settled t T B trail text p) (table_room : ℕ) : Type 0 where
  pub v : Value
  pub runs : run (lookup H.S) (root_of t.setting) ≡ value v
  pub kept : KeptOf t H.S H.n
  pub is : resolved_of t table_room ≡ handed_back table_room t.text_room (answer v H.S H.n)

answered : {t : Task} {T B trail text : List ℕ} {p : Progress} → height_of (root_node (tree_of t)) ≤ 32 → (H : Settled t T B trail text p) (table_room : ℕ)
    → Answered t T B trail text p H table_room
answered {t} low H table_room =
    let P = H.holding.state.document.read in
    let (v, there, kept, is) = root-answered t P low table_room H.S H.n H.is in
    record {
      v = v;
      runs = run-root-of t.setting P low (lookup H.S) (laid-within t.setting P t.trail_room t.text_room H.S kept.laid) ∙ there;
      kept = kept;
      is = is;
    }

module _ {B w room : List ℕ} {p : Progress} (A : HandRootAsked B w room p) where
  pub root-asked : RootAsked B w 0 room
  root-asked = record { whole = A.whole; bytes = A.bytes; most = A.most; work = A.work; used = omega arith }

  pub hand-asked : {after : List ℕ} → length after ≡ length room → HandAsked after p
  hand-asked l = record { whole = l ∙ A.whole; texts = A.texts }

  module _ {T : List ℕ} {o : Worked} {w' after : List ℕ} (W : RootIs T B 0 w w' o room after) where
    module _ {t : Task} {trail text : List ℕ} (low : height_of (root_node (tree_of t)) ≤ 32) (H : Settled t T B trail text p) (table_room : ℕ) where
      came : {q : Worked} → o ≡ q → RootCase H.key H.items T (value (answered low H table_room).v) room after q
      came {q} e =
          let N = answered low H table_room in
          let s = H.holding.state in
          subst (λ (g : Given Value). RootCase H.key H.items T g room after q) N.runs
          (subst (λ (q : Worked). RootCase H.key H.items T (run (lookup H.S) (root_of t.setting)) room after q) e
          (W.is t.setting H.key H.items H.S (record {
            state = s;
            nested = low;
            within = laid-within t.setting s.document.read t.trail_room t.text_room H.S N.kept.laid;
            fits = omega (arith, root_below s);
          })))

    pub root-done : {e : Extent} {b a x y : List ℕ} {r : Result Resolution Refusal} → o ≡ Worked.Done e → HandIs after e p b a x y r → HandRootIs T B p b a x y r
    root-done {e} {b} {a} {x} {y} {r} q h = record {
      is = λ t trail low H.
          let N = answered low H (length b) in
          let D = came low H (length b) q in
          let K = H.holding in
          let v = N.v in
          let same : named H.key D.held ≡ v = cc D.is in
          let back = h.is H.key v H.S trail K.rest K.more
          (record { held = D.held; good = tt; is = same; before = room; whole = A.whole; came = D.came }) K.used K.texts K.laid in
          subst (λ R. HandedBack R trail a y r)
          (ap (λ (n : ℕ). handed_back (length b) n (answer v H.S p.begun)) K.text-room
          ∙ ap (λ (n : ℕ). handed_back (length b) t.text_room (answer v H.S n)) K.count
          ∙ sym N.is) back;
    }

    pub root-undefined : {b x : List ℕ} {r : Result Resolution Refusal} → o ≡ Worked.Undefined → HandRootIs T B p b b x x r
    root-undefined {b} q = record { is = λ t trail low H. absurd (came low H (length b) q) }

    pub root-needs : {b x : List ℕ} {d : ℕ} {r : Result Resolution Refusal} → o ≡ Worked.Needs d → HandRootIs T B p b b x x r
    root-needs {b} q = record { is = λ t trail low H. clash (cc (came low H (length b) q)) }

pub ruleset roots = (root-asked, hand-asked, root-done, root-undefined, root-needs)

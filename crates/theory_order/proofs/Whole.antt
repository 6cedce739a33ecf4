-- The job resolve is what the code does: settle the root by levels, each missing answer worked out by turns; evaluate the root once, at
-- depth 65, which then meets no missing answer; hand back.
use Rattle.std.specs.Prelude.{◌≡◌, refl, ℕ, ◌≤◌, leb}
use Rattle.std.proofs.Math.Path.{sym, ap}
use Rattle.std.proofs.Common.{◌∙◌, arith}
use mathlib.Core.List.{List, []}
use Rattle.answers.specs.Ask.{value, run, Trail, lookup}
use Rattle.answers.specs.Resolve.{answer, refused, after}
use Rattle.answers.specs.Theory.Holds.{Wet, Partly, holds-map, after_cong}
use Rattle.answers.specs.Theory.Fuel.{resolve-wet}
use Rattle.rules.specs.Sizes.{max_budget}
use Rattle.rules.specs.Refusals.{Refusal}
use Rattle.rules.specs.Tree.{root_node, height_of}
use Rattle.rules.specs.Values.{Value, Answer}
use Rattle.rules.specs.Unresolved.{depth_of}
use Rattle.rules.specs.Documents.{Setting, Input, valid, inputs}
use Rattle.rules.specs.Jobs.{Result, refused_with, room_of, handed_back, resolved, located, resolve_job}
use Rattle.theory.specs.Numbering.{Prepared, prepared, numbers-below}
use Rattle.theory.specs.Heights.{setting-height}
use Rattle.theory.specs.Resolving.{root_of, root_below, closed, laid-within}
use Rattle.rules.specs.Settled.{Given}
use Rattle.theory.specs.SettledAnswers.{root_in, run-root-of}
use Rattle.theory_order.specs.Walks.{forget, forget-refused, forget-wet, finish, walk-keeps, walk-found, walk-finish}
use Rattle.theory_order.specs.Ready.{working-any}
use Rattle.theory_order.specs.Settling.{settle-root}
use Rattle.theory_order.specs.Levels.{root-depth}
use Rattle.theory_order.proofs.Coding.{root-meets}
use Rattle.theory_order.specs.Clauses.{Task, tree_of, questions_of, rules_of, KeptOf, settle_root_c, resolution_c}
use Rattle.theory_order.specs.Resolving.{kept-start, working_of, kept-proper}
use Rattle.theory_order.specs.Whole.{resolution_of, resolved_of, resolved_c, resolve_job_c}

-- ---- a document that was read

module _ (t : Task) (p : Prepared t.setting.document) (nested : height_of (root_node (tree_of t)) ≤ 32) where
  -- settling the root is the resolution without its value
  pub root-settles : settle_root_c t ≡ forget (resolution_of t)
  unfolding height_of
  root-settles =
      let w = working_of t p in
      let x = t.setting in
      let numbers = numbers-below x.document p in
      root-meets w (kept-proper t p) (tree_of t) numbers nested [] 0 (kept-start t)
      ∙ root-depth w (kept-proper t p) (tree_of t) numbers nested (depth_of (tree_of t) x.environment) (omega arith) [] 0 (kept-start t)
      ∙ settle-root (working-any w) (tree_of t) x.environment (root_below x p) [] 0

  -- it ends, or refuses
  pub root_ends : Wet (settle_root_c t)
  root_ends =
      let x = t.setting in
      rw root-settles
      (forget-wet (resolve-wet (rules_of t) t.budget (root_of x) (questions_of t)
      (closed x p t.trail_room t.text_room) (root_below x p)))

  root-keeps : Partly (λ _ S n. KeptOf t S n) (settle_root_c t)
  root-keeps =
      rw root-settles (holds-map (λ _ S n a. a.0) (walk-keeps (working_of t p).serves (root_of t.setting) [] 0 (kept-start t)))

  -- with the answers of a trail that is laid, one depth evaluates the root
  root-runs : (S : Trail Answer) (n : ℕ) → KeptOf t S n → run (lookup S) (root_of t.setting) ≡ root_in (lookup S) (tree_of t) 65
  root-runs S n k = run-root-of t.setting p nested (lookup S) (laid-within t.setting p t.trail_room t.text_room S k.laid)

  module _ (table_room : ℕ) where
    -- a refusal on the way is the job's
    pub root-refused : (y : Refusal) → settle_root_c t ≡ refused y → resolved_of t table_room ≡ refused_with y
    unfolding resolved handed_back
    root-refused y e = ap (handed_back table_room t.text_room) (forget-refused (resolution_of t) (sym root-settles ∙ e))

    -- else the root has its value, and the job hands back what that comes to
    pub root-answered : (S : Trail Answer) (n : ℕ) → settle_root_c t ≡ answer tt S n
        → (v : Value) × (root_in (lookup S) (tree_of t) 65 ≡ value v) × KeptOf t S n
        × (resolved_of t table_room ≡ handed_back table_room t.text_room (answer v S n))
    unfolding resolved
    root-answered S n e =
        let (v, walks, runs, kept, grows)
        = walk-found (working_of t p).serves (root_of t.setting) [] 0 S n (kept-start t) (sym root-settles ∙ e) in
        (v, sym (root-runs S n kept) ∙ runs S (λ q r h. h), kept, ap (handed_back table_room t.text_room) walks)

    -- so the job is: settle, evaluate once, hand back
    pub resolution-is : resolved_of t table_room ≡ resolution_c t table_room
    unfolding resolved resolution_c
    resolution-is =
        let finished : after (settle_root_c t) (λ _ S n. finish (run (lookup S) (root_of t.setting)) S n) ≡ resolution_of t
        = rw root-settles (walk-finish (working_of t p).serves (root_of t.setting) [] 0) in
        ap (handed_back table_room t.text_room)
        (sym finished ∙ after_cong root-keeps (λ _ S n k. ap (λ (o : Given Value). finish o S n) (root-runs S n k)))

-- ---- any inputs

pub code-resolves : (document environment : List ℕ) (budget trail_length table_length text_length : ℕ)
    → resolve_job document environment budget trail_length table_length text_length
    ≡ resolve_job_c document environment budget trail_length table_length text_length
unfolding resolve_job resolved resolve_job_c resolved_c
code-resolves d e budget l m n = ap (λ (r : Result). located d r) (go (inputs (leb budget max_budget) d e) refl)
  where
    go : (i : Input Setting) → inputs (leb budget max_budget) d e ≡ i
        → resolved budget (room_of l) (room_of m) (room_of n) i ≡ resolved_c budget (room_of l) (room_of m) (room_of n) i
    go (Input.refused y) h = refl
    go (valid x) h =
        let others = leb budget max_budget in
        let t : Task = record { setting = x; budget = budget; trail_room = room_of l; text_room = room_of n } in
        resolution-is t (prepared others d e x h) (setting-height others d e x h) (room_of m)

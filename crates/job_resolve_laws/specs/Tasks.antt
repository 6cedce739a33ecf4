-- A document that was read is a task for the order of working out, and stands in the job's memory as that asks before its first step.
use Rattle.std.specs.Prelude.{◌≡◌, Bool, true, false, List, [], ℕ, ◌≤◌, leb, length}
use Rattle.std.proofs.Math.Path.{refl}
use Rattle.std.proofs.Math.Option.{Option, none, some}
use Rattle.std.proofs.Common.{arith, leb-true}
use Rattle.std.proofs.Math.ListN.{get_elem?}
use Rattle.answers.specs.Ask.{Trail, lookup}
use Rattle.answers.specs.Theory.Sound.{clash}
use Rattle.rules.specs.Bytes.{Text}
use Rattle.rules.specs.Sizes.{max_environment}
use Rattle.rules.specs.Tree.{Pieces, no_pieces, node_piece, substituted, root_node, height_of}
use Rattle.rules.specs.Values.{Answer}
use Rattle.rules.specs.Sheet.{trail_size, trail_text_size, trail_records, trail_texts}
use Rattle.rules.specs.Unresolved.{Unresolved}
use Rattle.rules.specs.Environment.{Variable, entries_of}
use Rattle.rules.specs.Documents.{Setting}
use Rattle.theory.specs.Heights.{setting-height}
use Rattle.theory_order.specs.Clauses.{Task, tree_of}
use Rattle.read_laws.specs.Listing.{listed-as-read}
use Rattle.eval_keys.specs.Columns.{key_text}
use Rattle.eval_state.specs.State.{State}
use Rattle.eval_frames.specs.Nodes.{PiecesBelow}
use Rattle.eval_frames.specs.Weights.{most_weight, root_below, pieces-below}
use Rattle.eval_question_laws.specs.Clauses.{PiecesFit, Fits}
use Rattle.eval_question_laws.specs.Work.{Tasked}
use Rattle.eval_trail.specs.Clauses.{Holding}
use Rattle.eval_trail.specs.declared.Progress.{Progress}
use Rattle.eval_settle_laws.specs.Ground.{settling_room}
use Rattle.job_resolve_laws.specs.Clauses.{ResolutionAsked, task_of}

-- a longer environment is against its rule
environment-short : (e : List ℕ) (es : List Variable) → entries_of e ≡ some es → length e ≤ max_environment
unfolding entries_of
environment-short e es k = go (leb (length e) max_environment) refl
  where
    go : (t : Bool) → leb (length e) max_environment ≡ t → length e ≤ max_environment
    go true h = leb-true (length e) max_environment h
    go false h = let z : entries_of e ≡ none = rw (entries_of, h) in clash (cc (z, k))

-- ---- room on the stack for every piece

pieces-fit : (known : ℕ → Option Answer) (base : ℕ) → base ≤ settling_room → (ps : Pieces) → PiecesBelow known most_weight ps → PiecesFit known base ps
pieces-fit known base l no_pieces f = tt
pieces-fit known base l (node_piece place gap n ps) f = (omega (arith, f.0), pieces-fit known base l ps f.1)
pieces-fit known base l (substituted gap x ps) f = pieces-fit known base l ps f

pieces-stand : {x : Setting} {key : ℕ → Text} {items : ℕ} {T B : List ℕ} {S : Trail Answer} (H : State x key items T B S) (base : ℕ) → base ≤ settling_room
    → (b : ℕ) (u : Unresolved) → get_elem? x.document.unresolved b ≡ some u → Fits (lookup S) base x.document.root u.pieces
pieces-stand {S = S} H base l b u e = record {
  tree = omega (arith, root_below H);
  pieces = pieces-fit (lookup S) base l u.pieces (pieces-below H b u e);
  pair = omega arith;
}

-- ---- the task

-- nothing is used and nothing is begun
abbrev pub start : Progress
start = record { used = record { 0 = 0 }; text = record { 0 = 0 }; begun = 0 }

module _ {T B E : List ℕ} {budget : ℕ} {trail text : List ℕ} (A : ResolutionAsked T B E budget trail text) where
  abbrev pub task : Task
  task = task_of A.setting budget trail text

  pub task-nested : height_of (root_node (tree_of task)) ≤ 32
  task-nested = setting-height A.others A.document E A.setting A.ready.read

  pub short : length E ≤ max_environment
  short = environment-short E A.ready.variables.0 A.ready.variables.1

  pub tasked : (base : ℕ) → base ≤ settling_room → Tasked task E base
  tasked base l = record {
    read = listed-as-read A.others A.document E A.setting A.ready.read;
    nested = task-nested;
    variables = A.ready.variables.0;
    entered = A.ready.variables.1;
    environment = A.ready.variables.2;
    trail-room = A.trail-room;
    text-room = A.text-room;
    fits = λ key items T B S b u H e. pieces-stand H base l b u e;
  }

  pub held_start : Holding task (key_text B T) A.items T B trail text start [] [] 0
  unfolding trail_size trail_text_size trail_records trail_texts
  held_start = record {
    state = A.ready.state;
    marks = A.ready.unbegun;
    rest = trail;
    more = text;
    laid = record { records = refl; texts = refl };
    used = refl;
    texts = refl;
    count = refl;
    trail-room = refl;
    text-room = refl;
  }

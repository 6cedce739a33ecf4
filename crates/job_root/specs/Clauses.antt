-- What the root's value, its check and its handing back promise.
use Rattle.std.specs.Prelude.{◌≡◌, ℕ, ◌+◌, ◌*◌, ◌≤◌, Bool, List, [], length, Result}
use Rattle.std.proofs.Math.Option.{some}
use Rattle.answers.specs.Ask.{Trail, lookup, run, value, missing}
use Rattle.answers.specs.Resolve.{answer}
use Rattle.rules.specs.Bytes.{Text}
use Rattle.rules.specs.Sizes.{max_room}
use Rattle.rules.specs.Tree.{root_node, height_of}
use Rattle.rules.specs.Values.{Value, Answer}
use Rattle.rules.specs.Settled.{Given}
use Rattle.rules.specs.Weights.{weight_of}
use Rattle.rules.specs.Documents.{Setting}
use Rattle.rules.specs.Sheet.{trail_size, trail_text_size}
use Rattle.rules.specs.Checking.{accepted}
use Rattle.theory.specs.Ends.{WithinSize}
use Rattle.theory.specs.Resolving.{root_of}
use Rattle.theory_check.specs.Steps.{CheckAt}
use Rattle.theory_order.specs.Clauses.{Task, tree_of, settle_root_c}
use Rattle.theory_order.specs.Whole.{resolved_of}
use Rattle.sheet_kept.specs.Kept.{Held, named}
use Rattle.text_chars.specs.declared.Refusal.{Refusal}
use Rattle.eval_writer.specs.Clauses.{Room}
use Rattle.eval_writer.specs.Composition.{start}
use Rattle.eval_writer.specs.Copies.Contracts.{most_bytes}
use Rattle.eval_results.specs.Extents.Came.{Came}
use Rattle.eval_results.specs.declared.extents.Extent.{Extent}
use Rattle.eval_stack.specs.Model.{entries, Work}
use Rattle.eval_memory.specs.Keys.{KeyNumber, EachKey}
use Rattle.eval_results.specs.Values.Contracts.{WorkedWithin}
use Rattle.eval_results.specs.declared.values.Worked.{Worked}
use Rattle.eval_state.specs.Memories.{job_bytes}
use Rattle.eval_state.specs.State.{State}
use Rattle.eval_value_laws.specs.Clauses.{Left}
use Rattle.eval_trail.specs.Clauses.{Holding}
use Rattle.eval_trail.specs.declared.Progress.{Progress}
use Rattle.job_results.specs.declared.Resolution.{Resolution}
use Rattle.job_root.specs.Output.Contracts.{HandedBack}

-- ---- its value

pub record RootAsked (B w : List ℕ) (base : ℕ) (room : List ℕ) : Type 0 where
  pub whole : Room room
  pub bytes : job_bytes ≤ length B
  pub most : length B ≤ most_bytes
  pub work : Work w
  pub used : base ≤ entries

-- a job's memory with the answers of the trail S, and room on the stack
pub record RootGiven (x : Setting) (key : ℕ → Text) (items : ℕ) (T B : List ℕ) (S : Trail Answer) (base : ℕ) : Type 0 where
  pub state : State x key items T B S
  pub nested : height_of (root_node x.document.root) ≤ 32
  pub within : (c : ℕ) (a : Answer) → lookup S c ≡ some a → WithinSize a
  pub fits : base + 2 * weight_of (lookup S) (root_node x.document.root) ≤ entries

-- the value was written from the start of the room on
pub record RootDone (key : ℕ → Text) (items : ℕ) (T : List ℕ) (g : Given Value) (e : Extent) (b a : List ℕ) : Type 0 where
  pub held : Held
  pub is : g ≡ value (named key held)
  pub keys : EachKey (KeyNumber T (items + 1)) held
  pub came : Came key held start e b a

-- the root is never undefined
abbrev pub RootCase : (ℕ → Text) → ℕ → List ℕ → Given Value → List ℕ → List ℕ → Worked → Type 0
RootCase key items T g b a (Worked.Done e) = RootDone key items T g e b a
RootCase key items T g b a Worked.Undefined = ⊥
RootCase key items T g b a (Worked.Needs n) = g ≡ missing n

pub record RootIs (T B : List ℕ) (base : ℕ) (w w' : List ℕ) (r : Worked) (b a : List ℕ) : Type 0 where
  pub left : Left base w w'
  pub bounded : WorkedWithin r
  pub is : (x : Setting) (key : ℕ → Text) (items : ℕ) (S : Trail Answer) → RootGiven x key items T B S base
      → RootCase key items T (run (lookup S) (root_of x)) b a r

-- ---- held against a lent table

pub record CheckRootAsked (B w room : List ℕ) (texts : ℕ) (text : List ℕ) : Type 0 where
  pub whole : Room room
  pub bytes : job_bytes ≤ length B
  pub most : length B ≤ most_bytes
  pub work : Work w
  pub inside : texts ≤ length text
  pub short : length text ≤ max_room

-- behind a trail that was found right to its end, the answer is the rules'
pub record CheckRootIs (T B : List ℕ) (texts : ℕ) (table text : List ℕ) (r : Bool) : Type 0 where
  pub is : (x : Setting) (key : ℕ → Text) (items : ℕ) (trail : List ℕ) (S : Trail Answer) → State x key items T B S → CheckAt x trail text S
      → length trail ≤ trail_size S → texts ≡ trail_text_size S → height_of (root_node x.document.root) ≤ 32 → r ≡ accepted x trail table text

-- ---- handed back

pub record HandRootAsked (B w room : List ℕ) (p : Progress) : Type 0 where
  pub whole : Room room
  pub bytes : job_bytes ≤ length B
  pub most : length B ≤ most_bytes
  pub work : Work w
  pub texts : p.text.0 ≤ max_room

-- a task whose root was settled with the trail S and n questions begun, all of it in the job's memory
pub record Settled (t : Task) (T B trail text : List ℕ) (p : Progress) : Type 0 where
  pub key : ℕ → Text
  pub items : ℕ
  pub S : Trail Answer
  pub n : ℕ
  pub holding : Holding t key items T B trail text p [] S n
  pub is : settle_root_c t ≡ answer tt S n

-- table and text before (b, x) and after (a, y); the trail is not written
pub record HandRootIs (T B : List ℕ) (p : Progress) (b a x y : List ℕ) (r : Result Resolution Refusal) : Type 0 where
  pub is : (t : Task) (trail : List ℕ) → height_of (root_node (tree_of t)) ≤ 32 → Settled t T B trail x p
      → HandedBack (resolved_of t (length b)) trail a y r

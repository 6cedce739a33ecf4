-- What working a question out, with all those that it needs, asks and promises. It stands here, below the code, for the laws of settling.
use Rattle.std.specs.Prelude.{◌≡◌, List, [], ℕ, ◌≤◌, ◌<◌, length, Result, Ok, Err}
use Rattle.std.proofs.Math.Option.{none, some}
use Rattle.std.proofs.Math.ListN.{get_elem?}
use Rattle.answers.specs.Ask.{Trail, lookup}
use Rattle.answers.specs.Resolve.{answer, refused}
use Rattle.answers.specs.Theory.Sound.{Within}
use Rattle.rules.specs.Bytes.{Text}
use Rattle.rules.specs.Sizes.{max_room, max_environment}
use Rattle.rules.specs.Refusals.{Refusal, number_of, place_of}
use Rattle.rules.specs.Environment.{Variable, entries_of, text_of}
use Rattle.rules.specs.Tree.{root_node, height_of}
use Rattle.rules.specs.Unresolved.{Unresolved}
use Rattle.rules.specs.Values.{Answer}
use Rattle.theory_order.specs.Walks.{Ended}
use Rattle.theory_order.specs.Ready.{unanswered}
use Rattle.theory_order.specs.Clauses.{Task, tree_of, questions_of, KeptOf, work_c}
use Rattle.text_chars.specs.declared.Refusal.{Refusal as Refused}
use Rattle.read_numbering.specs.Clauses.{AsRead}
use Rattle.eval_writer.specs.Clauses.{Room}
use Rattle.eval_writer.specs.Copies.Contracts.{most_bytes}
use Rattle.eval_stack.specs.Model.{entries, Work}
use Rattle.eval_groups.specs.Clauses.{Below}
use Rattle.eval_state.specs.State.{State}
use Rattle.eval_state.specs.Later.{Later}
use Rattle.eval_question_laws.specs.Clauses.{Fits}
use Rattle.eval_trail.specs.Clauses.{Holding}
use Rattle.eval_trail.specs.declared.Progress.{Progress}

-- ---- what is lent

pub record Lent (B E w room : List ℕ) (base : ℕ) : Type 0 where
  pub whole : Room room
  pub bytes : length B ≤ most_bytes
  pub environment : length E ≤ max_environment
  pub work : Work w
  pub used : base ≤ entries

-- a task whose document was read, in this environment; above base there is room on the stack for any of its values
pub record Tasked (t : Task) (E : List ℕ) (base : ℕ) : Type 0 where
  pub read : (b : ℕ) (u : Unresolved) → get_elem? t.setting.document.unresolved b ≡ some u → AsRead b u.pieces
  pub nested : height_of (root_node (tree_of t)) ≤ 32
  pub variables : List Variable
  pub entered : entries_of E ≡ some variables
  pub environment : t.setting.environment ≡ text_of variables
  pub trail-room : t.trail_room ≤ max_room
  pub text-room : t.text_room ≤ max_room
  pub fits : (key : ℕ → Text) (items : ℕ) (T B : List ℕ) (S : Trail Answer) (b : ℕ) (u : Unresolved) → State t.setting key items T B S
      → get_elem? t.setting.document.unresolved b ≡ some u → Fits (lookup S) base (tree_of t) u.pieces

-- a refusal, by its number and place
pub record RefusedAs (e : Ended Refusal Answer) (number place : ℕ) : Type 0 where
  pub refusal : Refusal
  pub is : e ≡ refused refusal
  pub its-number : number ≡ number_of refusal
  pub its-place : place ≡ place_of refusal

-- ---- a question that has no answer

pub record WorkAsked (T B E w room trail text : List ℕ) (base b : ℕ) (p : Progress) (budget : ℕ) : Type 0 where
  pub lent : Lent B E w room base
  pub t : Task
  pub task : Tasked t E base
  pub budgeted : budget ≡ t.budget
  pub key : ℕ → Text
  pub items : ℕ
  pub S : Trail Answer
  pub n : ℕ
  pub low : b < questions_of t
  pub new : lookup S b ≡ none
  pub kept : KeptOf t S n
  pub holding : Holding t key items T B trail text p [] S n

module _ {T B E w room trail text : List ℕ} {base b : ℕ} {p : Progress} {budget : ℕ} (a : WorkAsked T B E w room trail text base b p budget)
    (T' B' trail' text' : List ℕ) where
  pub record WorkedOut (p' : Progress) : Type 0 where
    pub S' : Trail Answer
    pub n' : ℕ
    pub is : work_c a.t b a.S a.n ≡ answer tt S' n'
    pub kept : KeptOf a.t S' n'
    pub grows : Within a.S S'
    pub fewer : unanswered (questions_of a.t) S' < unanswered (questions_of a.t) a.S
    -- it has begun
    pub more : a.n < n'
    pub holding : Holding a.t a.key a.items T' B' trail' text' p' [] S' n'
    pub later : Later T B a.S T' B' S'

  abbrev pub Works : Result Progress Refused → Type 0
  Works (Ok p') = WorkedOut p'
  Works (Err x) = RefusedAs (work_c a.t b a.S a.n) x.number x.place.0

pub record WorkIs (E : List ℕ) (base b : ℕ) (p : Progress) (budget : ℕ) (T T' B B' w w' trail trail' text text' : List ℕ) (r : Result Progress Refused) : Type 0 where
  pub below : Below base w w'
  pub is : {room : List ℕ} (a : WorkAsked T B E w room trail text base b p budget) → Works a T' B' trail' text' r

-- What the check of a sheet promises, and that of its trail.
use Rattle.std.specs.Prelude.{◌≡◌, ℕ, ◌+◌, ◌≤◌, ◌<◌, List, [], length, Option as Maybe, Some, None, Result, Err}
use Rattle.std.proofs.Math.Option.{some}
use Rattle.std.proofs.Math.ListN.{get_elem?}
use Rattle.answers.specs.Ask.{Trail, lookup, run}
use Rattle.rules.specs.Bytes.{Text}
use Rattle.rules.specs.Sizes.{max_environment, max_unresolved, max_room}
use Rattle.rules.specs.Environment.{Variable, entries_of, text_of}
use Rattle.rules.specs.Tree.{root_node, height_of}
use Rattle.rules.specs.Values.{Answer}
use Rattle.rules.specs.Unresolved.{Unresolved}
use Rattle.rules.specs.Documents.{Setting, valid, rule_of, count_of}
use Rattle.rules.specs.Sheet.{trail_size}
use Rattle.rules.specs.Jobs.{verdict}
use Rattle.text_chars.specs.declared.Refusal.{Refusal}
use Rattle.read_numbering.specs.Clauses.{AsRead}
use Rattle.eval_writer.specs.Clauses.{Room}
use Rattle.eval_writer.specs.Copies.Contracts.{most_bytes}
use Rattle.eval_stack.specs.Model.{Work}
use Rattle.eval_state.specs.Memories.{job_table, job_bytes}
use Rattle.eval_state.specs.State.{State}
use Rattle.eval_results.specs.Sizes.Outcomes.{OutcomeWithin}
use Rattle.eval_unresolved.specs.Clauses.{OutcomeCase}
use Rattle.eval_results.specs.declared.sizes.Outcome.{Outcome}
use Rattle.check_entries.specs.Clauses.{Right, Open, Refuted, CheckedBy, Further}
use Rattle.check_entries.specs.declared.Reached.{Reached}
use Rattle.job_results.specs.Answers.{verdict_of}

-- ---- what is known of a document throughout

pub record Known (x : Setting) (E : List ℕ) : Type 0 where
  pub read : (b : ℕ) (u : Unresolved) → get_elem? x.document.unresolved b ≡ some u → AsRead b u.pieces
  pub nested : height_of (root_node x.document.root) ≤ 32
  pub variables : List Variable
  pub entered : entries_of E ≡ some variables
  pub environment : x.environment ≡ text_of variables

-- ---- what is lent

pub record TrailAsked (T B E w room : List ℕ) (count : ℕ) (trail text : List ℕ) : Type 0 where
  pub whole : Room room
  pub table : job_table ≤ length T
  pub bytes : job_bytes ≤ length B
  pub most : length B ≤ most_bytes
  pub environment : length E ≤ max_environment
  pub work : Work w
  pub few : count ≤ max_unresolved
  pub trail-short : length trail ≤ max_room
  pub text-short : length text ≤ max_room

pub record EntryAsked (T B E w room : List ℕ) (count : ℕ) (at : Reached) (trail text : List ℕ) : Type 0 where
  pub lent : TrailAsked T B E w room count trail text
  pub used : at.used.0 ≤ length trail
  pub texts : at.text.0 ≤ length text

-- the outcome of question b, whose value is within the room
pub record CaseAsked (T B room : List ℕ) (o : Outcome) (b : ℕ) (at : Reached) (trail text : List ℕ) : Type 0 where
  pub whole : Room room
  pub within : OutcomeWithin o
  pub number : b < max_unresolved
  pub entry : at.used.0 + 3 ≤ length trail
  pub trail-short : length trail ≤ max_room
  pub texts : at.text.0 ≤ length text
  pub text-short : length text ≤ max_room
  pub table : job_table ≤ length T
  pub bytes : job_bytes ≤ length B

-- ---- what is promised

pub record CaseIs (room : List ℕ) (o : Outcome) (b : ℕ) (at : Reached) (trail text T T' B B' : List ℕ) (r : Maybe Reached) : Type 0 where
  pub is : (x : Setting) (key : ℕ → Text) (items : ℕ) (S : Trail Answer) → Right x key items T B trail text at S → Open x trail S b
      → OutcomeCase key items T room (run (lookup S) (rule_of x b)) o → CheckedBy x key items T' B' trail text r
  pub further : Further trail text at r

pub record EntryIs (E : List ℕ) (count : ℕ) (at : Reached) (trail text T T' B B' : List ℕ) (r : Maybe Reached) : Type 0 where
  pub is : (x : Setting) (key : ℕ → Text) (items : ℕ) (S : Trail Answer) → Known x E → count ≡ count_of x → Right x key items T B trail text at S
      → at.used.0 < length trail → CheckedBy x key items T' B' trail text r
  pub further : Further trail text at r

-- to the trail's end
abbrev pub TrailBy : Setting → (ℕ → Text) → ℕ → (T B trail text : List ℕ) → Maybe Reached → Type 0
TrailBy x key items T B trail text (Some at) = (S : Trail Answer) × Right x key items T B trail text at S × (length trail ≤ trail_size S)
TrailBy x key items T B trail text None = Refuted x trail text

-- what was lent may be lent again behind it
pub record Behind (T B E w room : List ℕ) (count : ℕ) (trail text : List ℕ) (at : Reached) : Type 0 where
  pub lent : TrailAsked T B E w room count trail text
  pub texts : at.text.0 ≤ length text

abbrev pub BehindBy : (T B E w room : List ℕ) → ℕ → (trail text : List ℕ) → Maybe Reached → Type 0
BehindBy T B E w room count trail text (Some at) = Behind T B E w room count trail text at
BehindBy T B E w room count trail text None = Unit {0}

pub record TrailIs (E : List ℕ) (count : ℕ) (trail text T T' B B' w' room' : List ℕ) (r : Maybe Reached) : Type 0 where
  pub is : (x : Setting) (key : ℕ → Text) (items : ℕ) → Known x E → count ≡ count_of x → State x key items T B [] → TrailBy x key items T' B' trail text r
  pub behind : BehindBy T' B' E w' room' count trail text r

-- ---- the sheet

pub record SheetAsked (T B E w room : List ℕ) (count : ℕ) (trail text : List ℕ) : Type 0 where
  pub lent : TrailAsked T B E w room count trail text

-- of a document that was read the answer is the rules'
pub record SheetIs (E : List ℕ) (count : ℕ) (trail table text T B : List ℕ) (v : Result (Unit {0}) Refusal) : Type 0 where
  pub is : (x : Setting) (key : ℕ → Text) (items : ℕ) → Known x E → count ≡ count_of x → State x key items T B []
      → (s : List ℕ) → verdict_of s v ≡ verdict s trail table text (valid x)
  pub refusal : (x : Refusal) → v ≡ Err x → 1 ≤ x.number

-- What the check of an entry promises.
use Rattle.std.specs.Prelude.{◌≡◌, ℕ, ◌+◌, ◌≤◌, ◌<◌, false, List, length, Option as Maybe, Some, None}
use Rattle.std.proofs.Math.Option.{none, some}
use Rattle.answers.specs.Ask.{Trail, lookup, value, run}
use Rattle.rules.specs.Bytes.{Text}
use Rattle.rules.specs.Sizes.{max_unresolved, max_room}
use Rattle.rules.specs.Values.{Answer}
use Rattle.rules.specs.Documents.{Setting, rule_of, count_of}
use Rattle.rules.specs.Sheet.{trail_size, trail_text_size}
use Rattle.rules.specs.Checking.{accepted}
use Rattle.theory_check.specs.Steps.{CheckAt, next_number}
use Rattle.sheet_kept.specs.Kept.{Held, named}
use Rattle.eval_writer.specs.declared.Out.{Out}
use Rattle.eval_store.specs.Values.Contracts.{Full}
use Rattle.eval_state.specs.Memories.{job_table, job_bytes}
use Rattle.eval_state.specs.State.{State}
use Rattle.eval_state.specs.Clauses.{Finished}
use Rattle.check_entries.specs.declared.Reached.{Reached}

-- ---- how far a sheet was found right

-- the entries S are right, and stand in memory
pub record Right (x : Setting) (key : ℕ → Text) (items : ℕ) (T B trail text : List ℕ) (at : Reached) (S : Trail Answer) : Type 0 where
  pub state : State x key items T B S
  pub check : CheckAt x trail text S
  pub used : at.used.0 ≡ trail_size S
  pub text-used : at.text.0 ≡ trail_text_size S

-- no sheet that begins with these parts is accepted
abbrev pub Refuted : Setting → (trail text : List ℕ) → Type 0
Refuted x trail text = (table : List ℕ) → accepted x trail table text ≡ false

abbrev pub CheckedBy : Setting → (ℕ → Text) → ℕ → (T B trail text : List ℕ) → Maybe Reached → Type 0
CheckedBy x key items T B trail text (Some at) = (S : Trail Answer) × Right x key items T B trail text at S
CheckedBy x key items T B trail text None = Refuted x trail text

-- what is reached is inside the parts, and further by an entry
abbrev pub Further : (trail text : List ℕ) → Reached → Maybe Reached → Type 0
Further trail text at (Some to) = (at.used.0 + 3 ≤ to.used.0) × (to.used.0 ≤ length trail) × (to.text.0 ≤ length text)
Further trail text at None = Unit {0}

-- ---- the next number

pub record NextAsked (trail : List ℕ) (used count : ℕ) : Type 0 where
  pub short : length trail ≤ max_room
  pub inside : used ≤ length trail
  pub few : count ≤ max_unresolved

-- the entry's number, which has no answer yet
pub record Open (x : Setting) (trail : List ℕ) (S : Trail Answer) (b : ℕ) : Type 0 where
  pub is : b ≡ next_number trail S
  pub new : lookup S b ≡ none
  pub inside : b < count_of x

abbrev pub NextBy : Setting → (trail text : List ℕ) → Trail Answer → Maybe ℕ → Type 0
NextBy x trail text S (Some b) = Open x trail S b
NextBy x trail text S None = Refuted x trail text

-- it is one of the document's, and three bytes are there
abbrev pub NextIn : (trail : List ℕ) (used count : ℕ) → Maybe ℕ → Type 0
NextIn trail used count (Some b) = (b < count) × (used + 3 ≤ length trail)
NextIn trail used count None = Unit {0}

pub record NextIs (T trail : List ℕ) (used count : ℕ) (r : Maybe ℕ) : Type 0 where
  pub is : (x : Setting) (key : ℕ → Text) (items : ℕ) (B text : List ℕ) (S : Trail Answer) → State x key items T B S → CheckAt x trail text S
      → used ≡ trail_size S → used < length trail → count ≡ count_of x → NextBy x trail text S r
  pub inside : NextIn trail used count r

-- ---- an answer

pub record AnswerAsked (T B room : List ℕ) (o : Out) (b : ℕ) (at : Reached) (trail text : List ℕ) : Type 0 where
  pub full : Full room o
  pub number : b < max_unresolved
  pub entry : at.used.0 + 3 ≤ length trail
  pub trail-short : length trail ≤ max_room
  pub texts : at.text.0 ≤ length text
  pub text-short : length text ≤ max_room
  pub table : job_table ≤ length T
  pub bytes : job_bytes ≤ length B

pub record AnswerIs (room : List ℕ) (o : Out) (b : ℕ) (at : Reached) (trail text T T' B B' : List ℕ) (r : Maybe Reached) : Type 0 where
  pub is : (x : Setting) (key : ℕ → Text) (items : ℕ) (S : Trail Answer) (v : Held) → Right x key items T B trail text at S → Open x trail S b
      → run (lookup S) (rule_of x b) ≡ value (some (named key v)) → Finished key items T room o v → CheckedBy x key items T' B' trail text r
  pub further : Further trail text at r

-- ---- undefined

pub record UndefinedAsked (T : List ℕ) (b : ℕ) (at : Reached) (trail : List ℕ) : Type 0 where
  pub number : b < max_unresolved
  pub entry : at.used.0 + 3 ≤ length trail
  pub short : length trail ≤ max_room
  pub table : job_table ≤ length T

pub record UndefinedIs (b : ℕ) (at : Reached) (trail T T' : List ℕ) (r : Maybe Reached) : Type 0 where
  pub is : (x : Setting) (key : ℕ → Text) (items : ℕ) (B text : List ℕ) (S : Trail Answer) → Right x key items T B trail text at S → Open x trail S b
      → run (lookup S) (rule_of x b) ≡ value none → CheckedBy x key items T' B trail text r
  pub further : (text : List ℕ) → at.text.0 ≤ length text → Further trail text at r

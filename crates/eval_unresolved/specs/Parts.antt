-- What the functions below `unresolved_value` promise.
use Rattle.std.specs.Prelude.{◌≡◌, ℕ, ◌+◌, ◌<◌, List, length, get_or}
use Rattle.answers.specs.Ask.{Trail, lookup, run}
use Rattle.rules.specs.Bytes.{Text}
use Rattle.rules.specs.Tree.{Pieces}
use Rattle.rules.specs.Values.{Answer}
use Rattle.rules.specs.Unresolved.{Unresolved}
use Rattle.rules.specs.Documents.{Setting, rule_of}
use Rattle.doc_items.specs.Room.{capacity, bytes_room}
use Rattle.eval_writer.specs.Clauses.{Room}
use Rattle.eval_state.specs.State.{State}
use Rattle.eval_value_laws.specs.Clauses.{Left}
use Rattle.eval_question_laws.specs.Clauses.{Asked, Questioned}
use Rattle.eval_results.specs.Sizes.Outcomes.{OutcomeWithin}
use Rattle.eval_results.specs.declared.sizes.Outcome.{Outcome}
use Rattle.eval_unresolved.specs.Clauses.{OutcomeCase}

-- ---- the outcome, where the pieces are such

pub record OutcomeFor (P : Pieces → Type 0) (T E : List ℕ) (base item : ℕ) (w w' B B' : List ℕ) (r : Outcome) (after : List ℕ) : Type 0 where
  pub left : Left base w w'
  pub bytes : length B' ≡ length B
  pub beside : (j d : ℕ) → j < bytes_room → get_or B' j d ≡ get_or B j d
  pub whole : Room after
  pub within : OutcomeWithin r
  pub is : (x : Setting) (key : ℕ → Text) (items : ℕ) (S : Trail Answer) (b : ℕ) (u : Unresolved) → Questioned x key items T B E S base item b u
      → P u.pieces → State x key items T B' S × OutcomeCase key items T after (run (lookup S) (rule_of x b)) r

-- ---- one piece alone

pub record SoleAsked (B E w room : List ℕ) (base item : ℕ) : Type 0 where
  pub asked : Asked B E w room base item
  pub piece : item + 1 < capacity

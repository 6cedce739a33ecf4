-- What working one unresolved value out promises.
use Rattle.std.specs.Prelude.{◌≡◌, ℕ, ◌<◌, true, List, length, get_or}
use Rattle.std.proofs.Math.Option.{none, some}
use Rattle.answers.specs.Ask.{Trail, lookup, run, value, missing}
use Rattle.rules.specs.Bytes.{Text}
use Rattle.rules.specs.Values.{Answer, within_size}
use Rattle.rules.specs.Settled.{Given}
use Rattle.rules.specs.Unresolved.{Unresolved}
use Rattle.rules.specs.Documents.{Setting, rule_of}
use Rattle.doc_items.specs.Room.{bytes_room}
use Rattle.sheet_kept.specs.Kept.{Held, named}
use Rattle.eval_writer.specs.Clauses.{Room}
use Rattle.eval_results.specs.declared.extents.Extent.{Extent}
use Rattle.eval_results.specs.Sizes.Outcomes.{OutcomeWithin}
use Rattle.eval_results.specs.declared.sizes.Outcome.{Outcome}
use Rattle.eval_state.specs.State.{State}
use Rattle.eval_state.specs.Clauses.{Finished}
use Rattle.eval_value_laws.specs.Clauses.{Left}
use Rattle.eval_concat.specs.Steps.Contracts.{RefusedWith}
pub use Rattle.eval_question_laws.specs.Clauses.{Asked, PiecesFit, Fits, Questioned}

-- ---- what is promised

-- a value that is in the room and may be kept
pub record ValueDone (key : ℕ → Text) (items : ℕ) (T room : List ℕ) (g : Given Answer) (e : Extent) : Type 0 where
  pub held : Held
  pub is : g ≡ value (some (named key held))
  pub finished : Finished key items T room e.out held
  pub within : within_size (named key held) ≡ true

abbrev pub OutcomeCase : (ℕ → Text) → ℕ → List ℕ → List ℕ → Given Answer → Outcome → Type 0
OutcomeCase key items T room g (Outcome.Done e) = ValueDone key items T room g e
OutcomeCase key items T room g Outcome.Undefined = g ≡ value none
OutcomeCase key items T room g (Outcome.Needs d) = g ≡ missing d
OutcomeCase key items T room g (Outcome.Refused number place) = RefusedWith g number place.0

-- The stack below base stays, and so does all that stands between two steps: of the bytes only those of the two objects that merge change,
-- and the room keeps its length.
pub record OutcomeIs (T E : List ℕ) (base item : ℕ) (w w' B B' : List ℕ) (r : Outcome) (after : List ℕ) : Type 0 where
  pub left : Left base w w'
  pub bytes : length B' ≡ length B
  pub beside : (j d : ℕ) → j < bytes_room → get_or B' j d ≡ get_or B j d
  pub whole : Room after
  pub within : OutcomeWithin r
  pub is : (x : Setting) (key : ℕ → Text) (items : ℕ) (S : Trail Answer) (b : ℕ) (u : Unresolved) → Questioned x key items T B E S base item b u
      → State x key items T B' S × OutcomeCase key items T after (run (lookup S) (rule_of x b)) r

-- What the beginning of resolve and check promises: the inputs are those of the rules, and a document that was read stands in the job's
-- memory as it does before the first step.
use Rattle.std.specs.Prelude.{Result, Ok, Err, ◌≡◌, Bool, List, [], ℕ, ◌+◌, ◌<◌, length}
use Rattle.std.proofs.Math.Option.{some}
use Rattle.rules.specs.Sizes.{max_unresolved}
use Rattle.rules.specs.Environment.{Variable, entries_of, text_of}
use Rattle.rules.specs.Documents.{Setting, valid, inputs, count_of}
use Rattle.doc_items.specs.Parts.{numbers}
use Rattle.text_chars.specs.declared.Refusal.{Refusal}
use Rattle.read_documents.specs.Clauses.{InputRefuses}
use Rattle.read_documents.specs.declared.Reading.{Reading}
use Rattle.eval_keys.specs.Columns.{key_text}
use Rattle.eval_state.specs.Memories.{begun_at}
use Rattle.eval_state.specs.State.{State}

-- nothing is answered and nothing is begun; the environment is the function of its entries
pub record Ready (others : Bool) (s e T B : List ℕ) (items : ℕ) (x : Setting) : Type 0 where
  pub read : inputs others s e ≡ valid x
  pub state : State x (key_text B T) items T B []
  pub unbegun : (b : ℕ) → b < max_unresolved → numbers T (begun_at + b) ≡ 0
  pub variables : (es : List Variable) × (entries_of e ≡ some es) × (x.environment ≡ text_of es)

abbrev pub TaskCase : Bool → List ℕ → List ℕ → List ℕ → List ℕ → Result Reading Refusal → Type 0
TaskCase others s e T B (Ok v) = (x : Setting) × Ready others s e T B v.items x × (v.unresolved ≡ count_of x)
TaskCase others s e T B (Err r) = InputRefuses (inputs others s e) r.number r.place

pub record TaskIs (others : Bool) (s e T B T' B' : List ℕ) (r : Result Reading Refusal) : Type 0 where
  pub is : TaskCase others s e T' B' r
  pub kept_table : length T' ≡ length T
  pub kept-bytes : length B' ≡ length B

-- What writing an array's elements promises.
use Rattle.std.specs.Prelude.{ℕ, ◌+◌, ◌≤◌, List, length}
use Rattle.std.proofs.Math.Option.{Option}
use Rattle.answers.specs.Ask.{value}
use Rattle.rules.specs.Bytes.{Text}
use Rattle.rules.specs.Sizes.{max_nesting, max_room}
use Rattle.rules.specs.Tree.{array, Elements}
use Rattle.rules.specs.Values.{Values, Answer, array_of, deepest_value}
use Rattle.rules.specs.Sheet.{texts}
use Rattle.rules.specs.Layers.{written, settled}
use Rattle.rules.specs.Settled.{elements_in, value_in}
use Rattle.doc_items.specs.Room.{sheet_at, trail_at}
use Rattle.sheet_kept.specs.Kept.{listed, Helds, named, named_all, kept}
use Rattle.sheet_kept.specs.Standing.{Stands}
use Rattle.eval_writer.specs.Clauses.{Room}
use Rattle.eval_writer.specs.Keys.{KeysIn}
use Rattle.eval_writer.specs.declared.Out.{Out}
use Rattle.eval_writer.specs.Copies.Contracts.{most_bytes}
use Rattle.eval_results.specs.Extents.Contracts.{NotPast}
use Rattle.eval_stack.specs.Model.{entries, Work}
use Rattle.eval_memory.specs.Keys.{KeyNumber, EachKey}
use Rattle.eval_results.specs.Values.Comes.{ElementsCome}
use Rattle.eval_results.specs.Values.Contracts.{MadeWithin}
use Rattle.eval_results.specs.declared.values.Made.{Made}
use Rattle.eval_state.specs.Memories.{job_bytes, answers_of}
use Rattle.eval_value_laws.specs.Clauses.{Left, LayerGiven}

pub record FinishedAsked (B : List ℕ) (o : Out) (room : List ℕ) : Type 0 where
  pub whole : Room room
  pub bytes : job_bytes ≤ length B
  pub most : length B ≤ most_bytes
  pub start : NotPast o

-- the array stands as kept among the answers
pub record FinishedIs (T B : List ℕ) (at : ℕ) (o : Out) (r : Made) (b a : List ℕ) : Type 0 where
  pub is : (key : ℕ → Text) (n : ℕ) (vs : Helds) (u : ℕ) → at ≤ max_room → deepest_value (named_all key vs) ≤ max_nesting → EachKey (KeyNumber T n) (listed vs)
      → KeysIn key T B (listed vs) → Stands B sheet_at (kept key u (listed vs)) (texts (named key (listed vs))) (trail_at + at) u
      → ElementsCome key (KeyNumber T n) (value (named_all key vs)) o r b a
  pub within : MadeWithin r

pub record ArrayAsked (B w : List ℕ) (top : ℕ) (o : Out) (room : List ℕ) : Type 0 where
  pub whole : Room room
  pub bytes : job_bytes ≤ length B
  pub most : length B ≤ most_bytes
  pub work : Work w
  pub used : top ≤ entries
  pub start : NotPast o

-- a layer that is an array, of the document or finished
pub record ArrayIs (T B : List ℕ) (top c : ℕ) (o : Out) (w w' : List ℕ) (r : Made) (b a : List ℕ) : Type 0 where
  pub left : Left top w w'
  pub within : MadeWithin r
  pub literal : (key : ℕ → Text) (items : ℕ) (known : ℕ → Option Answer) (d : ℕ) (es : Elements)
      → LayerGiven (answers_of key items T B) known top 65 d c (written (array es))
      → ElementsCome key (KeyNumber T (items + 1)) (elements_in known (value_in known d) es) o r b a
  pub finished : (key : ℕ → Text) (items : ℕ) (known : ℕ → Option Answer) (d : ℕ) (vs : Values)
      → LayerGiven (answers_of key items T B) known top 65 d c (settled (array_of vs))
      → ElementsCome key (KeyNumber T (items + 1)) (value vs) o r b a

-- A job's memory as the values' functions are lent it.
use Rattle.std.specs.Prelude.{ℕ, List}
use Rattle.rules.specs.Bytes.{Text}
use Rattle.rules.specs.Settled.{Given}
use Rattle.rules.specs.Values.{Values, Members, Answer}
use Rattle.eval_writer.specs.declared.Out.{Out}
use Rattle.eval_writer.specs.declared.Source.{Source}
use Rattle.eval_writer.specs.Copies.Sources.{records_of}
use Rattle.eval_memory.specs.Keys.{KeyNumber}
use Rattle.eval_memory.specs.Finished.{Memory}
use Rattle.eval_results.specs.Values.Comes.{Comes, ElementsCome, FieldsCome}
use Rattle.eval_results.specs.declared.values.Worked.{Worked}
use Rattle.eval_results.specs.declared.values.Made.{Made}

-- What the functions are not told: the text that a key's number names, how many items there are, how far the document's texts go, how many
-- answers stand among the source's values, and how far its records and texts go.
pub record Names : Type 0 where
  pub key : ℕ → Text
  pub items : ℕ
  pub ends : ℕ
  pub answered : ℕ
  pub filled : ℕ
  pub filled-text : ℕ

abbrev pub memory_of : List ℕ → List ℕ → Source → Names → Memory
memory_of T B src N = record {
  table = T;
  items = N.items;
  key = N.key;
  bytes = B;
  ends = N.ends;
  records-at = src.rec.0;
  texts-at = src.text.0;
  records = records_of B src;
  answered = N.answered;
  filled = N.filled;
  filled-text = N.filled-text;
}

-- the keys of what is made are the document's
module _ (M : Memory) where
  abbrev pub ValueComes : Given Answer → Out → Worked → List ℕ → List ℕ → Type 0
  ValueComes = Comes M.key (KeyNumber M.table M.items)

  abbrev pub ElementsMade : Given Values → Out → Made → List ℕ → List ℕ → Type 0
  ElementsMade = ElementsCome M.key (KeyNumber M.table M.items)

  abbrev pub FieldsMade : Given Members → Out → Made → List ℕ → List ℕ → Type 0
  FieldsMade = FieldsCome M.key (KeyNumber M.table M.items)

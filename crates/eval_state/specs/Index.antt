-- What the item of an unresolved value is.
use Rattle.std.specs.Prelude.{◌≡◌, ℕ, ◌<◌, List}
use Rattle.answers.specs.Ask.{Trail}
use Rattle.rules.specs.Bytes.{Text}
use Rattle.rules.specs.Values.{Answer}
use Rattle.rules.specs.Documents.{Setting, count_of}
use Rattle.doc_items.specs.Room.{capacity}
use Rattle.read_numbering.specs.Clauses.{item_of}
use Rattle.eval_state.specs.State.{State}

-- some item of the table, and of a document that was read the one that the index has
pub record ItemIs (T : List ℕ) (b r : ℕ) : Type 0 where
  pub is : (x : Setting) (key : ℕ → Text) (items : ℕ) (B : List ℕ) (S : Trail Answer) → State x key items T B S → b < count_of x → r ≡ item_of T b
  pub low : 0 < r
  pub high : r < capacity

-- What reading a document, and the inputs of a job, promises.
use Rattle.std.specs.Prelude.{Result, Ok, Err, ◌≡◌, ℕ, ◌+◌, ◌*◌, ◌≤◌, Bool, List, map, length}
use Rattle.std.proofs.Math.Option.{some}
use Rattle.rules.specs.Sizes.{max_document, max_items}
use Rattle.rules.specs.Refusals.{Refusal, number_of, place_of, Read, got, refused}
use Rattle.rules.specs.Environment.{Variable, entries_of, text_of}
use Rattle.rules.specs.Tree.{Root, root_node}
use Rattle.rules.specs.Unresolved.{Unresolved}
use Rattle.rules.specs.Documents.{Document, Setting, Input, valid, refused, read_tree, read_document, inputs, Rising}
use Rattle.doc_items.specs.Codes.{as_member, size_at}
use Rattle.doc_items.specs.Holds.{NodeAt}
use Rattle.doc_items.specs.Parts.{numbers, letters}
use Rattle.doc_items.specs.Room.{table_room}
use Rattle.read_numbering.specs.Clauses.{Indexed}
use Rattle.text_chars.specs.declared.DocAt.{DocAt}
use Rattle.text_chars.specs.declared.Refusal.{Refusal as Refused}
use Rattle.read_documents.specs.Trees.{TreeAt}
use Rattle.read_documents.specs.declared.Reading.{Reading}

-- an input is refused by this number at this place
abbrev pub InputRefuses : {A : Type 0} → Input A → ℕ → DocAt → Type 0
InputRefuses m k p = (x : Refusal) × (m ≡ refused x) × (k ≡ number_of x) × (p.0 ≡ place_of x)

-- how many items the rules counted
abbrev pub items_of : Read Root → ℕ
items_of (got r end items) = items
items_of (refused x) = 0

-- A document stands in memory: its tree from item 0 on, its unresolved values by their numbers, which are given in the order of their
-- first bytes. Of its items the root's is not counted.
pub record Stands (s table text : List ℕ) (items unresolved : ℕ) (d : Document) : Type 0 where
  pub root : NodeAt (numbers table) (letters 0 text) 0 (2 * length s) (λ m b. m ≡ b) as_member 0 (root_node d.root)
  pub whole : size_at (numbers table) 0 ≡ items + 1
  pub few : items ≤ max_items
  pub items-are : items ≡ items_of (read_tree s 1 0)
  pub unresolved-are : unresolved ≡ length d.unresolved
  pub index : Indexed table (items + 1) (letters 0 text) 0 (2 * length s) 0 d.unresolved
  pub order : Rising (map (λ (u : Unresolved). u.place) d.unresolved)

-- The paper's number and values of an answer: number 0 and place 0 where a document was read, no counts where it was refused. First of
-- the code's answer, then of what the rules read, with the items that they counted.
pub record Told : Type 0 where
  pub number : ℕ
  pub place : ℕ
  pub items : ℕ
  pub unresolved : ℕ

abbrev pub reading_told : Result Reading Refused → Told
reading_told (Ok v) = record { number = 0; place = 0; items = v.items; unresolved = v.unresolved }
reading_told (Err r) = record { number = r.number; place = r.place.0; items = 0; unresolved = 0 }

abbrev pub input_told : {A : Type 0} → (A → Document) → Input A → (items : ℕ) → Told
input_told f (valid a) items = record { number = 0; place = 0; items = items; unresolved = length (f a).unresolved }
input_told f (refused x) items = record { number = number_of x; place = place_of x; items = 0; unresolved = 0 }

-- what the rules read, and that it stands in memory
abbrev pub ReadAs : List ℕ → Input Document → List ℕ → List ℕ → Result Reading Refused → Type 0
ReadAs s m table text (Ok v) = (d : Document) × (m ≡ valid d) × Stands s table text v.items v.unresolved d
ReadAs s m table text (Err r) = InputRefuses m r.number r.place

-- the numbers of a tree that was read and stands in memory without them
pub record NumberTreeIs (s : List ℕ) (items : ℕ) (table table' : List ℕ) (r : Result Reading Refused) : Type 0 where
  pub is : (text : List ℕ) (root : Root) (end : ℕ) → read_tree s 1 0 ≡ got root end items → TreeAt s table text 0 items root
      → ReadAs s (read_document s) table' text r
  pub kept : length table' ≡ length table

pub record DocumentAsked (s table text : List ℕ) : Type 0 where
  pub short : length s ≤ max_document
  pub table-room : table_room ≤ length table
  pub text-room : 2 * length s ≤ length text

-- The answer is the rules', and where they read a document it stands in memory.
pub record DocumentIs (s table text table' text' : List ℕ) (r : Result Reading Refused) : Type 0 where
  pub answer : reading_told r ≡ input_told (λ d. d) (read_document s) (items_of (read_tree s 1 0))
  pub is : ReadAs s (read_document s) table' text' r
  pub kept_table : length table' ≡ length table
  pub kept-text : length text' ≡ length text

-- The inputs of a job. The environment is the function of its entries.
abbrev pub InputsAs : Bool → List ℕ → List ℕ → List ℕ → List ℕ → Result Reading Refused → Type 0
InputsAs others s e table text (Ok v) =
    (x : Setting) × (inputs others s e ≡ valid x) × Stands s table text v.items v.unresolved x.document
    × ((es : List Variable) × (entries_of e ≡ some es) × (x.environment ≡ text_of es))
InputsAs others s e table text (Err r) = InputRefuses (inputs others s e) r.number r.place

pub record InputsIs (others : Bool) (s e table text table' text' : List ℕ) (r : Result Reading Refused) : Type 0 where
  pub answer : reading_told r ≡ input_told (λ x. x.document) (inputs others s e) (items_of (read_tree s 1 0))
  pub is : InputsAs others s e table' text' r
  pub kept_table : length table' ≡ length table
  pub kept-text : length text' ≡ length text

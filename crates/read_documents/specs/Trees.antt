-- What reading the root promises.
use Rattle.std.specs.Prelude.{Result, Ok, Err, ◌≡◌, ℕ, ◌+◌, ◌*◌, ◌-◌, ◌≤◌, List, length}
use Rattle.rules.specs.Sizes.{max_document, max_items}
use Rattle.rules.specs.Refusals.{number_of, place_of, Read, got, refused}
use Rattle.rules.specs.Characters.{after_gap}
use Rattle.rules.specs.Tree.{Root, root_node}
use Rattle.rules.specs.Reading.{root_at, read_root}
use Rattle.rules.specs.Documents.{read_tree}
use Rattle.text_chars.specs.declared.Refusal.{Refusal}
use Rattle.doc_items.specs.Codes.{width, unresolved_item}
use Rattle.doc_items.specs.Holds.{NodeAt, Shown}
use Rattle.doc_items.specs.Parts.{numbers, letters}
use Rattle.read_cycle.specs.Clauses.{nesting_in_root, Free}
use Rattle.read_grammar.specs.Limits.Limits.{nesting_of}
use Rattle.read_values.specs.Pieces.Pieces.{Refuses}
use Rattle.read_values.specs.declared.pieces.Listed.{Listed}
use Rattle.read_documents.specs.declared.Counters.{Counters}

-- ---- the root and what stands behind it

-- the root as the rules read it, after so many items, with all of its own behind the first of the table
module _ (s : List ℕ) (left items : ℕ) (table text : List ℕ) where
  abbrev pub Outline : ℕ → Result Listed Refusal → Type 0
  Outline kind (Ok v) =
      (root : Root) × (root_at s (nesting_of left) (after_gap s 0) items ≡ got root v.next.at.0 v.items)
      × Shown (numbers table) (letters 0 text) 0 (2 * length s) Free 0 kind 0 0 0 1 (v.items - items + 1) (root_node root)
  Outline kind (Err e) = Refuses (root_at s (nesting_of left) (after_gap s 0) items) e.number e.place

abbrev pub Ends : List ℕ → ℕ → Result Listed Refusal → Type 0
Ends s items (Ok v) = (v.next.at.0 ≤ length s) × (items ≤ v.items) × (v.items ≤ max_items)
Ends s items (Err e) = Unit {0}

pub record PutRootAsked (s table : List ℕ) (kind items : ℕ) (r : Result Listed Refusal) : Type 0 where
  pub short : length s ≤ max_document
  pub room : width ≤ length table
  pub small : kind ≤ unresolved_item
  pub ends : Ends s items r

-- a tree in memory: the root's item is 0, and all items that were counted stand inside it
pub record TreeAt (s table text : List ℕ) (items n : ℕ) (root : Root) : Type 0 where
  pub more : items ≤ n
  pub few : n ≤ max_items
  pub shown : NodeAt (numbers table) (letters 0 text) 0 (2 * length s) Free 0 0 (root_node root)
  pub whole : numbers table 1 ≡ n - items + 1

module _ (s : List ℕ) (left items : ℕ) (table text : List ℕ) where
  abbrev pub Rooted : Result Listed Refusal → Type 0
  Rooted (Ok v) =
      (root : Root) × (read_root s (nesting_of left) items ≡ got root v.next.at.0 v.items) × TreeAt s table text items v.items root
  Rooted (Err e) = Refuses (read_root s (nesting_of left) items) e.number e.place

pub record PutRootIs (s : List ℕ) (kind items : ℕ) (r : Result Listed Refusal) (table table' : List ℕ) (q : Result Listed Refusal) : Type 0 where
  pub is : (left : ℕ) (text : List ℕ) → Outline s left items table text kind r → Rooted s left items table' text q
  pub kept : length table' ≡ length table

-- ---- the root whole

-- the root's item, and room for all items that may come
pub record ScratchAsked (s : List ℕ) (at left items : ℕ) (table text : List ℕ) : Type 0 where
  pub short : length s ≤ max_document
  pub inside : at ≤ length s
  pub nested : left ≤ nesting_in_root
  pub few : items ≤ max_items
  pub table-room : width * (max_items + 2) ≤ length table + width * items
  pub text-room : 2 * length s ≤ length text

pub record RootIs (s : List ℕ) (left items : ℕ) (table text table' text' : List ℕ) (r : Result Listed Refusal) : Type 0 where
  pub is : Rooted s left items table' text' r
  pub kept_table : length table' ≡ length table
  pub kept-text : length text' ≡ length text

-- ---- a document's tree

-- The paper's number and values of an answer: number 0 and place 0 where a tree was read, no counters where it was refused. First of the
-- code's answer, then of what the rules read after so many items. As many nestings are left as before, since all that were opened are closed.
pub record TreeTold : Type 0 where
  pub number : ℕ
  pub place : ℕ
  pub left : ℕ
  pub items : ℕ

abbrev pub tree_told : Result Counters Refusal → TreeTold
tree_told (Ok c) = record { number = 0; place = 0; left = c.left; items = c.items }
tree_told (Err e) = record { number = e.number; place = e.place.0; left = 0; items = 0 }

abbrev pub read_told : (left : ℕ) → Read Root → TreeTold
read_told left (got root end items) = record { number = 0; place = 0; left = left; items = items }
read_told left (refused x) = record { number = number_of x; place = place_of x; left = 0; items = 0 }

-- what the rules read, and that it stands in memory
abbrev pub TreeAs : List ℕ → Counters → List ℕ → List ℕ → Result Counters Refusal → Type 0
TreeAs s c table text (Ok d) =
    (root : Root) × (end : ℕ) × (read_tree s (nesting_of c.left) c.items ≡ got root end d.items) × (d.left ≡ c.left)
    × TreeAt s table text c.items d.items root
TreeAs s c table text (Err e) = Refuses (read_tree s (nesting_of c.left) c.items) e.number e.place

pub record TreeIs (s : List ℕ) (c : Counters) (table text table' text' : List ℕ) (r : Result Counters Refusal) : Type 0 where
  pub answer : tree_told r ≡ read_told c.left (read_tree s (nesting_of c.left) c.items)
  pub is : TreeAs s c table' text' r
  pub kept_table : length table' ≡ length table
  pub kept-text : length text' ≡ length text

-- What the pass over the items says of a document. The items stand from 0 on, up to the table's capacity; the index from number to item
-- stands behind them.
use Rattle.std.specs.Prelude.{Result, Ok, Err, ◌≡◌, ℕ, suc, ◌+◌, ◌*◌, ◌≤◌, ◌<◌, List, [], ◌∷◌, ◌⊎◌, length, set}
use Rattle.std.proofs.Math.Option.{none, some}
use Rattle.std.proofs.Math.ListN.{get_elem?}
use Rattle.rules.specs.Sizes.{max_unresolved, max_path}
use Rattle.rules.specs.Tree.{Substitution, Pieces, no_pieces, node_piece, substituted, Root, root_node, number_root, AllNode}
use Rattle.rules.specs.Unresolved.{Unresolved, unresolved_in}
use Rattle.doc_items.specs.Codes.{unresolved_item, as_member, width, kind_at, place_at, number_at, next_at, size_at}
use Rattle.doc_items.specs.Room.{index_at}
use Rattle.doc_items.specs.Holds.{NodeAt, PiecesAt}
use Rattle.doc_items.specs.Joining.{Simples}
use Rattle.doc_items.specs.Parts.{numbers}
use Rattle.text_chars.specs.declared.Refusal.{Refusal}

-- ---- steps

-- an item's number, and the item of that number
pub record GiveIs (i number : ℕ) (before after : List ℕ) : Type 0 where
  pub is : after ≡ set (set before (width * i + 7) number) (index_at + number) i

-- one item: left alone; or numbered; or one too many
abbrev pub Step : (i count : ℕ) (before after : List ℕ) → Result ℕ Refusal → Type 0
Step i count before after (Ok c) =
    ((kind_at (numbers before) i ≡ unresolved_item → ⊥) × (c ≡ count) × (after ≡ before))
    ⊎ ((kind_at (numbers before) i ≡ unresolved_item) × (count < max_unresolved) × (c ≡ count + 1) × GiveIs i count before after)
Step i count before after (Err e) =
    (kind_at (numbers before) i ≡ unresolved_item) × (count ≡ max_unresolved) × (e.number ≡ 8) × (e.place.0 ≡ place_at (numbers before) (i + 1))
    × (after ≡ before)

pub record ItemIs (i count : ℕ) (before after : List ℕ) (r : Result ℕ Refusal) : Type 0 where
  pub same : length after ≡ length before
  pub is : Step i count before after r

-- ---- documents

abbrev pub Filled : Pieces → Type 0
Filled no_pieces = ⊥
Filled (node_piece place gap n ps) = Unit {0}
Filled (substituted gap x ps) = Unit {0}

-- the path of a substitution has one element at least, and no more than document 01 allows
abbrev pub PathFits : Substitution → Type 0
PathFits x = (0 < length x.path) × (length x.path ≤ max_path)

abbrev pub PathsFit : Pieces → Type 0
PathsFit no_pieces = Unit {0}
PathsFit (node_piece place gap n ps) = PathsFit ps
PathsFit (substituted gap x ps) = PathFits x × PathsFit ps

-- the pieces of an unresolved value that was read: there is one at least, none is unresolved itself, and paths are as long as they may be
abbrev pub AsRead : ℕ → Pieces → Type 0
AsRead b ps = Filled ps × Simples ps × PathsFit ps

-- a tree as it was read: the root's item is 0, and all items stand inside it; their numbers say nothing yet
pub record WithoutNumbers (before : List ℕ) (items : ℕ) (h : ℕ → ℕ) (lo hi : ℕ) (root : Root) : Type 0 where
  pub shown : NodeAt (numbers before) h lo hi (λ m b. Unit {0}) as_member 0 (root_node root)
  pub whole : size_at (numbers before) 0 ≡ items
  pub read : AllNode AsRead (root_node root)

-- the item that the index has for a number
abbrev pub item_of : (after : List ℕ) (number : ℕ) → ℕ
item_of after b = numbers after (index_at + b)

module _ (after : List ℕ) (items : ℕ) (h : ℕ → ℕ) (lo hi : ℕ) where
  -- the unresolved value numbered b, by the item that the index has for b
  pub record ItemOf (b : ℕ) (u : Unresolved) : Type 0 where
    pub inside : item_of after b < items
    pub kind : kind_at (numbers after) (item_of after b) ≡ unresolved_item
    pub number : number_at (numbers after) (item_of after b) ≡ b
    pub place : u.place ≡ place_at (numbers after) (item_of after b + 1)
    pub pieces : PiecesAt (numbers after) h lo hi (λ m c. m ≡ c) (item_of after b + 1) (next_at (numbers after) (item_of after b)) u.pieces

  -- the unresolved values of a list, numbered from b on
  abbrev pub Indexed : (b : ℕ) → List Unresolved → Type 0
  Indexed b [] = Unit {0}
  Indexed b (u ∷ us) = ItemOf b u × Indexed (suc b) us

  -- the items of a tree have the numbers of its unresolved values, and the index has their items
  pub record WithNumbers (c : ℕ) (root : Root) : Type 0 where
    pub count : c ≡ length (unresolved_in root)
    pub few : get_elem? (unresolved_in root) max_unresolved ≡ none
    pub shown : NodeAt (numbers after) h lo hi (λ m b. m ≡ b) as_member 0 (root_node root)
    pub indexed : Indexed 0 (unresolved_in root)
    pub whole : size_at (numbers after) 0 ≡ items

  abbrev pub CountIs : Result ℕ Refusal → Root → Type 0
  CountIs (Ok c) root = WithNumbers c root
  CountIs (Err e) root = (u : Unresolved) × (get_elem? (unresolved_in root) max_unresolved ≡ some u) × (e.number ≡ 8) × (e.place.0 ≡ u.place)

pub record NumberIs (before : List ℕ) (items : ℕ) (after : List ℕ) (r : Result ℕ Refusal) : Type 0 where
  pub same : length after ≡ length before
  pub is : (root : Root) (h : ℕ → ℕ) (lo hi : ℕ) → WithoutNumbers before items h lo hi root
      → CountIs after items h lo hi r (number_root root)

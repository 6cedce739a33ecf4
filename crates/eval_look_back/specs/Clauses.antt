-- What the code promises. No contract asks that the table holds a document: where it does not, a walk ends all the same.
use Rattle.std.specs.Prelude.{◌≡◌, ℕ, ◌+◌, ◌≤◌, ◌<◌, Bool, true, false, List, [], eqb, get_or, length, drop}
use Rattle.std.proofs.Math.Option.{none, some}
use Rattle.rules.specs.Bytes.{Text, same}
use Rattle.rules.specs.Tree.{Fields, Root, root_node}
use Rattle.doc_items.specs.Codes.{unresolved_item, as_member, as_piece, kind_at, size_at, key_at, keylen_at, number_at}
use Rattle.doc_items.specs.Holds.{TextAt}
use Rattle.doc_items.specs.Parts.{numbers}
use Rattle.theory_back.specs.Numbers.{FromNode}
use Rattle.theory_back.specs.LookBack.{Left, onward}
use Rattle.theory_back.specs.Passes.{below_one, looks_back}
use Rattle.eval_keys.specs.Columns as columns
use Rattle.eval_look_back.specs.Ranges.{NodeIn, FieldsIn}
use Rattle.eval_root_index.specs.Links.{Follows, Rises}
use Rattle.eval_look_back.specs.Passing.{Spans}
use Rattle.eval_look_back.specs.Steps.{On}
use Rattle.eval_look_back.specs.Roots.{spanning, FirstFields}

-- ---- the field around an item

-- whatever fields stand behind the literal's item, up to an end behind the other item
pub record AroundIs (T : List ℕ) (literal item r : ℕ) : Type 0 where
  pub past : literal < r
  pub upto : r ≤ item
  pub is : (h : ℕ → ℕ) (lo hi bound end : ℕ) (fs : Fields) → FieldsIn (numbers T) h lo hi bound (literal + 1) end fs → item < end
      → kind_at (numbers T) item ≡ unresolved_item → Spans (numbers T) h lo hi bound (literal + 1) end fs item r

-- the root's field with a key's number that is around an item, where the links from the key's first field on are the fields js
pub record RootAroundIs (T : List ℕ) (k item r : ℕ) : Type 0 where
  pub upto : r ≤ item
  pub is : (js : List ℕ) → Follows (columns.next_at T) (columns.first_at T k) js → Rises 1 js → r ≡ spanning (numbers T) item js

-- ---- a path by the key numbers of its elements

pub record HasKeyIs (keys : List ℕ) (count key : ℕ) (r : Bool) : Type 0 where
  pub there : r ≡ true → (i : ℕ) × (i < count) × (get_or keys i 0 ≡ key)
  pub absent : r ≡ false → (i : ℕ) → i < count → get_or keys i 0 ≡ key → ⊥

-- A number stands for a text: a field has it exactly if its key is the text. It is asked of no piece and not of the root's item, which have the
-- number 0 of a text that is no field's key.
abbrev pub Tells : (T : List ℕ) (h : ℕ → ℕ) (lo hi k : ℕ) (t : Text) → Type 0
Tells T h lo hi k t =
    (at : ℕ) (u : Text) → 0 < at → at < size_at (numbers T) 0 → kind_at (numbers T) at < as_piece
    → TextAt h lo hi (key_at (numbers T) at) (keylen_at (numbers T) at) u → eqb (columns.key_at T at) k ≡ same u t

-- the numbers of a path's elements; from the first one's on the root's fields with that key are linked
pub record PathIs (T keys : List ℕ) (count : ℕ) (h : ℕ → ℕ) (lo hi bound : ℕ) (root : Root) (p : List Text) : Type 0 where
  pub long : count ≡ length p
  pub tells : (i : ℕ) → i < length p → Tells T h lo hi (get_or keys i 0) (get_or p i [])
  pub first : 0 < length p → FirstFields T (get_or keys 0 0) h lo hi bound (get_or p 0 []) root

-- ---- look-back

-- a document's items, with an unresolved value at an item
pub record AskedAt (T : List ℕ) (item : ℕ) (h : ℕ → ℕ) (lo hi bound : ℕ) (root : Root) : Type 0 where
  pub shown : NodeIn (numbers T) h lo hi bound as_member 0 (root_node root)
  pub from : FromNode 0 (root_node root)
  pub kind : kind_at (numbers T) item ≡ unresolved_item
  pub inside : item < size_at (numbers T) 0

-- how many elements the open field's path has, if the path looks back; else 0
abbrev pub own_of : Left ℕ → ℕ
own_of none = 0
own_of (some s) = s.1

-- at an item on the way, so many elements having been found equal
pub record Going (T keys : List ℕ) (count item literal i : ℕ) : Type 0 where
  pub low : literal < item
  pub is : (h : ℕ → ℕ) (lo hi bound : ℕ) (root : Root) (p : List Text) (a : AskedAt T item h lo hi bound root) → PathIs T keys count h lo hi bound root p
      → On (numbers T) h lo hi bound item a.kind none (onward below_one) (looks_back root p (number_at (numbers T) item)) (some (drop i p, i)) literal

pub record LooksBackIs (T keys : List ℕ) (count item r : ℕ) : Type 0 where
  pub is : (h : ℕ → ℕ) (lo hi bound : ℕ) (root : Root) (p : List Text) → AskedAt T item h lo hi bound root
      → PathIs T keys count h lo hi bound root p → r ≡ own_of (looks_back root p (number_at (numbers T) item))

-- What the decisions about the root promise: each gives the rules' root, whatever the nesting and the count of items are.
use Rattle.std.specs.Prelude.{Result, Ok, Err, ◌≡◌, ℕ, ◌≤◌, true, List, length}
use Rattle.rules.specs.Refusals.{placed, Read, got, refused, read_then}
use Rattle.rules.specs.Characters.{after_gap}
use Rattle.rules.specs.Tree.{Root, fields, elements}
use Rattle.rules.specs.Reading.{array_at, object_at, root_at, read_root, value_in}
use Rattle.text_chars.specs.declared.Cursor.{Cursor}
use Rattle.text_chars.specs.declared.Refusal.{Refusal}
use Rattle.read_grammar.specs.Decisions.{closes}
use Rattle.read_grammar.specs.declared.roots.Opening.{Opening}

-- ---- the root

-- what the rules read as the root's fields, or elements
abbrev pub fields_from : (closing : ℕ) (s : List ℕ) (nesting at items : ℕ) → Read Root
fields_from closing s nesting at items = read_then (object_at (value_in s) closing s nesting at items) (λ fs end n. got (fields fs) end n)

abbrev pub elements_from : (s : List ℕ) (nesting at items : ℕ) → Read Root
elements_from s nesting at items = read_then (array_at (value_in s) s nesting at items) (λ es end n. got (elements es) end n)

abbrev pub Opens : List ℕ → Opening → Type 0
Opens s (Opening.Object c closing) =
    (closes closing ≡ true) × (c.at.0 ≤ length s)
    × ((nesting items : ℕ) → root_at s nesting (after_gap s 0) items ≡ fields_from closing s nesting c.at.0 items)
Opens s (Opening.Array c) =
    (c.at.0 ≤ length s) × ((nesting items : ℕ) → root_at s nesting (after_gap s 0) items ≡ elements_from s nesting c.at.0 items)

pub record OpeningIs (s : List ℕ) (r : Opening) : Type 0 where
  pub is : Opens s r

-- ---- what stands behind it

-- the rules' reading of a root that ends at a place, after so many items
abbrev pub Whole : (s : List ℕ) (at : ℕ) (m : Root → ℕ → Read Root) → Type 0
Whole s at m = (nesting items : ℕ) (root : Root) (n : ℕ) → root_at s nesting (after_gap s 0) items ≡ got root at n
    → read_root s nesting items ≡ m root n

abbrev pub Ends : List ℕ → ℕ → Result Cursor Refusal → Type 0
Ends s at (Ok c) = Whole s at (λ root n. got root c.at.0 n)
Ends s at (Err e) = (e.number ≡ 3) × Whole s at (λ root n. refused (placed 3 e.place.0))

pub record EndingIs (s : List ℕ) (at : ℕ) (r : Result Cursor Refusal) : Type 0 where
  pub is : Ends s at r

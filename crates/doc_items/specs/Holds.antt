-- How a document stands in memory. Its tree is a table of items in preorder, eight numbers an item; its texts stand in a text part, each
-- at twice the place in the document that it was read from.
--   0 kind      1 null, 2 false, 3 true, 4 number, 5 string, 6 array, 7 object, 8 unresolved; of a piece 16 more, where a required
--               substitution is 9 and an optional one 10
--   1 size      how many items it has with those inside it: the next sibling is so many further, the first child is the next item
--   2, 3        offset and size of a text: a field's key; the whitespace before a piece
--   4, 5        offset and size of its text; of a substitution that of its path's elements
--   6 place     of the key's element, or of the piece, in the document
--   7 number    of an unresolved value; of a substitution how many elements its path has
-- An item is a field, an element or a piece. A value's pieces stand behind its field or element, of a resolved value too: there those of
-- an array or an object only part its members, and those of a simple value are passed over.
use Rattle.std.specs.Prelude.{◌≡◌, ℕ, ◌+◌, ◌*◌, ◌≤◌, ◌<◌, [], ◌∷◌, length}
use Rattle.rules.specs.Bytes.{Text}
use Rattle.rules.specs.Pieces.{scalar_text}
use Rattle.rules.specs.Tree.{Substitution, Node, simple, array, object, unresolved, Elements, no-elements, element, Fields, no_fields, field, Pieces, no_pieces, node_piece, substituted}
use Rattle.doc_items.specs.Codes.{code_of, reference_code, array_item, object_item, unresolved_item, as_member, as_piece, kind_at, size_at, key_at, keylen_at, text_at, textlen_at, place_at, number_at, next_at, path_texts, path_bytes}

-- the bytes from an offset on
abbrev pub Spells : (h : ℕ → ℕ) (offset : ℕ) (text : Text) → Type 0
Spells h o [] = Unit {0}
Spells h o (b ∷ bs) = (h o ≡ b) × Spells h (o + 1) bs

-- a text at an offset, inside given bounds
pub record TextAt (h : ℕ → ℕ) (lo hi o z : ℕ) (t : Text) : Type 0 where
  pub from : lo ≤ o
  pub upto : o + z ≤ hi
  pub size : z ≡ length t
  pub bytes : Spells h o t

-- g gives the table's numbers, h the text part's bytes; all texts stand from lo up to hi. N says how the number of an item and that of an
-- unresolved value go together: while a document is read they do not.
module _ (g h : ℕ → ℕ) (lo hi : ℕ) (N : ℕ → ℕ → Type 0) where
  -- the items from one up to another are pieces that part members
  abbrev pub Seams : (from to : ℕ) → Type 0
  Seams i j = (i ≤ j) × ((k : ℕ) → i ≤ k → k < j → as_piece ≤ kind_at g k)

  -- an item with those inside it, no further than the end
  abbrev pub Sized : (item end : ℕ) → Type 0
  Sized i end = (1 ≤ size_at g i) × (next_at g i ≤ end)

  -- a substitution whose item has the kind k, the path's texts at o of size z and the number m
  pub record ReferenceAt (k o z m : ℕ) (x : Substitution) : Type 0 where
    pub kind : k ≡ as_piece + reference_code x.optional
    pub count : m ≡ length x.path
    pub size : z ≡ length (path_texts x.path)
    pub path : TextAt h lo hi o (z + 2 * m) (path_bytes x.path)

  abbrev mutual
    -- a node by the numbers of its item, which is a member or a piece by its role, and by the items inside it, from the first up to the end
    pub Shown : (role kind text textlen number first end : ℕ) → Node → Type 0
    Shown role k o z m i end (simple x) = (k ≡ role + code_of x) × TextAt h lo hi o z (scalar_text x) × Seams i end
    Shown role k o z m i end (array es) = (k ≡ role + array_item) × ElementsAt i end es
    Shown role k o z m i end (object fs) = (k ≡ role + object_item) × FieldsAt i end fs
    Shown role k o z m i end (unresolved b ps) = (k ≡ role + unresolved_item) × N m b × PiecesAt i end ps

    -- elements, of which j is the first one's item
    pub ElementsAt : (first end : ℕ) → Elements → Type 0
    ElementsAt i end no-elements = Seams i end
    ElementsAt i end (element n es) =
        (j : ℕ) × Seams i j × Sized j end
        × Shown as_member (kind_at g j) (text_at g j) (textlen_at g j) (number_at g j) (j + 1) (next_at g j) n
        × ElementsAt (next_at g j) end es

    -- fields, of which j is the first one's item
    pub FieldsAt : (first end : ℕ) → Fields → Type 0
    FieldsAt i end no_fields = Seams i end
    FieldsAt i end (field key n fs) =
        (j : ℕ) × Seams i j × Sized j end
        × TextAt h lo hi (key_at g j) (keylen_at g j) key.text
        × (place_at g j ≡ key.place)
        × Shown as_member (kind_at g j) (text_at g j) (textlen_at g j) (number_at g j) (j + 1) (next_at g j) n
        × FieldsAt (next_at g j) end fs

    -- pieces, one behind the other from item i on
    pub PiecesAt : (first end : ℕ) → Pieces → Type 0
    PiecesAt i end no_pieces = i ≡ end
    PiecesAt i end (node_piece place gap n ps) =
        Sized i end
        × TextAt h lo hi (key_at g i) (keylen_at g i) gap
        × (place_at g i ≡ place)
        × Shown as_piece (kind_at g i) (text_at g i) (textlen_at g i) (number_at g i) (i + 1) (next_at g i) n
        × PiecesAt (next_at g i) end ps
    PiecesAt i end (substituted gap x ps) =
        Sized i end
        × TextAt h lo hi (key_at g i) (keylen_at g i) gap
        × (place_at g i ≡ x.place)
        × ReferenceAt (kind_at g i) (text_at g i) (textlen_at g i) (number_at g i) x
        × (size_at g i ≡ 1)
        × PiecesAt (next_at g i) end ps

  -- the node of an item
  abbrev pub NodeAt : (role item : ℕ) → Node → Type 0
  NodeAt role i n = Shown role (kind_at g i) (text_at g i) (textlen_at g i) (number_at g i) (i + 1) (next_at g i) n

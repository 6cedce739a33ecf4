-- How the elements of a key are held while its field is read: their texts in the text part, their ends and places in a table of marks.
use Rattle.std.specs.Prelude.{◌≡◌, ℕ, suc, ◌+◌, ◌*◌, ◌≤◌, List, [], ◌∷◌, length, get_or}
use Rattle.std.proofs.Math.Seq.{slice}
use Rattle.rules.specs.Sizes.{max_document}
use Rattle.rules.specs.Tree.{Key}

-- the keys from index i on: the text of each stands behind that of the one before, from an offset on; the end and the place of each are
-- marked, and no place is past the longest document
abbrev pub HeldKeys : (from index : ℕ) → List Key → (text marks : List ℕ) → Type 0
HeldKeys from i [] text marks = Unit {0}
HeldKeys from i (k ∷ ks) text marks =
    (slice from (from + length k.text) text ≡ k.text)
    × (get_or marks (2 * i) 0 ≡ from + length k.text)
    × (get_or marks (2 * i + 1) 0 ≡ k.place)
    × (k.place ≤ max_document)
    × HeldKeys (from + length k.text) (suc i) ks text marks

-- the length of all texts
abbrev pub key_sizes : List Key → ℕ
key_sizes [] = 0
key_sizes (k ∷ ks) = length k.text + key_sizes ks

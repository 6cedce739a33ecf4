-- What the code computes, on the bytes that it has. Nothing is assumed of them.
use Rattle.std.specs.Prelude.{ℕ, ◌+◌, ◌*◌, cond, List, [], ◌∷◌, length, get_or, take, drop, leb}
use Rattle.std.proofs.lemmas.List.Edits.{sets}
use Rattle.sheet_kept.specs.InTurn.{Word}

-- a text that does not lie in the bytes is none
unfoldable pub word_at : List ℕ → ℕ → ℕ → List ℕ
word_at from at n = cond (leb (at + n) (length from)) (take n (drop at from)) []

-- a text is stored whole or not at all
unfoldable pub whole : List ℕ → ℕ → Word → List ℕ
whole l i w = cond (leb (i + w.0) (length l)) (sets l i w.1) l

-- texts one behind the other
unfoldable pub puts : List ℕ → ℕ → List Word → List ℕ
unfolding whole
puts l i [] = l
puts l i (w ∷ ws) = puts (whole l i w) (i + w.0) ws

-- the text of an item's key: where it stands, and how long it is
abbrev pub key_at : List ℕ → ℕ → ℕ
key_at table k = get_or table (8 * k + 2) 0

abbrev pub key_len : List ℕ → ℕ → ℕ
key_len table k = get_or table (8 * k + 3) 0

-- What has no room is left out: bytes of records one by one, a text as a whole.
use Rattle.std.specs.Prelude.{◌≡◌, refl, ℕ, [], ◌∷◌}
use Rattle.std.proofs.lemmas.List.Edits.{sets}
use Rattle.eval_writer.specs.Model.{word_at, puts}

-- the record of the number 12 at the end of a room for six bytes
records-left-out : sets {A = ℕ} (0 ∷ 0 ∷ 0 ∷ 0 ∷ 0 ∷ 0 ∷ []) 3 (4 ∷ 0 ∷ 1 ∷ 0 ∷ 2 ∷ []) ≡ 0 ∷ 0 ∷ 0 ∷ 4 ∷ 0 ∷ 1 ∷ []
records-left-out = refl

-- of two texts the second has no room
text-left-out : puts (0 ∷ 0 ∷ 0 ∷ []) 1 ((1, 97 ∷ []) ∷ (2, 49 ∷ 50 ∷ []) ∷ []) ≡ 0 ∷ 97 ∷ 0 ∷ []
unfolding puts
text-left-out = refl

-- a text that does not lie in the bytes is none
no-such-text : word_at (97 ∷ 98 ∷ []) 1 2 ≡ []
unfolding word_at
no-such-text = refl

-- Decisions on a few numbers. Item 1 stands at place 6 of the document, and two bytes of whitespace are before it.
use Rattle.std.specs.Prelude.{◌≡◌, refl, ℕ, List, [], ◌∷◌, Ok, Err}
use Rattle.text_chars.specs.Cursor.{doc, refusal}
use Rattle.eval_concat.specs.Model.{too_large_c, extent_at, join, text_join, blank_join, text_c, nothing_c, members_c, out}
use Rattle.eval_concat.specs.declared.Kind.{Kind}
use Rattle.eval_concat.specs.declared.Join.{Join}

abbrev table : List ℕ
table = 0 ∷ 0 ∷ 0 ∷ 0 ∷ 0 ∷ 0 ∷ 0 ∷ 0 ∷ 0 ∷ 0 ∷ 0 ∷ 2 ∷ 0 ∷ 0 ∷ 6 ∷ 0 ∷ []

-- an array of one number
abbrev one_element : Join
one_element = join (Kind.Array 1) (extent_at 8 1 1)

-- document 01's case 10: `a=[1] 5`
kinds-mixed : text_c table 1 1 one_element ≡ Err (refusal 11 (doc 6))
unfolding text_c
kinds-mixed = refl

-- a piece over its size is 13, whatever the join is
size-before-kind : text_c table 1 16385 one_element ≡ Err too_large_c
unfolding text_c
size-before-kind = refl

-- the whitespace counts in a string, and not in an array
whitespace-counts : (text_c table 1 16382 (text_join 0) ≡ Ok (text_join 16384)) × (text_c table 1 16383 (text_join 0) ≡ Err too_large_c)
unfolding text_c
whitespace-counts = (refl, refl)

undefined-in-array : nothing_c table 1 one_element ≡ Ok one_element
unfolding nothing_c
undefined-in-array = refl

-- whitespace alone is never too large
whitespace-alone : nothing_c table 1 (blank_join 16384) ≡ Ok (blank_join 16386)
unfolding nothing_c
whitespace-alone = refl

-- two arrays: the head counts once in the join, and in each piece
arrays-joined : members_c table 1 one_element (out 8 1) 2 (extent_at 18 3 0) ≡ Ok (join (Kind.Array 3) (extent_at 18 3 1))
unfolding members_c
arrays-joined = refl

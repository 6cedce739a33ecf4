-- What the code computes, on the bytes that it has. Nothing is assumed of them.
use Rattle.std.specs.Prelude.{ℕ, zero, suc, ◌+◌, ◌-◌, ◌*◌, ◌/◌, ◌%◌, cond, List, [], ◌∷◌, get_or, ltb, leb, eqb}
use Rattle.sheet_forms.specs.declared.Form.{Form}
use Rattle.sheet_forms.specs.declared.Shape.{Shape}
use Rattle.sheet_forms.specs.declared.Record.{Record}

unfoldable pub shape_of : ℕ → Shape
shape_of b = cond (ltb b 4) Shape.Plain (cond (ltb b 6) Shape.Word (cond (ltb b 8) Shape.Head (cond (eqb b 8) Shape.Key Shape.Plain)))

-- two bytes as a number, 0 past the end
abbrev pub pair_c : List ℕ → ℕ → ℕ
pair_c s p = get_or s p 0 * 256 + get_or s (p + 1) 0

-- where the record at p ends with all that is inside it
abbrev pub end_by : Shape → List ℕ → ℕ → ℕ
end_by Shape.Plain s p = p + 1
end_by Shape.Head s p = p + 3 + pair_c s (p + 1)
end_by Shape.Word s p = p + 5
end_by Shape.Key s p = p + 5

unfoldable pub end_c : List ℕ → ℕ → ℕ
unfolding shape_of
end_c s p = end_by (shape_of (get_or s p 0)) s p

-- a key is no member of its own: it belongs to the value behind it
abbrev pub member_of : ℕ → ℕ
member_of b = cond (eqb b 8) 0 1

-- how many members stand from p up to an end, in at most so many steps
unfoldable pub count_n : ℕ → List ℕ → ℕ → ℕ → ℕ
unfolding end_c
count_n zero s end p = 0
count_n (suc n) s end p = cond (leb end p) 0 (member_of (get_or s p 0) + count_n n s end (end_c s p))

unfoldable pub count_c : List ℕ → ℕ → ℕ → ℕ
unfolding count_n
count_c s end p = count_n (end - p) s end p

-- how many members the array or object at p has
unfoldable pub members_c : List ℕ → ℕ → ℕ
unfolding end_c count_c
members_c s p = count_c s (end_c s p) (p + 3)

-- a record whose text begins at t
unfoldable pub text_c : List ℕ → ℕ → ℕ → ℕ → Record
text_c s len p t =
    cond (ltb (len - p) 5) Record.End
    (Record.Five (get_or s p 0) (t / 256 % 256) (t % 256) (get_or s (p + 3) 0) (get_or s (p + 4) 0))

unfoldable pub head_c : List ℕ → ℕ → ℕ → Record
head_c s len p = cond (ltb (len - p) 3) Record.End (Record.Three (get_or s p 0) (get_or s (p + 1) 0) (get_or s (p + 2) 0))

-- the same with how many members there are
unfoldable pub counted_c : List ℕ → ℕ → ℕ → Record
counted_c s len p = cond (ltb (len - p) 3) Record.End (Record.Three (get_or s p 0) (members_c s p / 256 % 256) (members_c s p % 256))

-- a key's record as it is
unfoldable pub key_c : List ℕ → ℕ → ℕ → Record
key_c s len p =
    cond (ltb (len - p) 5) Record.End
    (Record.Five (get_or s p 0) (get_or s (p + 1) 0) (get_or s (p + 2) 0) (get_or s (p + 3) 0) (get_or s (p + 4) 0))

-- the record at p, its text beginning at t; where it is to be kept, a key's number stays, and the length of what is inside
unfoldable pub record_by : Form → Shape → List ℕ → ℕ → ℕ → ℕ → Record
unfolding text_c head_c counted_c key_c
record_by form Shape.Plain s len p t = Record.One (get_or s p 0)
record_by Form.Kept Shape.Head s len p t = head_c s len p
record_by Form.Public Shape.Head s len p t = counted_c s len p
record_by form Shape.Word s len p t = text_c s len p t
record_by Form.Kept Shape.Key s len p t = key_c s len p
record_by Form.Public Shape.Key s len p t = text_c s len p t

unfoldable pub record_c : Form → List ℕ → ℕ → ℕ → ℕ → Record
unfolding record_by shape_of
record_c form s len p t = cond (leb len p) Record.End (record_by form (shape_of (get_or s p 0)) s len p t)

-- its bytes, how many they are, and how long its text is
abbrev pub code_of : Record → List ℕ
code_of Record.End = []
code_of (Record.One b) = b ∷ []
code_of (Record.Three b c d) = b ∷ c ∷ d ∷ []
code_of (Record.Five b c d e f) = b ∷ c ∷ d ∷ e ∷ f ∷ []

abbrev pub size_of : Record → ℕ
size_of Record.End = 0
size_of (Record.One b) = 1
size_of (Record.Three b c d) = 3
size_of (Record.Five b c d e f) = 5

abbrev pub text_len_of : Record → ℕ
text_len_of Record.End = 0
text_len_of (Record.One b) = 0
text_len_of (Record.Three b c d) = 0
text_len_of (Record.Five b c d e f) = e * 256 + f

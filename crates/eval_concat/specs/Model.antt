-- What the code computes, on the numbers that it has. Nothing is assumed of them.
use Rattle.std.specs.Prelude.{ℕ, ◌+◌, ◌*◌, ◌-◌, max, Bool, true, false, cond, List, leb, get_or, Result, Ok, Err}
use Rattle.rules.specs.Sizes.{max_text}
use Rattle.text_chars.specs.Cursor.{doc, refusal}
use Rattle.text_chars.specs.declared.Refusal.{Refusal}
use Rattle.eval_writer.specs.Model.{key_len}
use Rattle.eval_writer.specs.declared.Out.{Out}
use Rattle.eval_results.specs.Sizes.Contracts.{within_c}
use Rattle.eval_results.specs.declared.extents.Extent.{Extent}
use Rattle.eval_results.specs.declared.sizes.Answered.{Answered}
use Rattle.eval_concat.specs.declared.Kind.{Kind}
use Rattle.eval_concat.specs.declared.Join.{Join}

abbrev pub out : (rec text : ℕ) → Out
out rec text = record { rec = record { 0 = rec }; text = record { 0 = text } }

abbrev pub extent_at : (rec text deep : ℕ) → Extent
extent_at rec text deep = record { out = out rec text; deep = deep }

abbrev pub join : Kind → Extent → Join
join kind b = record { kind = kind; extent = b }

abbrev pub records_of : Join → ℕ
records_of j = j.extent.out.rec.0

abbrev pub text_of : Join → ℕ
text_of j = j.extent.out.text.0

-- nothing but whitespace, and a string of so many bytes, whose record is written at the end
abbrev pub blank_join : ℕ → Join
blank_join n = join Kind.Blank (extent_at 0 n 0)

abbrev pub text_join : ℕ → Join
text_join n = join Kind.Simple (extent_at 5 n 0)

-- the join with one piece more, or its refusal
abbrev pub Joined : Type 0
Joined = Result Join Refusal

-- the piece or the join is over its size
abbrev pub too_large_c : Refusal
too_large_c = refusal 13 (doc 0)

-- kinds are mixed at a piece
abbrev pub mixed_at : List ℕ → ℕ → Refusal
mixed_at T i = refusal 11 (doc (get_or T (8 * i + 6) 0))

-- the size of the join so far
unfoldable pub tested_c : Join → Joined
unfolding within_c
tested_c j = cond (within_c j.extent) (Ok j) (Err too_large_c)

-- whether a text may be joined
abbrev pub takes_text : Kind → Bool
takes_text Kind.Blank = true
takes_text Kind.Simple = true
takes_text (Kind.Array count) = false
takes_text Kind.Object = false

-- a piece that is undefined; n is how long a text would be with the whitespace before the piece
abbrev pub nothing_by : Kind → Join → (n : ℕ) → Joined
nothing_by Kind.Blank j n = Ok (blank_join n)
nothing_by Kind.Simple j n = tested_c (text_join n)
nothing_by (Kind.Array count) j n = Ok j
nothing_by Kind.Object j n = Ok j

unfoldable pub nothing_c : List ℕ → ℕ → Join → Joined
unfolding tested_c
nothing_c T i j = nothing_by j.kind j (text_of j + key_len T i)

-- a simple piece whose text has n bytes
unfoldable pub text_c : List ℕ → ℕ → (n : ℕ) → Join → Joined
unfolding tested_c
text_c T i n j =
    cond (leb n max_text) (cond (takes_text j.kind) (tested_c (text_join (text_of j + key_len T i + n))) (Err (mixed_at T i))) (Err too_large_c)

-- where the elements of an array are written
abbrev pub start_by : Kind → Out → Out
start_by Kind.Blank o = out 3 0
start_by Kind.Simple o = out 3 0
start_by (Kind.Array count) o = o
start_by Kind.Object o = out 3 0

abbrev pub start_of : Join → Out
start_of j = start_by j.kind j.extent.out

-- an array's own size, whose elements were written from one place to another; deep is that of the deepest
abbrev pub piece_c : Out → Extent → Extent
piece_c from r = extent_at (r.out.rec.0 - from.rec.0 + 3) (r.out.text.0 - from.text.0) (r.deep + 1)

abbrev pub members_by : Kind → List ℕ → ℕ → Join → (n : ℕ) → Extent → Joined
members_by Kind.Blank T i j n r = tested_c (join (Kind.Array n) (record { out = r.out; deep = r.deep + 1 }))
members_by Kind.Simple T i j n r = Err (mixed_at T i)
members_by (Kind.Array count) T i j n r = tested_c (join (Kind.Array (count + n)) (record { out = r.out; deep = max j.extent.deep (r.deep + 1) }))
members_by Kind.Object T i j n r = Err (mixed_at T i)

unfoldable pub members_c : List ℕ → ℕ → Join → Out → (n : ℕ) → Extent → Joined
unfolding tested_c within_c
members_c T i j from n r = cond (within_c (piece_c from r)) (members_by j.kind T i j n r) (Err too_large_c)

-- all pieces are joined
abbrev pub answer_by : Kind → Extent → Answered
answer_by Kind.Blank b = Answered.Undefined
answer_by Kind.Simple b = Answered.Value b
answer_by (Kind.Array count) b = Answered.Value b
answer_by Kind.Object b = Answered.Value b

-- Worked cases, shown by computation. Documents and texts are written as they read, records in numbers, and values where the paper tells
-- no bytes; the first cases' bytes fix the layout.
use Rattle.std.specs.Prelude.{◌≡◌, refl, ℕ, ◌+◌, List, [], ◌∷◌, ◌++◌, map, reverse, length}
use Prim.Native.Char.{code}
use Prim.Native.String.{String, [] as nil, ◌∷◌ as cons}
use Rattle.std.proofs.Math.Option.{some}
use Rattle.answers.specs.Ask.{Trail}
use Rattle.rules.specs.Bytes.{Text}
use Rattle.rules.specs.Utf8.{encoded}
use Rattle.rules.specs.Tree.{number, string}
use Rattle.rules.specs.Values.{Value, scalar, array_of, object_of, Values, no-values, val, Members, no-members, member, Answer}
use Rattle.rules.specs.Sheet.{records, texts, trail_text_size, trail_records, trail_texts}
use Rattle.rules.specs.Jobs.{Resolved, resolve_job}

-- ---- how a case is written

-- a text's bytes
unfoldable pub bytes : String → Text
unfolding encoded
bytes nil = []
bytes (cons c s) = encoded (code c) ++ bytes s

-- values
unfoldable pub num : String → Value
unfolding bytes
num s = scalar (number (bytes s))

unfoldable pub str : String → Value
unfolding bytes
str s = scalar (string (bytes s))

unfoldable pub values_of : List Value → Values
values_of [] = no-values
values_of (v ∷ vs) = val v (values_of vs)

unfoldable pub arr : List Value → Value
unfolding values_of
arr vs = array_of (values_of vs)

unfoldable pub members_in : List (String × Value) → Members
unfolding bytes
members_in [] = no-members
members_in (m ∷ ms) = member (bytes m.0) m.1 (members_in ms)

unfoldable pub obj : List (String × Value) → Value
unfolding members_in
obj ms = object_of (members_in ms)

-- what is handed back: a refusal at a place, by its line and column; one in a first line of ASCII
unfoldable pub refusal_at : (number place line column : ℕ) → Resolved
refusal_at n p line column =
    record { number = n; document = 0; place = p; line = line; column = column; count = 0; trail = []; table = []; text = [] }

unfoldable pub refusal : (number place : ℕ) → Resolved
unfolding refusal_at
refusal n p = refusal_at n p 1 (p + 1)

-- a sheet in bytes, or the sheet of entries (the first one first) and a table
unfoldable pub done : (count : ℕ) (trail table text : List ℕ) → Resolved
done n trail table text =
    record { number = 0; document = 0; place = 0; line = 0; column = 0; count = n; trail = trail; table = table; text = text }

unfoldable pub sheet : ℕ → List ℕ → List ℕ → String → Resolved
unfolding bytes done
sheet n trail table text = done n trail table (bytes text)

unfoldable pub resolves_to : Trail Answer → Value → Resolved
unfolding records texts trail_text_size trail_records trail_texts done
resolves_to entries v =
    let S = reverse entries in
    done (length entries) (trail_records S) (records (trail_text_size S) v) (trail_texts S ++ texts v)

pub record Case : Type 0 where
  pub document : String
  pub environment : String
  pub budget : ℕ
  pub gives : Resolved

-- "Budget 256, empty environment, full rooms."
abbrev pub case : String → Resolved → Case
case d r = record { document = d; environment = ""; budget = 256; gives = r }

unfoldable pub outcome : Case → Resolved
unfolding bytes resolve_job
outcome c = resolve_job (bytes c.document) (bytes c.environment) c.budget 32768 32768 32768

-- ---- document 01, "Cases proved together as one table"

unfoldable pub cases : List Case
unfolding refusal sheet resolves_to num str obj
cases =
    -- 1
    case "" (sheet 0 [] (7 ∷ 0 ∷ 0 ∷ []) "")
    -- 2
    ∷ case "a=1" (sheet 0 [] (7 ∷ 0 ∷ 1 ∷ 8 ∷ 0 ∷ 0 ∷ 0 ∷ 1 ∷ 4 ∷ 0 ∷ 1 ∷ 0 ∷ 1 ∷ []) "a1")
    -- 3
    ∷ case "a=1,b=${a}" (sheet 1 (9 ∷ 0 ∷ 0 ∷ 4 ∷ 0 ∷ 0 ∷ 0 ∷ 1 ∷ [])
    (7 ∷ 0 ∷ 2 ∷ 8 ∷ 0 ∷ 1 ∷ 0 ∷ 1 ∷ 4 ∷ 0 ∷ 2 ∷ 0 ∷ 1 ∷ 8 ∷ 0 ∷ 3 ∷ 0 ∷ 1 ∷ 4 ∷ 0 ∷ 4 ∷ 0 ∷ 1 ∷ []) "1a1b1")
    ∷ record { document = "a=1,b=${a}"; environment = ""; budget = 0; gives = refusal 12 6 }
    -- 4
    ∷ case "[1,,2]" (refusal 3 3)
    -- 5
    ∷ case "foo:{a:{c:1}},foo:${foo.a},foo:{a:2}"
    (resolves_to ((0, some (obj (("c", num "1") ∷ []))) ∷ []) (obj (("foo", obj (("a", num "2") ∷ ("c", num "1") ∷ [])) ∷ [])))
    -- 6
    ∷ case "a=[${a}]" (refusal 10 3)
    ∷ case "a=${a}" (refusal 9 2)
    -- 7
    ∷ case "a=${?a}foo" (resolves_to ((0, some (str "foo")) ∷ []) (obj (("a", str "foo") ∷ [])))
    -- 8
    ∷ case "bar=${foo},foo=${bar}" (refusal 10 4)
    -- 9
    ∷ case "a=${x}" (refusal 9 2)
    ∷ case "a=${x},a=1" (resolves_to [] (obj (("a", num "1") ∷ [])))
    -- 10
    ∷ case "a=[1] 5" (refusal 11 6)
    ∷ []

pub cases-hold : map outcome cases ≡ map (λ c. c.gives) cases
unfolding outcome cases
cases-hold = refl

-- Document 02, No. 4, shown by computation: line and column of places in texts, and of refusals (docs/DECISIONS.md, N1 and N2).
use Rattle.std.specs.Prelude.{◌≡◌, refl, ℕ, List, [], ◌∷◌, ◌++◌, map}
use Prim.Native.String.{String}
use Rattle.rules.specs.Positions.{line_at, column_at}
use Rattle.rules.specs.Jobs.{Resolved, Verdict, resolve_job, check_job}
use Rattle.rules.specs.Cases.{bytes, refusal_at, Case, case, outcome}

-- ---- places

pub record Place : Type 0 where
  pub text : String
  pub offset : ℕ
  pub line : ℕ
  pub column : ℕ

abbrev pub place : String → ℕ → ℕ → ℕ → Place
place t o l c = record { text = t; offset = o; line = l; column = c }

unfoldable pub line_in : Place → ℕ
unfolding bytes line_at
line_in p = line_at (bytes p.text) p.offset

unfoldable pub column_in : Place → ℕ
unfolding bytes column_at
column_in p = column_at (bytes p.text) p.offset

unfoldable pub places : List Place
places =
    -- the start, and the end as the character behind the last
    place "" 0 1 1
    ∷ place "ab" 0 1 1
    ∷ place "ab" 2 1 3
    -- a newline ends its own line, and the next begins with column 1
    ∷ place "ab\ncd" 2 1 3
    ∷ place "ab\ncd" 3 2 1
    ∷ place "ab\n\n" 3 2 1
    ∷ place "ab\n\n" 4 3 1
    -- a tab is one character, and so is a carriage return, which ends no line
    ∷ place "\ta" 1 1 2
    ∷ place "a\r\nb" 2 1 3
    ∷ place "a\r\nb" 3 2 1
    ∷ place "a\rb" 2 1 3
    -- characters of two, three and four bytes; U+2028 is none that ends a line
    ∷ place "é€𝄞x" 2 1 2
    ∷ place "é€𝄞x" 5 1 3
    ∷ place "é€𝄞x" 9 1 4
    ∷ place "é€𝄞x" 10 1 5
    ∷ place "\u{2028}\nx" 4 2 1
    ∷ []

pub places-hold : (map line_in places ≡ map (λ p. p.line) places) × (map column_in places ≡ map (λ p. p.column) places)
unfolding line_in column_in places
places-hold = (refl, refl)

-- ---- refusals: of reading, at the end, of resolving

unfoldable pub refusals : List Case
unfolding refusal_at
refusals =
    case "a=1\r\n\"é\" b c\u{2028}d$" (refusal_at 7 17 2 10)
    ∷ case "a={\n" (refusal_at 4 4 2 1)
    ∷ case "{" (refusal_at 4 1 1 2)
    ∷ case "a=1\nb=${x}" (refusal_at 9 6 2 3)
    ∷ case "b=${c},\n\nc=${b}" (refusal_at 10 2 1 3)
    ∷ case "\u{feff}a =\n\t[1] 5" (refusal_at 11 12 2 6)
    ∷ record { document = "a=1,\nb=${a}"; environment = ""; budget = 0; gives = refusal_at 12 7 2 3 }
    -- 1 has no place in a document, though there is one
    ∷ record { document = "a=1,\nb=${a}"; environment = ""; budget = 257; gives = refusal_at 1 0 0 0 }
    ∷ []

pub refusals-hold : map outcome refusals ≡ map (λ c. c.gives) refusals
unfolding outcome refusals
refusals-hold = refl

-- 2 is at the first byte that is ill-formed; 14 has no place
unfoldable pub lent : (document : List ℕ) (room : ℕ) → Resolved
unfolding resolve_job
lent document room = resolve_job document [] 256 room room room

pub ill-formed : lent (bytes "a=1\né" ++ (255 ∷ [])) 32768 ≡ refusal_at 2 6 2 2
unfolding lent bytes refusal_at
ill-formed = refl

pub no_room : lent (bytes "a=1\nb=2") 0 ≡ refusal_at 14 0 0 0
unfolding lent bytes refusal_at
no_room = refl

-- check tells the same of a document that it cannot read, and of a sheet that is not accepted no place
unfoldable pub checked : String → Verdict
unfolding bytes check_job
checked document = check_job (bytes document) [] [] [] []

pub unread : checked "a=1\n\tb=}" ≡ record { number = 3; document = 0; place = 7; line = 2; column = 4 }
unfolding checked
unread = refl

pub not-accepted : checked "a=1\n\tb=2" ≡ record { number = 17; document = 0; place = 0; line = 0; column = 0 }
unfolding checked
not-accepted = refl

-- Document 02, No. 3, shown by computation: the request's own examples, and those of the readings that docs/DECISIONS.md has (L1 to L6).
use Rattle.std.specs.Prelude.{◌≡◌, refl, ℕ, ◌/◌, ◌%◌, List, [], ◌∷◌, ◌++◌, map, length}
use Prim.Native.String.{String}
use Rattle.rules.specs.Bytes.{Text}
use Rattle.rules.specs.Kinds as kinds
use Rattle.rules.specs.Micrometres.{Measured}
use Rattle.rules.specs.Jobs.{length_job}
use Rattle.rules.specs.Cases.{bytes}

-- a value's records and the text part, and what they give
pub record Asked : Type 0 where
  pub table : List ℕ
  pub text : Text
  pub gives : Measured

-- a record of a kind that refers to a whole text
unfoldable pub texted : (kind : ℕ) (text : Text) (number micrometres : ℕ) → Asked
texted kind t n m = record {
  table = kind ∷ 0 ∷ 0 ∷ length t / 256 ∷ length t % 256 ∷ [];
  text = t;
  gives = record { number = n; micrometres = m };
}

unfoldable pub long : String → ℕ → Asked
unfolding texted bytes
long t m = texted kinds.string (bytes t) 0 m

unfoldable pub refused : String → ℕ → Asked
unfolding texted bytes
refused t n = texted kinds.string (bytes t) n 0

unfoldable pub bare : String → ℕ → Asked
unfolding texted bytes
bare t n = texted kinds.number (bytes t) n 0

unfoldable pub other : (table : List ℕ) (number : ℕ) → Asked
other table n = record { table = table; text = []; gives = record { number = n; micrometres = 0 } }

unfoldable pub lengths : List Asked
unfolding long refused bare other texted bytes
lengths =
    -- the request's own
    long "2.6 mm" 2600
    ∷ long "0.1 in" 2540
    ∷ refused "0.0001 mm" 23
    -- an exponent is malformed, in a bare number too
    ∷ bare "1e5" 20
    ∷ refused "1e5" 20
    ∷ refused "-1e5 mm" 20
    ∷ bare "5" 21
    ∷ bare "-5" 21
    ∷ refused "-5" 21
    ∷ refused "0.00001" 21
    -- no whitespace before the number or behind the unit, and none behind a bare number
    ∷ refused " 5 mm" 20
    ∷ refused "5 mm " 20
    ∷ refused "5 " 20
    -- between them any run of it, newlines too
    ∷ long "5\n\tmm" 5000
    ∷ long "5mm" 5000
    ∷ long "5\u{a0}mm" 5000
    ∷ long "5\u{2028}\u{feff}mm" 5000
    ∷ refused "5\u{200b}mm" 20
    -- JSON's numbers, the units as written, and those in a string only
    ∷ refused "05 mm" 20
    ∷ refused ".5 mm" 20
    ∷ refused "5. mm" 20
    ∷ refused "+5 mm" 20
    ∷ refused "5 MM" 20
    ∷ refused "-5 cm" 20
    ∷ bare "5 mm" 20
    -- a minus sign whatever the number; not whole before over
    ∷ refused "-0 mm" 22
    ∷ refused "-0.0001 mm" 22
    ∷ refused "-9999999 mm" 22
    ∷ refused "1000000.5 um" 23
    ∷ refused "1000001 um" 24
    ∷ long "1000 mm" 1000000
    ∷ long "1000.0000 mm" 1000000
    ∷ refused "1000.001 mm" 24
    ∷ refused "0.00005 in" 23
    ∷ long "0.005 in" 127
    ∷ refused "39.3700787401574803149606299212598425 in" 23
    ∷ long "0 mm" 0
    ∷ refused "99999999999999999999999999999999999999999999999999 mm" 24
    -- a text that is no UTF-8; other values; what is no whole table
    ∷ texted kinds.string (bytes "5 " ++ (255 ∷ bytes "mm")) 20 0
    ∷ other (kinds.null ∷ []) 20
    ∷ other (kinds.array ∷ 0 ∷ 0 ∷ []) 20
    ∷ other (kinds.object ∷ 0 ∷ 0 ∷ []) 20
    ∷ other (kinds.string ∷ 0 ∷ 0 ∷ 0 ∷ 1 ∷ []) 15
    ∷ other [] 15
    ∷ other (kinds.null ∷ kinds.null ∷ []) 15
    ∷ []

pub lengths-hold : map (λ x. length_job x.table x.text) lengths ≡ map (λ x. x.gives) lengths
unfolding lengths length_job
lengths-hold = refl

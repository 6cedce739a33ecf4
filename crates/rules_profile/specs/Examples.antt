-- Document 02, No. 11, shown by computation: the request's own numbers, and the examples of the readings that docs/DECISIONS.md has
-- (P1 to P3).
use Rattle.std.specs.Prelude.{◌≡◌, refl, ℕ, List, [], ◌∷◌, map}
use Prim.Native.String.{String}
use Rattle.rules.specs.Values.{Value}
use Rattle.rules.specs.Sheet.{records, texts}
use Rattle.rules.specs.Jobs.{resolve_job}
use Rattle.rules.specs.Cases.{bytes, num, str, obj}
use Rattle.rules_profile.specs.Profile.{Profile, no_profile, profile_job, profile, unit, plate, min, max, millimetres, inches}

-- the names and texts of the definitions, as they read
names : (profile ≡ bytes "profile") × (unit ≡ bytes "unit") × (plate ≡ bytes "plate") × (min ≡ bytes "min") × (max ≡ bytes "max")
    × (millimetres ≡ bytes "mm") × (inches ≡ bytes "in")
unfolding bytes
names = (refl, refl, refl, refl, refl, refl, refl)

-- what a document's table gives
unfoldable pub read : String → Profile
unfolding bytes resolve_job profile_job
read document =
    let sheet = resolve_job (bytes document) [] 256 32768 32768 32768 in
    profile_job sheet.table sheet.text

-- what the table of a value gives that no document has
unfoldable pub lent : Value → Profile
unfolding records texts profile_job
lent v = profile_job (records 0 v) (texts v)

pub record Asked : Type 0 where
  pub document : String
  pub gives : Profile

abbrev pub asked : String → (number edition minimum maximum : ℕ) → Asked
asked d n e low high = record { document = d; gives = record { number = n; edition = e; minimum = low; maximum = high } }

unfoldable pub profiles : List Asked
profiles =
    -- 43 hundredths of a millimetre, a thousandth of an inch, ten micrometres
    asked "profile=1,unit=mm,plate{min=43,max=102}" 0 1 4300 10200
    ∷ asked "profile=1,unit=in,plate{min=1,max=102}" 0 1 254 25908
    ∷ asked "profile=2,plate{min=\"10 um\",max=\"2.6 mm\"}" 0 2 100 26000
    ∷ asked "profile=1,unit=in,plate{min=0,max=100000}" 0 1 0 25400000
    ∷ asked "profile=2,plate{min=\"2540 um\",max=\"0.1 in\"}" 0 2 25400 25400
    ∷ asked "profile=2,plate{min=\"0 mm\",max=\"1000 mm\"}" 0 2 0 10000000
    -- 39: the number 1 or 2, so written, of a root object
    ∷ asked "[1]" 39 0 0 0
    ∷ asked "" 39 0 0 0
    ∷ asked "profile=\"1\",unit=mm" 39 0 0 0
    ∷ asked "profile=1.0" 39 0 0 0
    ∷ asked "profile=3,unit=mm,plate{min=1,max=2}" 39 0 0 0
    ∷ asked "profile=null,plate{min=\"1 mm\",max=\"2 mm\"}" 39 0 0 0
    -- 40: mm or in in edition 1, none in edition 2, null neither
    ∷ asked "profile=1,plate{min=1,max=2}" 40 0 0 0
    ∷ asked "profile=1,unit=um,plate{min=1,max=2}" 40 0 0 0
    ∷ asked "profile=1,unit=MM,plate{min=1,max=2}" 40 0 0 0
    ∷ asked "profile=1,unit=1,plate{min=1,max=2}" 40 0 0 0
    ∷ asked "profile=2,unit=null,plate{min=\"1 mm\",max=\"2 mm\"}" 40 0 0 0
    ∷ asked "profile=2,unit=mm,plate{min=\"1 mm\",max=\"2 mm\"}" 40 0 0 0
    -- 41, 42: edition 1 has digits only, in a number
    ∷ asked "profile=1,unit=mm,plate=3" 41 0 0 0
    ∷ asked "profile=1,unit=in,plate{min=7.0,max=9}" 41 0 0 0
    ∷ asked "profile=1,unit=in,plate{min=007,max=9}" 41 0 0 0
    ∷ asked "profile=1,unit=in,plate{min=-1,max=9}" 41 0 0 0
    ∷ asked "profile=1,unit=in,plate{min=1,max=9e0}" 42 0 0 0
    ∷ asked "profile=1,unit=in,plate{min=\"1\",max=9}" 41 0 0 0
    ∷ asked "profile=1,unit=in,plate{min=0,max=100001}" 42 0 0 0
    ∷ asked "profile=1,unit=in,plate{min=0}" 42 0 0 0
    -- edition 2 has lengths with their unit, and no other edition's
    ∷ asked "profile=2,plate{min=\"5\",max=\"1e2 mm\"}" 41 0 0 0
    ∷ asked "profile=2,plate{min=5,max=6}" 41 0 0 0
    ∷ asked "profile=1,unit=mm,plate{min=\"5 mm\",max=\"6 mm\"}" 41 0 0 0
    ∷ asked "profile=2,plate{min=\"0.1 in\",max=\"1001 mm\"}" 42 0 0 0
    ∷ asked "profile=2,plate{min=\"0.1 in\",max=\"0.0001 mm\"}" 42 0 0 0
    ∷ asked "profile=2,plate{min=\"0.1 in\",max=\"-1 mm\"}" 42 0 0 0
    -- 43: values are compared, not texts
    ∷ asked "profile=1,unit=in,plate{min=2,max=1}" 43 0 0 0
    ∷ asked "profile=1,unit=mm,plate{min=9,max=10}" 0 1 900 1000
    ∷ asked "profile=2,plate{min=\"1 in\",max=\"2.0 mm\"}" 43 0 0 0
    -- the first fault in that order
    ∷ asked "unit=x,plate{min=x}" 39 0 0 0
    ∷ asked "profile=1,unit=x,plate{min=x}" 40 0 0 0
    ∷ asked "profile=1,unit=mm,plate{min=x,max=x}" 41 0 0 0
    -- a key `plate.min` is not the path
    ∷ asked "profile=1,unit=mm,\"plate.min\"=1,plate{max=2}" 41 0 0 0
    ∷ []

pub profiles-hold : map (λ x. read x.document) profiles ≡ map (λ x. x.gives) profiles
unfolding profiles read
profiles-hold = refl

-- ---- tables that no document has

-- digits only, and a JSON number too: it starts with no zero
leading-zero : (lent (obj (("profile", num "1") ∷ ("unit", str "in")
    ∷ ("plate", obj (("min", num "007") ∷ ("max", num "9") ∷ [])) ∷ []))).number ≡ 41
unfolding lent num str obj
leading-zero = refl

-- of equal keys the first, with no second try
equal-keys : (lent (obj (("profile", num "3") ∷ ("profile", num "1") ∷ []))).number ≡ 39
unfolding lent num obj
equal-keys = refl

equal-plates : (lent (obj (("profile", num "1") ∷ ("unit", str "mm") ∷ ("plate", num "1")
    ∷ ("plate", obj (("min", num "1") ∷ ("max", num "2") ∷ [])) ∷ []))).number ≡ 41
unfolding lent num str obj
equal-plates = refl

-- what is no whole table
not-whole : profile_job (7 ∷ 0 ∷ 1 ∷ []) [] ≡ no_profile 15
unfolding profile_job
not-whole = refl

-- What the functions promise: by the model for any bytes, and of a substitution that the table holds.
use Rattle.std.specs.Prelude.{◌≡◌, ℕ, ◌+◌, ◌*◌, ◌≤◌, ◌<◌, Bool, false, List, [], ◌∷◌, ◌++◌, eqb, length, get_or, drop, Some, None}
use Rattle.std.specs.declared.option.Option.{Option as Maybe}
use Rattle.std.proofs.Math.Option.{Option, none, some}
use Rattle.std.proofs.Math.Seq.{slice}
use Rattle.answers.specs.Ask.{value, refused}
use Rattle.rules.specs.Bytes.{Text, same}
use Rattle.rules.specs.Refusals.{placed}
use Rattle.rules.specs.Sizes.{max_environment}
use Rattle.rules.specs.Environment.{Variable, entries_of, text_of}
use Rattle.rules.specs.Tree.{Substitution, string}
use Rattle.rules.specs.Values.{Answer, scalar}
use Rattle.rules.specs.Settled.{Given}
use Rattle.rules.specs.Unresolved.{dotted}
use Rattle.theory.specs.SettledAnswers.{or_environment_in}
use Rattle.doc_items.specs.Room.{number_bound}
use Rattle.doc_items.specs.Holds.{ReferenceAt}
use Rattle.doc_items.specs.Parts.{numbers, letters}
use Rattle.eval_environment.specs.Model.{element_c, path_c, behind_dots}
use Rattle.eval_environment.specs.declared.Asked.{Asked}
use Rattle.eval_environment.specs.declared.Part.{Part}

-- an offset in a job's bytes, and a length: sums of them do not wrap
abbrev pub most_bytes : ℕ
most_bytes = 1048576

-- ---- a name beside a path

-- a dot stands before a byte of a name
pub record DotIs (name : List ℕ) (used : ℕ) (r : Bool) : Type 0 where
  pub is : r ≡ eqb (get_or (46 ∷ name) used 0) 46

pub record CompareAsked (name : List ℕ) (used at n : ℕ) : Type 0 where
  pub size : length name ≤ max_environment
  pub upto : used ≤ length name + 1
  pub near : at ≤ most_bytes
  pub short : n ≤ most_bytes

-- what is left of a dot and a name, beside an element and what stands behind it
abbrev pub Compares : List ℕ → ℕ → ℕ → List ℕ → ℕ → Maybe ℕ → Type 0
Compares X at n name used (Some more) =
    (more ≤ length name + 1)
    × ((rest : Text) → same (drop used (46 ∷ name)) (behind_dots (element_c X at n []) ++ rest) ≡ same (drop more (46 ∷ name)) rest)
Compares X at n name used None =
    (rest : Text) → same (drop used (46 ∷ name)) (behind_dots (element_c X at n []) ++ rest) ≡ false

pub record ComparedIs (X : List ℕ) (at n : ℕ) (name : List ℕ) (used : ℕ) (r : Maybe ℕ) : Type 0 where
  pub is : Compares X at n name used r

-- the numbers of an item that a path has, and a name of an environment, which is not empty
pub record PathAsked (name : List ℕ) (at len count : ℕ) : Type 0 where
  pub some : 0 < length name
  pub size : length name ≤ max_environment
  pub near : at < number_bound
  pub short : len < number_bound
  pub few : count < number_bound

-- ---- a name's text

pub record FindAsked (env : List ℕ) (at len count : ℕ) : Type 0 where
  pub size : length env ≤ max_environment
  pub near : at < number_bound
  pub short : len < number_bound
  pub few : count < number_bound

-- the text that an answer names
abbrev pub found_text : List ℕ → Maybe Part → Option Text
found_text s (Some p) = some (slice p.start.0 (p.start.0 + p.size.0) s)
found_text s None = none

abbrev pub FoundInside : ℕ → Maybe Part → Type 0
FoundInside len (Some p) = p.start.0 + p.size.0 ≤ len
FoundInside len None = Unit {0}

-- the text of a name where the environment has entries; and what is answered stands inside the environment
pub record FindIs (s n : List ℕ) (r : Maybe Part) : Type 0 where
  pub is : (es : List Variable) → entries_of s ≡ some es → found_text s r ≡ text_of es n
  pub inside : FoundInside (length s) r

pub record NameAsked (env : List ℕ) (i : ℕ) : Type 0 where
  pub size : length env ≤ max_environment
  pub item : i < number_bound

pub record NameIs (T X env : List ℕ) (i : ℕ) (r : Maybe Part) : Type 0 where
  pub is : FindIs env (dotted (path_c T X i)) r

-- ---- of the answer: what a substitution comes to whose path is undefined

-- document 01's values and number for each case
abbrev pub asked_of : List ℕ → Asked → Given Answer
asked_of env (Asked.Text start size) = value (some (scalar (string (slice start.0 (start.0 + size.0) env))))
asked_of env Asked.Undefined = value none
asked_of env (Asked.Missing place) = refused (placed 9 place.0)

-- the text stands in the environment
abbrev pub Inside : ℕ → Asked → Type 0
Inside len (Asked.Text start size) = start.0 + size.0 ≤ len
Inside len Asked.Undefined = Unit {0}
Inside len (Asked.Missing place) = Unit {0}

-- A substitution that stands at an item. How the numbers of unresolved values go plays no part in it.
abbrev pub AnyNumber : ℕ → ℕ → Type 0
AnyNumber m b = Unit {0}

pub record SubstitutionAt (T X : List ℕ) (i : ℕ) (x : Substitution) : Type 0 where
  pub lo : ℕ
  pub hi : ℕ
  pub high : hi ≤ length X
  pub place : numbers T (8 * i + 6) ≡ x.place
  pub item : ReferenceAt (numbers T) (letters 0 X) lo hi AnyNumber (numbers T (8 * i)) (numbers T (8 * i + 4)) (numbers T (8 * i + 5)) (numbers T (8 * i + 7)) x

-- as doc_items has it among the pieces of a value
pub substitution-at : {T X : List ℕ} {i lo hi : ℕ} {N : ℕ → ℕ → Type 0} {x : Substitution} → hi ≤ length X → numbers T (8 * i + 6) ≡ x.place
    → ReferenceAt (numbers T) (letters 0 X) lo hi N (numbers T (8 * i)) (numbers T (8 * i + 4)) (numbers T (8 * i + 5)) (numbers T (8 * i + 7)) x
    → SubstitutionAt T X i x
substitution-at {T} {X} {i} {lo} {hi} l e r = record {
  lo = lo;
  hi = hi;
  high = l;
  place = e;
  item = record { kind = r.kind; count = r.count; size = r.size; path = r.path };
}

pub record AskedIs (T X env : List ℕ) (i : ℕ) (r : Asked) : Type 0 where
  pub is : (es : List Variable) → entries_of env ≡ some es → (x : Substitution) → SubstitutionAt T X i x
      → asked_of env r ≡ or_environment_in (text_of es) x none
  pub inside : Inside (length env) r

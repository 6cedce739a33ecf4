-- How a path is judged, by what its buffers hold.
use Rattle.std.specs.Prelude.{◌≡◌, ℕ, Bool, List, length, Result, Ok, Err}
use Rattle.std.proofs.Math.Option.{Option, none, some}
use Rattle.rules.specs.Refusals.{Refusal as Refusing, number_of, place_of}
use Rattle.rules.specs.Paths.{Element, any_empty, judge}
use Rattle.text_chars.specs.Cursor.{doc, refusal}
use Rattle.text_chars.specs.declared.Refusal.{Refusal}
use Rattle.text_elements.specs.Marks.Holding.{Held}

abbrev pub verdict_of : Option Refusing → Result (Unit {0}) Refusal
verdict_of none = Ok tt
verdict_of (some x) = Err (refusal (number_of x) (doc (place_of x)))

-- the verdict is the rules', whatever elements are held
pub record JudgeIs (count : ℕ) (empty : Bool) (seven allowed : ℕ) (marks : List ℕ) (r : Result (Unit {0}) Refusal) : Type 0 where
  pub is : (es : List Element) (out : List ℕ) → Held 0 0 es out marks → count ≡ length es → empty ≡ any_empty es
      → r ≡ verdict_of (judge seven allowed es)

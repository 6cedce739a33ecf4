-- What the functions promise.
use Rattle.std.specs.Prelude.{◌≡◌, ℕ, ◌+◌, List, ◌∷◌}
use Rattle.rules.specs.Sheet.{two}
use Rattle.eval_writer.specs.Clauses.{Puts}
use Rattle.eval_writer.specs.declared.Out.{Out}
use Rattle.eval_results.specs.Extents.Contracts.{ClipIs, inside_c, more_c, Bounded}
use Rattle.eval_results.specs.declared.extents.Extent.{Extent}
use Rattle.eval_results.specs.declared.values.Worked.{Worked}
use Rattle.eval_results.specs.declared.values.Made.{Made}

-- counters are not past their bound
abbrev pub WorkedWithin : Worked → Type 0
WorkedWithin (Worked.Done e) = Bounded e
WorkedWithin Worked.Undefined = Unit {0}
WorkedWithin (Worked.Needs n) = Unit {0}

abbrev pub MadeWithin : Made → Type 0
MadeWithin (Made.Done count e) = Bounded e
MadeWithin (Made.Needs n) = Unit {0}

-- one member more
abbrev pub one_more : ℕ → Extent → Worked → Made
one_more count e (Worked.Needs n) = Made.Needs n
one_more count e Worked.Undefined = Made.Done count e
one_more count e (Worked.Done m) = Made.Done (count + 1) (more_c e m)

pub record OneMoreIs (count : ℕ) (e : Extent) (v : Worked) (r : Made) : Type 0 where
  pub is : r ≡ one_more count e v

-- the head of members that were made
abbrev pub HeadedBy : Out → ℕ → Made → Worked → List ℕ → List ℕ → Type 0
HeadedBy o k (Made.Needs n) r b a = r ≡ Worked.Needs n
HeadedBy o k (Made.Done count e) r b a =
    (x : Extent) × (r ≡ Worked.Done x) × ClipIs e.out (e.deep + 1) x × Puts o.rec.0 (k ∷ two (inside_c o e.out)) b a

pub record HeadedIs (o : Out) (k : ℕ) (made : Made) (r : Worked) (b a : List ℕ) : Type 0 where
  pub is : HeadedBy o k made r b a

-- Why the functions keep what they promise, a law for each place where one returns.
use mathlib.Core.Path.{◌≡◌, refl, ap}
use Prim.Native.Nat.{ℕ, ◌+◌}
use mathlib.Core.List.{List, ◌∷◌}
use native.Mathlib.Omega.{arith}
use mir.Syntax.{w64}
use mir.Val.{Fits}
use Rattle.rules.specs.Sheet.{two}
use Rattle.eval_writer.specs.Clauses.{Puts}
use Rattle.eval_writer.specs.declared.Out.{Out}
use Rattle.eval_results.specs.Extents.Contracts.{ClipIs, inside_c, MoreIs}
use Rattle.eval_results.specs.declared.extents.Extent.{Extent}
use Rattle.eval_results.specs.Values.Contracts.{MadeWithin, OneMoreIs, HeadedIs}
use Rattle.eval_results.specs.declared.values.Worked.{Worked}
use Rattle.eval_results.specs.declared.values.Made.{Made}

module _ {count : ℕ} {e : Extent} {v : Worked} where
  pub more-needs : {n : ℕ} → v ≡ Worked.Needs n → OneMoreIs count e v (Made.Needs n)
  more-needs h = record { is = rw h refl }

  pub more-undefined : v ≡ Worked.Undefined → OneMoreIs count e v (Made.Done count e)
  more-undefined h = record { is = rw h refl }

  pub more-done : {m r : Extent} → v ≡ Worked.Done m → MoreIs e m r → OneMoreIs count e v (Made.Done (count + 1) r)
  more-done {m} {r} h k = record { is = rw h (ap (Made.Done (count + 1)) k.is) }

pub ruleset one-more-laws = (more-needs, more-undefined, more-done)

module _ {o : Out} {k : ℕ} {made : Made} {b : List ℕ} where
  pub headed-needs : {n : ℕ} → made ≡ Made.Needs n → HeadedIs o k made (Worked.Needs n) b b
  headed-needs h = record { is = rw h refl }

  pub headed-done : {a : List ℕ} {count n : ℕ} {e x : Extent} → made ≡ Made.Done count e → n ≡ inside_c o e.out → Puts o.rec.0 (k ∷ two n) b a
      → ClipIs e.out (e.deep + 1) x → HeadedIs o k made (Worked.Done x) b a
  headed-done {a} {count} {n} {e} {x} h i p c = record { is = rw h (x, refl, c, rw i at p) }

pub deep-fits : {made : Made} {count : ℕ} {e : Extent} → made ≡ Made.Done count e → MadeWithin made → Fits w64 (e.deep + 1)
deep-fits {made} {count} {e} h w = let q : MadeWithin (Made.Done count e) = rw h at w in omega (arith, q.deep)

pub ruleset headed-laws = (headed-needs, headed-done, deep-fits)

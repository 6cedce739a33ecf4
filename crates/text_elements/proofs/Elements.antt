-- One law for each answer of the functions on a path so far.
use mathlib.Core.Path.{◌≡◌, refl}
use mathlib.Core.Bool.{Bool, true, false}
use Prim.Native.Nat.{ℕ, ◌+◌}
use lib.Dec.{eqb}
use Rattle.text_chars.specs.declared.DocAt.{DocAt}
use Rattle.text_elements.specs.Model.{emptied, finish_c, quoted_c}
use Rattle.text_elements.specs.declared.Path.{Path}

module _ (p : Path) where
  pub empty-so-far : p.empty ≡ true → true ≡ emptied p
  unfolding emptied
  empty-so-far e = rw e

  pub quoted-not-empty : p.empty ≡ false → p.quotes ≡ true → false ≡ emptied p
  unfolding emptied
  quoted-not-empty e q = rw (e, q)

  pub empty-now : p.empty ≡ false → p.quotes ≡ false → eqb p.used.0 p.from.0 ≡ emptied p
  unfolding emptied
  empty-now e q = rw (e, q)

pub ruleset empties = (empty-so-far, quoted-not-empty, empty-now)

-- ---- the next element, and a quoted piece

pub next-is : (p : Path) (next : DocAt) (e : Bool) → e ≡ emptied p
    → record { count = p.count + 1; used = p.used; from = p.used; place = next; quotes = false; empty = e } ≡ finish_c next.0 p
unfolding finish_c
next-is p next e i = rw i

pub quoted-is : (p : Path) (n : ℕ)
    → record { count = p.count; used = record { 0 = p.used.0 + n }; from = p.from; place = p.place; quotes = true; empty = p.empty } ≡ quoted_c n p
unfolding quoted_c
quoted-is p n = refl

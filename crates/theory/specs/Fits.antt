-- What lies within a trail that fits its room, fits.
use Rattle.std.specs.Prelude.{◌≡◌, refl, ℕ, ◌≤◌, [], ◌∷◌, true, leb}
use Rattle.std.proofs.Common.{arith}
use borrow.Author.Tests.{le-leb, leb-true}
use Rattle.answers.specs.Ask.{Trail, Once}
use Rattle.answers.specs.Theory.Sound.{Within}
use Rattle.answers.specs.Theory.Complete.{Shrinks}
use Rattle.answers.specs.Theory.Budget.{total, within-total}
use Rattle.rules.specs.Values.{Answer}
use Rattle.rules.specs.Documents.{Setting}
use Rattle.rules.specs.Sheet.{entry_size, answer_text_size, trail_size, trail_text_size, trail_fits}
use Rattle.rules.specs.Jobs.{order_of}
use Rattle.theory.specs.Layout.{both_true}

trail-total : (S : Trail Answer) → trail_size S ≡ total (λ e. entry_size e.1) S
unfolding trail_size
trail-total [] = refl
trail-total (e ∷ S) = rw (trail-total S)

trail_text-total : (S : Trail Answer) → trail_text_size S ≡ total (λ e. answer_text_size e.1) S
unfolding trail_text_size
trail_text-total [] = refl
trail_text-total (e ∷ S) = rw (trail_text-total S)

module _ (S T : Trail Answer) (once : Once S) (within : Within S T) where
  pub within-trail_size : trail_size S ≤ trail_size T
  within-trail_size = omega (arith, trail-total S, trail-total T, within-total (λ e. entry_size e.1) S T once within)

  pub within-trail_text_size : trail_text_size S ≤ trail_text_size T
  within-trail_text_size = omega (arith, trail_text-total S, trail_text-total T, within-total (λ e. answer_text_size e.1) S T once within)

  pub within-fits : (a c : ℕ) → trail_fits a c T ≡ true → trail_fits a c S ≡ true
  unfolding trail_fits
  within-fits a c fits =
      let (f, g) = both_true (leb (trail_size T) a) (leb (trail_text_size T) c) fits in
      let h : trail_size S ≤ a = omega (arith, leb-true (trail_size T) a f, within-trail_size) in
      let k : trail_text_size S ≤ c = omega (arith, leb-true (trail_text_size T) c g, within-trail_text_size) in
      rw (trail_fits, le-leb (trail_size S) a h, le-leb (trail_text_size S) c k)

pub order-shrinks : (x : Setting) (a c : ℕ) → Shrinks (order_of x a c)
unfolding order_of
order-shrinks x a c S T once within fits = within-fits S T once within a c fits

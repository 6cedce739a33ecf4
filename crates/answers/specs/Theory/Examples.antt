-- The definitions run: small resolutions, and the theory used at them.
use Rattle.std.specs.Prelude.{◌≡◌, refl, ℕ, zero, suc, ◌+◌, ◌≤◌, Bool, true, [], ◌∷◌, leb, length}
use Rattle.std.proofs.Common.{arith}
use Rattle.answers.specs.Ask.{Ask, done, refused, need, Trail}
use Rattle.answers.specs.Resolve.{Rules, answer, refused, resolve, Accepts}
use Rattle.answers.specs.Theory.Restarts.{machine}
use Rattle.answers.specs.Theory.Fuel.{Closed}
use Rattle.answers.specs.Theory.Complete.{refuses-iff}
use Rattle.answers.specs.Theory.Budget.{exact}

data Why : Type 0 where
  circle : ℕ → Why
  too_many : ℕ → Why
  no_room : Why
  wrong : Why

-- 0 is 1 and one more, 1 is 5, 2 needs itself by way of 3, and 4 is refused
abbrev rules : ℕ → Ask Why ℕ ℕ
rules zero = need 1 (λ r. done (r + 1))
rules (suc zero) = done 5
rules (suc (suc zero)) = need 3 (λ r. done r)
rules (suc (suc (suc zero))) = need 2 (λ r. done r)
rules (suc (suc (suc (suc q)))) = refused wrong

abbrev fitting : (Trail ℕ → Bool) → Rules Why ℕ
fitting room = record { rule = rules; circular = circle; excess = too_many; full = no_room; fits = room }

abbrev two : Rules Why ℕ
two = fitting (λ S. leb (length S) 2)

abbrev sum : Ask Why ℕ ℕ
sum = need 0 (λ a. need 1 (λ b. done (a + b)))

abbrev ask : ℕ → Ask Why ℕ ℕ
ask q = need q (λ r. done r)

sums : resolve two 9 sum 5 ≡ answer 11 ((0, 6) ∷ (1, 5) ∷ []) 2
sums = refl

sums-machine : machine two 9 sum 11 [] [] 0 ≡ answer 11 ((0, 6) ∷ (1, 5) ∷ []) 2
sums-machine = refl

circular : resolve two 9 (ask 2) 5 ≡ refused (circle 2)
circular = refl

circular-machine : machine two 9 (ask 2) 11 [] [] 0 ≡ refused (circle 2)
circular-machine = refl

excess : resolve two 1 sum 5 ≡ refused (too_many 1)
excess = refl

full : resolve (fitting (λ S. leb (length S) 1)) 9 sum 5 ≡ refused no_room
full = refl

refuses : resolve two 9 (ask 4) 5 ≡ refused wrong
refuses = refl

-- ---- the theory at these rules

rules-closed : (room : Trail ℕ → Bool) → Closed (fitting room) 5
rules-closed room zero l = (omega arith, λ r. tt)
rules-closed room (suc zero) l = tt
rules-closed room (suc (suc zero)) l = (omega arith, λ r. tt)
rules-closed room (suc (suc (suc zero))) l = (omega arith, λ r. tt)
rules-closed room (suc (suc (suc (suc q)))) l = tt

-- two begins are enough for the sum
sums-at-two : (budget : ℕ) → 2 ≤ budget → resolve two budget sum 5 ≡ answer 11 ((0, 6) ∷ (1, 5) ∷ []) 2
sums-at-two budget l = exact two 9 budget sum 5 sums l

-- what needs itself is accepted with no trail
no-circle : (T : Trail ℕ) (v : ℕ) → Accepts (fitting (λ S. true)) (ask 2) T v → ⊥
no-circle T v a =
    (refuses-iff (fitting (λ S. true)) 5 (ask 2) 5 (rules-closed (λ S. true)) (omega arith, λ r. tt) (λ S T o w t. refl) (omega arith) refl
    ).0 (circle 2, refl) T v a refl

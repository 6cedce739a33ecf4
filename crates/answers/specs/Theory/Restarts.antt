-- A second way to work out what `resolve` does: by restarts. Each step runs the rules of the question on top of a stack, or the root's, from
-- their start; that it comes to the same is shown in Machine. The rules speak of `resolve` alone.
use Rattle.std.specs.Prelude.{ℕ, zero, suc, List, [], ◌∷◌}
use Rattle.std.proofs.Math.Option.{Option, none, some}
use Rattle.answers.specs.Ask.{Ask, Out, value, missing, run, Trail, lookup}
use Rattle.answers.specs.Resolve.{Rules, Res, answer, refused, dry, after, bar, lay}

-- what a restart does with a run's value, refusal or missing question
abbrev pub react : {F R A B : Type 0} → Out F A → (A → Res F R B) → (ℕ → Res F R B) → Res F R B
react (value a) pop push = pop a
react (Out.refused x) pop push = refused x
react (missing q) pop push = push q

-- a missing question is barred, or begins
abbrev pub unless : {F R A : Type 0} → Option F → (ℕ → Res F R A) → ℕ → Res F R A
unless (some x) push n = refused x
unless none push n = push (suc n)

module _ {F R : Type 0} (ρ : Rules F R) (budget : ℕ) where
  -- so many steps at most, from a stack, a trail and a count of those begun
  abbrev pub machine : {A : Type 0} → Ask F R A → ℕ → List ℕ → Trail R → ℕ → Res F R A
  machine root zero stack S n = dry
  machine root (suc m) [] S n =
      react (run (lookup S) root) (λ v. answer v S n)
      (λ q. unless (bar ρ budget [] n q) (machine root m (q ∷ []) S) n)
  machine root (suc m) (b ∷ bs) S n =
      react (run (lookup S) (ρ.rule b)) (λ r. after (lay ρ b (answer r S n)) (λ r' S' n'. machine root m bs S' n'))
      (λ q. unless (bar ρ budget (b ∷ bs) n q) (machine root m (q ∷ b ∷ bs) S) n)

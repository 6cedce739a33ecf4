-- Computations that need answers.
--
-- A question is a number. Its rules are an `Ask`: a computation that ends in a result, ends in a refusal, or needs another
-- question's answer before it goes on. What answers (R) and refusals (F) are is left open.
use Rattle.std.specs.Prelude.{◌≡◌, ℕ, Bool, true, false, cond, List, [], ◌∷◌, eqb}
use Rattle.std.proofs.Math.Option.{Option, none, some}

pub data Ask (F R A : Type 0) : Type 0 where
  done : A → Ask F R A
  refused : F → Ask F R A
  need : ℕ → (R → Ask F R A) → Ask F R A

-- one computation after another
abbrev pub bind : {F R A B : Type 0} → Ask F R A → (A → Ask F R B) → Ask F R B
bind (done a) k = k a
bind (refused x) k = refused x
bind (need q f) k = need q (λ r. bind (f r) k)

-- What a computation comes to against known answers: its value, its refusal, or the first question whose answer is missing.
pub data Out (F A : Type 0) : Type 0 where
  value : A → Out F A
  refused : F → Out F A
  missing : ℕ → Out F A

abbrev pub or_missing : {F R A : Type 0} → ℕ → (R → Out F A) → Option R → Out F A
or_missing q k none = missing q
or_missing q k (some r) = k r

abbrev pub run : {F R A : Type 0} → (ℕ → Option R) → Ask F R A → Out F A
run known (done a) = value a
run known (refused x) = refused x
run known (need q f) = or_missing q (λ r. run known (f r)) (known q)

-- what goes on after a run, where the run has a value
abbrev pub then : {F A B : Type 0} → Out F A → (A → Out F B) → Out F B
then (value a) k = k a
then (refused x) k = refused x
then (missing q) k = missing q

-- the questions whose answers a run takes
abbrev pub taken : {R : Type 0} → (R → List ℕ) → Option R → List ℕ
taken k none = []
taken k (some r) = k r

abbrev pub needs : {F R A : Type 0} → (ℕ → Option R) → Ask F R A → List ℕ
needs known (done a) = []
needs known (refused x) = []
needs known (need q f) = q ∷ taken (λ r. needs known (f r)) (known q)

-- A trail holds answered questions, THE NEWEST FIRST: an entry's tail is the trail that it was laid upon.
abbrev pub Trail : Type 0 → Type 0
Trail R = List (ℕ × R)

abbrev pub lookup : {R : Type 0} → Trail R → ℕ → Option R
lookup [] q = none
lookup (e ∷ S) q = cond (eqb e.0 q) (some e.1) (lookup S q)

abbrev pub mem : ℕ → List ℕ → Bool
mem q [] = false
mem q (b ∷ bs) = cond (eqb b q) true (mem q bs)

-- no question stands twice
abbrev pub Once : {R : Type 0} → Trail R → Type 0
Once [] = Unit {0}
Once (e ∷ S) = (lookup S e.0 ≡ none) × Once S

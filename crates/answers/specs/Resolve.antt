-- The order of working out, `resolve`; and `Accepts`, the test of a trail that anybody made.
use Rattle.std.specs.Prelude.{◌≡◌, ℕ, zero, suc, Bool, cond, List, [], ◌∷◌, ltb}
use Rattle.std.proofs.Math.Option.{Option, none, some}
use Rattle.answers.specs.Ask.{Ask, done, need, value, run, Trail, lookup, mem}

-- What a resolution goes by: each question's rules, the three refusals of the order, and which trails fit their room.
pub record Rules (F R : Type 0) : Type 0 where
  pub rule : ℕ → Ask F R R
  -- the question is needed while it is being worked out
  pub circular : ℕ → F
  -- the question would begin past the budget
  pub excess : ℕ → F
  -- an entry does not fit
  pub full : F
  pub fits : Trail R → Bool

-- a resolution's result: a value with the trail and the count of questions begun; a refusal; or out of fuel
pub data Res (F R A : Type 0) : Type 0 where
  answer : A → Trail R → ℕ → Res F R A
  refused : F → Res F R A
  dry : Res F R A

abbrev pub after : {F R A B : Type 0} → Res F R A → (A → Trail R → ℕ → Res F R B) → Res F R B
after (answer a S n) k = k a S n
after (refused x) k = refused x
after dry k = dry

-- one computation, each need handed to `h`
abbrev pub walk : {F R A : Type 0} → (ℕ → Trail R → ℕ → Res F R R) → Trail R → ℕ → Ask F R A → Res F R A
walk h S n (done a) = answer a S n
walk h S n (Ask.refused x) = refused x
walk h S n (need q f) = after (h q S n) (λ r S' n'. walk h S' n' (f r))

-- a needed question: its answer is in the trail; or it is barred; or it begins, one more
abbrev pub enter : {F R : Type 0} → Option R → Option F → Trail R → ℕ → (ℕ → Res F R R) → Res F R R
enter (some r) x S n go = answer r S n
enter none (some x) S n go = refused x
enter none none S n go = go (suc n)

module _ {F R : Type 0} (ρ : Rules F R) where
  -- why question q may not begin, where n have begun and `busy` are being worked out
  abbrev pub bar : ℕ → List ℕ → ℕ → ℕ → Option F
  bar budget busy n q = cond (mem q busy) (some (ρ.circular q)) (cond (ltb n budget) none (some (ρ.excess q)))

  -- question q's answer becomes the trail's next entry
  abbrev pub lay : ℕ → Res F R R → Res F R R
  lay q (answer r S n) = cond (ρ.fits ((q, r) ∷ S)) (answer r ((q, r) ∷ S) n) (refused ρ.full)
  lay q (refused x) = refused x
  lay q dry = dry

  -- no question twice, and every entry's answer is what its rules give with the needed answers taken from the entries before it
  abbrev pub Laid : Trail R → Type 0
  Laid [] = Unit {0}
  Laid (e ∷ S) = (lookup S e.0 ≡ none) × (run (lookup S) (ρ.rule e.0) ≡ value e.1) × Laid S

  pub record Accepts {A : Type 0} (root : Ask F R A) (T : Trail R) (v : A) : Type 0 where
    pub laid : Laid T
    pub root-runs : run (lookup T) root ≡ value v

  module _ (budget : ℕ) where
    -- what becomes of a needed question, by recursion; the fuel bounds how many are worked out inside one another
    abbrev pub worked : ℕ → List ℕ → ℕ → Trail R → ℕ → Res F R R
    worked zero busy q S n = enter (lookup S q) (bar budget busy n q) S n (λ m. dry)
    worked (suc k) busy q S n =
        enter (lookup S q) (bar budget busy n q) S n (λ m. lay q (walk (worked k (q ∷ busy)) S m (ρ.rule q)))

    -- the root's value, where the questions are 0 to N - 1
    abbrev pub resolve : {A : Type 0} → Ask F R A → ℕ → Res F R A
    resolve root N = walk (worked N []) [] 0 root

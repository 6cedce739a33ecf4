-- A larger budget gives the same result, unless the smaller one was spent.
use Rattle.std.specs.Prelude.{◌≡◌, refl, ℕ, zero, suc, ◌≤◌, Bool, true, false, cond, List, [], ◌∷◌, ◌⊎◌, ltb}
use Rattle.std.proofs.Common.{ap, inl, inr, arith, ltb-true, lt-ltb}
use Rattle.std.proofs.Math.Option.{Option, none, some}
use Rattle.answers.specs.Ask.{Ask, done, refused, need, Trail, lookup, mem}
use Rattle.answers.specs.Resolve.{Rules, Res, answer, refused, dry, after, walk, enter, bar, lay, worked, resolve}
use Rattle.answers.specs.Theory.Holds.{Handler}

module _ {F R : Type 0} (ρ : Rules F R) where
  -- a question would have begun past the budget
  abbrev pub Spent : {A : Type 0} → Res F R A → Type 0
  Spent m = (q : ℕ) × (m ≡ refused (ρ.excess q))

  abbrev pub Agree : {A : Type 0} → Res F R A → Res F R A → Type 0
  Agree m m' = Spent m ⊎ (m ≡ m')

  after_same : {A B : Type 0} (m : Res F R A) (k k' : A → Trail R → ℕ → Res F R B)
      → ((a : A) (S : Trail R) (n : ℕ) → Agree (k a S n) (k' a S n)) → Agree (after m k) (after m k')
  after_same (answer a S n) k k' h = h a S n
  after_same (refused x) k k' h = inr refl
  after_same dry k k' h = inr refl

  after-agree : {A B : Type 0} {m m' : Res F R A} (k k' : A → Trail R → ℕ → Res F R B) → Agree m m'
      → ((a : A) (S : Trail R) (n : ℕ) → Agree (k a S n) (k' a S n)) → Agree (after m k) (after m' k')
  after-agree k k' (inl (q, e)) h = inl (q, rw e)
  after-agree {m' = m'} k k' (inr e) h = rw e (after_same m' k k' h)

  lay-agree : (q : ℕ) {m m' : Res F R R} → Agree m m' → Agree (lay ρ q m) (lay ρ q m')
  lay-agree q (inl (j, e)) = inl (j, rw e)
  lay-agree q (inr e) = inr (ap (lay ρ q) e)

  walk-agree : {A : Type 0} (h h' : Handler F R) → ((q : ℕ) (S : Trail R) (n : ℕ) → Agree (h q S n) (h' q S n))
      → (t : Ask F R A) (S : Trail R) (n : ℕ) → Agree (walk h S n t) (walk h' S n t)
  walk-agree h h' H (done a) S n = inr refl
  walk-agree h h' H (refused x) S n = inr refl
  walk-agree h h' H (need q f) S n = after-agree _ _ (H q S n) (λ r S' n'. walk-agree h h' H (f r) S' n')

  module _ (budget budget' : ℕ) (more : budget ≤ budget') where
    -- a needed question, where the two go on alike once it begins
    enter-agree : (o : Option R) (busy : List ℕ) (q : ℕ) (S : Trail R) (n : ℕ) (go go' : ℕ → Res F R R) → Agree (go (suc n)) (go' (suc n))
        → Agree (enter o (bar ρ budget busy n q) S n go) (enter o (bar ρ budget' busy n q) S n go')
    enter-agree (some r) busy q S n go go' h = inr refl
    enter-agree none busy q S n go go' h = by (mem q busy) (ltb n budget) refl
      where
        -- the two bars, from the tests
        barred : Bool → Bool → Option F
        barred s t = cond s (some (ρ.circular q)) (cond t none (some (ρ.excess q)))

        by : (s t : Bool) → ltb n budget ≡ t → Agree (enter none (barred s t) S n go) (enter none (barred s (ltb n budget')) S n go')
        by true t e = inr refl
        by false true e = rw (lt-ltb n budget' (omega (arith, ltb-true n budget e))) h
        by false false e = inl (q, refl)

    worked-agree : (k : ℕ) (busy : List ℕ) (q : ℕ) (S : Trail R) (n : ℕ) → Agree (worked ρ budget k busy q S n) (worked ρ budget' k busy q S n)
    worked-agree zero busy q S n = enter-agree (lookup S q) busy q S n _ _ (inr refl)
    worked-agree (suc k) busy q S n =
        enter-agree (lookup S q) busy q S n _ _ (lay-agree q (walk-agree _ _ (worked-agree k (q ∷ busy)) (ρ.rule q) S (suc n)))

    pub mono : {A : Type 0} (root : Ask F R A) (N : ℕ) → Agree (resolve ρ budget root N) (resolve ρ budget' root N)
    mono root N = walk-agree _ _ (worked-agree N []) root [] 0

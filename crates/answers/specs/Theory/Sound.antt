-- What a resolution does to the trail: nothing is lost, what is being worked out stays out, each entry is laid upon what it needs.
-- So what it hands back is accepted, at any budget and in any room.
use Rattle.std.specs.Prelude.{◌≡◌, refl, ℕ, zero, suc, ◌+◌, ◌≤◌, ◌<◌, Bool, true, false, cond, List, [], ◌∷◌, ◌⊎◌, length, eqb, ltb}
use Rattle.std.proofs.Common.{◌∙◌, inl, inr, arith, ltb-true, eqb-true, eq-eqb, ne_eqb}
use Rattle.std.proofs.Math.Option.{Option, none, some}
use Rattle.answers.specs.Ask.{Ask, done, refused, need, value, or_missing, run, Trail, lookup, mem}
use Rattle.answers.specs.Resolve.{Rules, answer, walk, bar, Laid, Accepts, worked, resolve}
use Rattle.answers.specs.Theory.Holds.{Handler, answers, refuses, dries, Partly, of-answer, holds-map, after_holds, lay-holds, enter-holds}

-- where two different constructors are equal, anything is: `clash (cc)`
pub clash : {A : Type 0} → ◌≡◌ {A = ℕ} 0 1 → A
clash e = absurd (omega arith)

-- ---- lookups and members

-- every answer of S is T's
abbrev pub Within : {R : Type 0} → Trail R → Trail R → Type 0
Within {R} S T = (q : ℕ) (r : R) → lookup S q ≡ some r → lookup T q ≡ some r

module _ {R : Type 0} (e : ℕ × R) (S : Trail R) where
  pub lookup-new : lookup (e ∷ S) e.0 ≡ some e.1
  lookup-new = rw (eq-eqb e.0 e.0 refl)

  pub lookup-other : (q : ℕ) → (e.0 ≡ q → ⊥) → lookup (e ∷ S) q ≡ lookup S q
  lookup-other q h = rw (ne_eqb e.0 q h)

  -- an answer is the newest entry's, or an older one's
  pub lookup-cases : (q : ℕ) (r : R) → lookup (e ∷ S) q ≡ some r → ((e.0 ≡ q) × (e.1 ≡ r)) ⊎ (lookup S q ≡ some r)
  lookup-cases q r h = go (eqb e.0 q) refl h
    where
      go : (t : Bool) → eqb e.0 q ≡ t → cond t (some e.1) (lookup S q) ≡ some r → ((e.0 ≡ q) × (e.1 ≡ r)) ⊎ (lookup S q ≡ some r)
      go true b k = inl (eqb-true e.0 q b, cc)
      go false b k = inr k

  -- an entry of a new question hides nothing
  pub lookup-keeps : lookup S e.0 ≡ none → Within S (e ∷ S)
  lookup-keeps new q r h = lookup-other q (λ z. clash (cc)) ∙ h

pub mem-new : (q : ℕ) (qs : List ℕ) → mem q (q ∷ qs) ≡ true
mem-new q qs = rw (eq-eqb q q refl)

pub mem-cases : (b : ℕ) (bs : List ℕ) (q : ℕ) → mem q (b ∷ bs) ≡ true → (b ≡ q) ⊎ (mem q bs ≡ true)
mem-cases b bs q h = go (eqb b q) refl h
  where
    go : (t : Bool) → eqb b q ≡ t → cond t true (mem q bs) ≡ true → (b ≡ q) ⊎ (mem q bs ≡ true)
    go true e k = inl (eqb-true b q e)
    go false e k = inr k

pub mem-more : (b : ℕ) (bs : List ℕ) (q : ℕ) → mem q bs ≡ true → mem q (b ∷ bs) ≡ true
mem-more b bs q e = go (eqb b q)
  where
    go : (t : Bool) → cond t true (mem q bs) ≡ true
    go true = refl
    go false = e

abbrev pub All : (ℕ → Type 0) → List ℕ → Type 0
All P [] = Unit {0}
All P (q ∷ qs) = P q × All P qs

-- ---- runs

-- a run past a need has the needed answer
pub run-inv : {F R A : Type 0} (known : ℕ → Option R) (q : ℕ) (f : R → Ask F R A) {a : A} → run known (need q f) ≡ value a
    → (r : R) × (known q ≡ some r) × (run known (f r) ≡ value a)
run-inv {F} {R} known q f {a} e = go (known q) refl e
  where
    go : (o : Option R) → known q ≡ o → or_missing q (λ r. run known (f r)) o ≡ value a → (r : R) × (known q ≡ some r) × (run known (f r) ≡ value a)
    go none h k = clash (cc)
    go (some r) h k = (r, h, k)

-- a run that has its value keeps it where answers are added
pub run-keeps : {F R A : Type 0} (S T : Trail R) → Within S T → (t : Ask F R A) {a : A} → run (lookup S) t ≡ value a → run (lookup T) t ≡ value a
run-keeps S T w (done a) e = e
run-keeps S T w (refused x) e = e
run-keeps S T w (need q f) e =
    let (r, h, k) = run-inv (lookup S) q f e in
    rw (w q r h) (run-keeps S T w (f r) k)

-- ---- what a stretch of work does to the trail and the count, where `busy` are being worked out

module _ {F R : Type 0} (ρ : Rules F R) (budget : ℕ) where
  pub bar-none : (busy : List ℕ) (n q : ℕ) → bar ρ budget busy n q ≡ none → (mem q busy ≡ false) × (n < budget)
  bar-none busy n q e = go (mem q busy) (ltb n budget) refl refl e
    where
      go : (s t : Bool) → mem q busy ≡ s → ltb n budget ≡ t → cond s (some (ρ.circular q)) (cond t none (some (ρ.excess q))) ≡ none
          → (mem q busy ≡ false) × (n < budget)
      go true t h k z = clash (cc)
      go false true h k z = (h, ltb-true n budget k)
      go false false h k z = clash (cc)

  pub bar-some : (busy : List ℕ) (n q : ℕ) {x : F} → bar ρ budget busy n q ≡ some x → (x ≡ ρ.circular q) ⊎ (x ≡ ρ.excess q)
  bar-some busy n q {x} e = go (mem q busy) (ltb n budget) e
    where
      go : (s t : Bool) → cond s (some (ρ.circular q)) (cond t none (some (ρ.excess q))) ≡ some x → (x ≡ ρ.circular q) ⊎ (x ≡ ρ.excess q)
      go true t z = inl (cc)
      go false true z = clash (cc)
      go false false z = inr (cc)

  pub record Step (busy : List ℕ) (S : Trail R) (n : ℕ) (S' : Trail R) (n' : ℕ) : Type 0 where
    pub laid : Laid ρ S → Laid ρ S'
    pub keeps : Within S S'
    pub spares : (q : ℕ) → mem q busy ≡ true → lookup S q ≡ none → lookup S' q ≡ none
    pub counts : n' + length S ≡ n + length S'
    pub afford : n ≤ budget → n' ≤ budget
    pub fit : ρ.fits S ≡ true → ρ.fits S' ≡ true

  step-refl : (busy : List ℕ) (S : Trail R) (n : ℕ) → Step busy S n S n
  step-refl busy S n = record { laid = λ h. h; keeps = λ q r h. h; spares = λ q m h. h; counts = refl; afford = λ h. h; fit = λ h. h }

  step-trans : {busy : List ℕ} {S₁ S₂ S₃ : Trail R} {n₁ n₂ n₃ : ℕ} → Step busy S₁ n₁ S₂ n₂ → Step busy S₂ n₂ S₃ n₃ → Step busy S₁ n₁ S₃ n₃
  step-trans a b = record {
    laid = λ h. b.laid (a.laid h);
    keeps = λ q r h. b.keeps q r (a.keeps q r h);
    spares = λ q m h. b.spares q m (a.spares q m h);
    counts = omega (arith, a.counts, b.counts);
    afford = λ h. b.afford (a.afford h);
    fit = λ h. b.fit (a.fit h);
  }

  -- a question that begins where it is not in the trail, and is laid with what its rules give
  step-lay : {busy : List ℕ} {S S' : Trail R} {n n' : ℕ} (q : ℕ) (r : R) → mem q busy ≡ false → n < budget → lookup S q ≡ none
      → Step (q ∷ busy) S (suc n) S' n' → run (lookup S') (ρ.rule q) ≡ value r → ρ.fits ((q, r) ∷ S') ≡ true
      → Step busy S n ((q, r) ∷ S') n'
  step-lay {busy} {S} {S'} {n} {n'} q r idle room new a runs fits =
      let still-new : lookup S' q ≡ none = a.spares q (mem-new q busy) new in
      record {
        laid = λ l. (still-new, runs, a.laid l);
        keeps = λ j x h. lookup-keeps (q, r) S' still-new j x (a.keeps j x h);
        spares = λ j m h. lookup-other (q, r) S' j (λ z. clash (cc)) ∙ a.spares j (mem-more q busy j m) h;
        counts = omega (arith, a.counts);
        afford = λ h. a.afford room;
        fit = λ h. fits;
      }

  -- a handler of needs: what it answers is in the trail that it leaves
  abbrev pub Handles : List ℕ → Handler F R → Type 0
  Handles busy h = (q : ℕ) (S : Trail R) (n : ℕ) → Partly (λ r S' n'. Step busy S n S' n' × (lookup S' q ≡ some r)) (h q S n)

  -- a walk by such a handler answers what a run against the trail that it leaves gives
  walk_step : {A : Type 0} {busy : List ℕ} (h : Handler F R) → Handles busy h → (t : Ask F R A) (S : Trail R) (n : ℕ)
      → Partly (λ a S' n'. Step busy S n S' n' × (run (lookup S') t ≡ value a)) (walk h S n t)
  walk_step {busy = busy} h H (done a) S n = answers (step-refl busy S n, refl)
  walk_step h H (refused x) S n = refuses tt
  walk_step h H (need q f) S n =
      after_holds (H q S n) (λ r S₁ n₁ a.
      holds-map (λ v S' n' b. (step-trans a.0 b.0, rw (b.0.keeps q r a.1) b.1)) (walk_step h H (f r) S₁ n₁))

  pub worked-step : (k : ℕ) (busy : List ℕ) → Handles busy (worked ρ budget k busy)
  worked-step zero busy q S n =
      enter-holds S n _ (lookup S q) (bar ρ budget busy n q) (λ r e. (step-refl busy S n, e)) (λ x new e. tt) (λ new e. dries tt)
  worked-step (suc k) busy q S n =
      enter-holds S n _ (lookup S q) (bar ρ budget busy n q) (λ r e. (step-refl busy S n, e)) (λ x new e. tt) (λ new e.
      let h = worked ρ budget k (q ∷ busy) in
      let (idle, room) = bar-none busy n q e in
      lay-holds ρ q (walk_step h (worked-step k (q ∷ busy)) (ρ.rule q) S (suc n))
      (λ r S' n' a fits. (step-lay q r idle room new a.0 a.1 fits, lookup-new (q, r) S')) (λ r S' n' a full. tt))

  -- ---- a resolution's answer

  module _ {A : Type 0} (root : Ask F R A) (N : ℕ) {v : A} {S : Trail R} {n : ℕ} (e : resolve ρ budget root N ≡ answer v S n) where
    resolved : Step [] [] 0 S n × (run (lookup S) root ≡ value v)
    resolved = of-answer (rw e at (walk_step (worked ρ budget N []) (worked-step N []) root [] 0))

    pub count : n ≡ length S
    count = omega (arith, resolved.0.counts)

    pub accepted : Accepts ρ root S v
    accepted = record { laid = resolved.0.laid tt; root-runs = resolved.1 }

    pub affordable : n ≤ budget
    affordable = resolved.0.afford (omega arith)

    pub fitting : ρ.fits [] ≡ true → ρ.fits S ≡ true
    fitting = resolved.0.fit

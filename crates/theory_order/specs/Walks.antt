-- Laws of a walk (`walk` of `answers`): it goes by parts; it is a run that starts again whenever an answer has come; what it made is
-- there at its end. Nothing here knows what questions, answers and refusals are.
use Rattle.std.specs.Prelude.{◌≡◌, refl, ℕ, zero, suc, ◌≤◌, List, true, length}
use Rattle.std.proofs.Common.{sym, ◌∙◌, arith}
use Rattle.std.proofs.Math.Option.{Option, none, some}
use Rattle.answers.specs.Ask.{Ask, done, need, bind, Out, value, missing, or_missing, run, Trail, lookup}
use Rattle.answers.specs.Resolve.{Rules, Res, answer, refused, dry, after, walk, Laid, worked}
use Rattle.answers.specs.Theory.Sound.{clash, Within, Step, worked-step, run-keeps}
use Rattle.answers.specs.Theory.Holds.{Handler, answers, refuses, dries, Partly, Wet, of-answer, holds-map, after_holds, after_cong}
use Rattle.answers.specs.Theory.Fuel.{Below}

-- ---- what comes of a run: its value goes on, a refusal is the end, a missing question goes on in another way

abbrev pub proceed : {F R A B : Type 0} → Out F A → (A → Res F R B) → (ℕ → Res F R B) → Res F R B
proceed (value a) found ask = found a
proceed (Out.refused x) found ask = refused x
proceed (missing q) found ask = ask q

pub proceed-cong : {F R A B : Type 0} (o : Out F A) {found found' : A → Res F R B} {ask ask' : ℕ → Res F R B}
    → ((a : A) → o ≡ value a → found a ≡ found' a) → ((q : ℕ) → o ≡ missing q → ask q ≡ ask' q)
    → proceed o found ask ≡ proceed o found' ask'
proceed-cong (value a) f g = f a refl
proceed-cong (Out.refused x) f g = refl
proceed-cong (missing q) f g = g q refl

-- a run's value with the trail and the count; nothing where an answer is missing
abbrev pub finish : {F R A : Type 0} → Out F A → Trail R → ℕ → Res F R A
finish o S n = proceed o (λ a. answer a S n) (λ q. dry)

-- ---- how a stretch of work ended: with a trail and a count, or with a refusal; the value is left out

abbrev pub Ended : Type 0 → Type 0 → Type 0
Ended F R = Res F R (Unit {0})

abbrev pub forget : {F R A : Type 0} → Res F R A → Ended F R
forget (answer a S n) = answer tt S n
forget (refused x) = refused x
forget dry = dry

pub forget-answer : {F R A : Type 0} (m : Res F R A) {S : Trail R} {n : ℕ} → forget m ≡ answer tt S n → (a : A) × (m ≡ answer a S n)
forget-answer (answer a S n) e = (a, cc)
forget-answer (refused x) e = clash (cc)
forget-answer dry e = clash (cc)

pub forget-refused : {F R A : Type 0} (m : Res F R A) {x : F} → forget m ≡ refused x → m ≡ refused x
forget-refused (answer a S n) e = clash (cc)
forget-refused (refused x) e = cc
forget-refused dry e = clash (cc)

pub forget-wet : {F R A : Type 0} {m : Res F R A} → Wet m → Wet (forget m)
forget-wet (answers h) = answers tt
forget-wet (refuses h) = refuses tt
forget-wet (dries h) = dries h

pub forget-holds : {F R A : Type 0} {Q : Trail R → ℕ → Type 0} {m : Res F R A}
    → Partly (λ _ S n. Q S n) m → Partly (λ _ S n. Q S n) (forget m)
forget-holds (answers h) = answers h
forget-holds (refuses h) = refuses h
forget-holds (dries h) = dries h

-- ---- one stretch after another

pub after-answer : {F R A : Type 0} (m : Res F R A) → after m (λ a S n. answer a S n) ≡ m
after-answer (answer a S n) = refl
after-answer (refused x) = refl
after-answer dry = refl

pub after-end : {F R A : Type 0} (m : Res F R A) → after m (λ a S n. answer tt S n) ≡ forget m
after-end (answer a S n) = refl
after-end (refused x) = refl
after-end dry = refl

-- what goes on does not see the value
pub after-forget : {F R A B : Type 0} (m : Res F R A) (k : Trail R → ℕ → Res F R B)
    → after (forget m) (λ _ S n. k S n) ≡ after m (λ _ S n. k S n)
after-forget (answer a S n) k = refl
after-forget (refused x) k = refl
after-forget dry k = refl

pub forget-after : {F R A B : Type 0} (m : Res F R A) (k : A → Trail R → ℕ → Res F R B)
    → forget (after m k) ≡ after m (λ a S n. forget (k a S n))
forget-after (answer a S n) k = refl
forget-after (refused x) k = refl
forget-after dry k = refl

pub after-after : {F R A B C : Type 0} (m : Res F R A) (k : A → Trail R → ℕ → Res F R B) (l : B → Trail R → ℕ → Res F R C)
    → after (after m k) l ≡ after m (λ a S n. after (k a S n) l)
after-after (answer a S n) k l = refl
after-after (refused x) k l = refl
after-after dry k l = refl

pub walk-bind : {F R A B : Type 0} (h : Handler F R) (m : Ask F R A) (f : A → Ask F R B) (S : Trail R) (n : ℕ)
    → walk h S n (bind m f) ≡ after (walk h S n m) (λ a S' n'. walk h S' n' (f a))
walk-bind h (done a) f S n = refl
walk-bind h (Ask.refused x) f S n = refl
walk-bind {F} {R} {A} {B} h (need q g) f S n = go (h q S n) (λ r S' n'. walk-bind h (g r) f S' n')
  where
    go : (m : Res F R R)
        → ((r : R) (S' : Trail R) (n' : ℕ) → walk h S' n' (bind (g r) f) ≡ after (walk h S' n' (g r)) (λ a S'' n''. walk h S'' n'' (f a)))
        → after m (λ r S' n'. walk h S' n' (bind (g r) f))
        ≡ after (after m (λ r S' n'. walk h S' n' (g r))) (λ a S'' n''. walk h S'' n'' (f a))
    go (answer r S' n') ih = ih r S' n'
    go (refused x) ih = refl
    go dry ih = refl

-- what the first part needs is below N where all that is needed is
pub below-first : {F R A B : Type 0} (N : ℕ) (t : Ask F R A) (k : A → Ask F R B) → Below N (bind t k) → Below N t
below-first N (done a) k w = tt
below-first N (Ask.refused x) k w = tt
below-first N (need q f) k w = (w.0, λ r. below-first N (f r) k (w.1 r))

-- ---- handlers that keep P; their answers are in the trail that they leave, which only grows

pub record Serves {F R : Type 0} (P : Trail R → ℕ → Type 0) (h : Handler F R) : Type 0 where
  pub gives : (q : ℕ) (S : Trail R) (n : ℕ) → Partly (λ r S' n'. (P S n → P S' n') × Within S S' × (lookup S' q ≡ some r)) (h q S n)
  pub known : (q : ℕ) (S : Trail R) (n : ℕ) (r : R) → lookup S q ≡ some r → h q S n ≡ answer r S n

-- P that asks nothing
abbrev pub Any : {R : Type 0} → Trail R → ℕ → Type 0
Any S n = Unit {0}

pub serves-any : {F R : Type 0} {P : Trail R → ℕ → Type 0} {h : Handler F R} → Serves P h → Serves Any h
serves-any H = record {
  gives = λ q S n. holds-map (λ r S' n' a. (λ _. tt, a.1, a.2)) (H.gives q S n);
  known = H.known;
}

module _ {F R : Type 0} (ρ : Rules F R) (budget : ℕ) where
  -- what is kept wherever nothing is being worked out
  pub record Kept (S : Trail R) (n : ℕ) : Type 0 where
    pub laid : Laid ρ S
    pub counted : n ≡ length S
    pub afforded : n ≤ budget
    pub fitting : ρ.fits S ≡ true

  -- the handler of `resolve` is such a one
  pub worked-serves : (k : ℕ) (busy : List ℕ) → Serves Kept (worked ρ budget k busy)
  worked-serves k busy = record {
    gives = λ q S n. holds-map (λ r S' n' a. (on S n S' n' a.0, a.0.keeps, a.1)) (worked-step ρ budget k busy q S n);
    known = there k;
  }
    where
      there : (k q : ℕ) (S : Trail R) (n : ℕ) (r : R) → lookup S q ≡ some r → worked ρ budget k busy q S n ≡ answer r S n
      there zero q S n r e = rw e
      there (suc k) q S n r e = rw e

      on : (S : Trail R) (n : ℕ) (S' : Trail R) (n' : ℕ) → Step ρ budget busy S n S' n' → Kept S n → Kept S' n'
      on S n S' n' s k = record {
        laid = s.laid k.laid;
        counted = omega (arith, s.counts, k.counted);
        afforded = s.afford k.afforded;
        fitting = s.fit k.fitting;
      }

-- ---- a walk by such a handler

-- a walk of t, whose run comes to o: where a question is missing, that question and the same walk again
abbrev pub Restarts : {F R A : Type 0} → Handler F R → Trail R → ℕ → Ask F R A → Out F A → Type 0
Restarts h S n t o = walk h S n t ≡ proceed o (λ a. answer a S n) (λ q. after (h q S n) (λ r S' n'. walk h S' n' t))

module _ {F R : Type 0} {P : Trail R → ℕ → Type 0} {h : Handler F R} (H : Serves P h) where
  pub walk-restarts : {A : Type 0} (t : Ask F R A) (S : Trail R) (n : ℕ) → Restarts h S n t (run (lookup S) t)
  walk-restarts (done a) S n = refl
  walk-restarts (Ask.refused x) S n = refl
  walk-restarts (need q f) S n = go (lookup S q) refl (λ r. walk-restarts (f r) S n)
    where
      again : (r : R) (S' : Trail R) (n' : ℕ) → lookup S' q ≡ some r → walk h S' n' (f r) ≡ walk h S' n' (need q f)
      again r S' n' e = rw (H.known q S' n' r e)

      go : (o : Option R) → lookup S q ≡ o → ((r : R) → Restarts h S n (f r) (run (lookup S) (f r)))
          → Restarts h S n (need q f) (or_missing q (λ r. run (lookup S) (f r)) o)
      go none e ih = after_cong (H.gives q S n) (λ r S' n' a. again r S' n' a.2)
      go (some r) e ih =
          sym (again r S n e) ∙ ih r
          ∙ proceed-cong (run (lookup S) (f r)) (λ a _. refl)
          (λ j _. after_cong (H.gives j S n) (λ r₁ S' n' a. again r S' n' (a.1 q r e)))

  -- where nothing is missing it is the run
  pub walk-now : {A : Type 0} (t : Ask F R A) (S : Trail R) (n : ℕ) {a : A} → run (lookup S) t ≡ value a → walk h S n t ≡ answer a S n
  walk-now t S n e = walk-restarts t S n ∙ rw e

  -- what a walk answers is what a run against the trail that it leaves gives; the trail only grows, and P is kept
  pub walk-leaves : {A : Type 0} (t : Ask F R A) (S : Trail R) (n : ℕ)
      → Partly (λ a S' n'. (P S n → P S' n') × Within S S' × (run (lookup S') t ≡ value a)) (walk h S n t)
  walk-leaves (done a) S n = answers (λ p. p, λ q r e. e, refl)
  walk-leaves (Ask.refused x) S n = refuses tt
  walk-leaves (need q f) S n =
      after_holds (H.gives q S n) (λ r S₁ n₁ a.
      holds-map (λ v S' n' b. (λ p. b.0 (a.0 p), λ j s e. b.1 j s (a.1 j s e), rw (b.1 q r a.2) b.2)) (walk-leaves (f r) S₁ n₁))

  pub walk-keeps : {A : Type 0} (t : Ask F R A) (S : Trail R) (n : ℕ) → P S n
      → Partly (λ _ S' n'. P S' n' × Within S S') (forget (walk h S n t))
  walk-keeps t S n p = forget-holds (holds-map (λ _ S' n' a. (a.0 p, a.1)) (walk-leaves t S n))

  -- what a walk made is there where it ended, and with every answer that comes later
  pub walk-found : {A : Type 0} (t : Ask F R A) (S : Trail R) (n : ℕ) (S' : Trail R) (n' : ℕ) → P S n
      → forget (walk h S n t) ≡ answer tt S' n'
      → (a : A) × (walk h S n t ≡ answer a S' n') × ((T : Trail R) → Within S' T → run (lookup T) t ≡ value a) × P S' n' × Within S S'
  walk-found t S n S' n' p e =
      let (a, w) = forget-answer (walk h S n t) e in
      let (on, grows, runs) = of-answer (rw w at (walk-leaves t S n)) in
      (a, w, λ T k. run-keeps S' T k t runs, on p, grows)

  -- so it may be taken by a run at the end: nothing is missing any more
  pub walk-finish : {A : Type 0} (t : Ask F R A) (S : Trail R) (n : ℕ)
      → after (forget (walk h S n t)) (λ _ S' n'. finish (run (lookup S') t) S' n') ≡ walk h S n t
  walk-finish t S n =
      after-forget (walk h S n t) (λ S' n'. finish (run (lookup S') t) S' n')
      ∙ after_cong (walk-leaves t S n) (λ a S' n' b. rw b.2)
      ∙ after-answer (walk h S n t)

  -- what is needed after a walk is below N where all that is needed is
  pub walk-below : {A B : Type 0} (N : ℕ) (t : Ask F R A) (k : A → Ask F R B) → Below N (bind t k) → (S : Trail R) (n : ℕ)
      → Partly (λ a S' n'. Below N (k a)) (walk h S n t)
  walk-below N (done a) k w S n = answers w
  walk-below N (Ask.refused x) k w S n = refuses tt
  walk-below N (need q f) k w S n = after_holds (H.gives q S n) (λ r S' n' _. walk-below N (f r) k (w.1 r) S' n')

-- `ready`: a computation is run against the answers so far; a missing one is worked out, and it is run again. That is its walk.
use Rattle.std.specs.Prelude.{◌≡◌, refl, ℕ, zero, suc, ◌<◌, true, []}
use Rattle.std.proofs.Common.{sym, ◌∙◌, arith}
use Rattle.std.proofs.Math.Option.{Option, none, some}
use Rattle.answers.specs.Ask.{Ask, Out, run, Trail, lookup}
use Rattle.answers.specs.Resolve.{Res, answer, dry, after, walk}
use Rattle.answers.specs.Theory.Sound.{clash, Within}
use Rattle.answers.specs.Theory.Holds.{Handler, Partly, holds-map, after_cong}
use Rattle.answers.specs.Theory.Fuel.{free-le, free-drop, has, begun, left, Below}
use Rattle.answers.specs.Theory.Machine.{run-missing}
use Rattle.theory_order.specs.Walks.{proceed, proceed-cong, Ended, forget, forget-holds, after-forget, Serves, Any, serves-any, walk-restarts}

-- what works a missing question out, from a trail and a count
abbrev pub Worker : Type 0 → Type 0 → Type 0
Worker F R = ℕ → Trail R → ℕ → Ended F R

-- what a computation comes to, by the answers that are known
abbrev pub Runs : Type 0 → Type 0 → Type 0 → Type 0
Runs F R A = (ℕ → Option R) → Out F A

-- k runs at most
abbrev pub ready : {F R A : Type 0} → Worker F R → Runs F R A → ℕ → Trail R → ℕ → Res F R A
ready g u zero S n = dry
ready g u (suc k) S n = proceed (u (lookup S)) (λ a. answer a S n) (λ q. after (g q S n) (λ _ S' n'. ready g u k S' n'))

-- how many questions below N have no answer in the trail: what each round lowers
abbrev pub unanswered : {R : Type 0} → ℕ → Trail R → ℕ
unanswered N S = left N S []

pub fewer : {R : Type 0} (N q : ℕ) (S S' : Trail R) (r : R) → lookup S q ≡ none → q < N → Within S S' → lookup S' q ≡ some r
    → unanswered N S' < unanswered N S
fewer {R} N q S S' r new l w e =
    free-drop (begun S []) (begun S' []) (λ j. go j (lookup S j) refl) q (rw new) (rw e) N l
  where
    go : (j : ℕ) (o : Option R) → lookup S j ≡ o → has o ≡ true → has (lookup S' j) ≡ true
    go j none h k = clash (cc)
    go j (some s) h k = rw (w j s h)

-- The rules' handler of needs, which keeps P, and a worker that does on missing questions below `count` what that handler does.
pub record Working (F R : Type 0) (P : Trail R → ℕ → Type 0) : Type 0 where
  pub handler : Handler F R
  pub serves : Serves P handler
  pub count : ℕ
  pub worker : Worker F R
  pub works : (q : ℕ) (S : Trail R) (n : ℕ) → q < count → lookup S q ≡ none → worker q S n ≡ forget (handler q S n)

abbrev pub working-any : {F R : Type 0} {P : Trail R → ℕ → Type 0} → Working F R P → Working F R Any
working-any w = record { handler = w.handler; serves = serves-any w.serves; count = w.count; worker = w.worker; works = w.works }

module _ {F R : Type 0} {P : Trail R → ℕ → Type 0} (w : Working F R P) where
  -- until no answer is missing: as many runs as there are questions, and one
  abbrev pub ready_by : {A : Type 0} → Runs F R A → Trail R → ℕ → Res F R A
  ready_by u = ready w.worker u (suc w.count)

  -- a question that was worked out: P is kept, nothing is lost, and fewer are without an answer
  pub work-lowers : (q : ℕ) (S : Trail R) (n : ℕ) → q < w.count → lookup S q ≡ none → P S n
      → Partly (λ _ S' n'. P S' n' × Within S S' × (unanswered w.count S' < unanswered w.count S)) (w.worker q S n)
  work-lowers q S n l new p =
      rw (w.works q S n l new)
      (forget-holds (holds-map (λ r S' n' a. (a.0 p, a.1, fewer w.count q S S' r new l a.1 a.2)) (w.serves.gives q S n)))

  -- u comes to what t comes to, with every trail that has P
  module _ {A : Type 0} (u : Runs F R A) (t : Ask F R A) (same : (S : Trail R) (n : ℕ) → P S n → u (lookup S) ≡ run (lookup S) t)
      (below : Below w.count t) where
    ready-walks : (k : ℕ) (S : Trail R) (n : ℕ) → P S n → unanswered w.count S < k → ready w.worker u k S n ≡ walk w.handler S n t
    ready-walks zero S n p i = absurd (omega arith)
    ready-walks (suc k) S n p i =
        rw (same S n p)
        (proceed-cong (run (lookup S) t) (λ a _. refl) (λ q e.
        let (new, l) = run-missing w.count S t below q e in
        let on : Trail R → ℕ → Res F R A = λ S' n'. ready w.worker u k S' n' in
        rw (w.works q S n l new)
        (after-forget (w.handler q S n) on
        ∙ after_cong (w.serves.gives q S n) (λ r S' n' a.
        ready-walks k S' n' (a.0 p) (omega (arith, fewer w.count q S S' r new l a.1 a.2)))))
        ∙ sym (walk-restarts w.serves t S n))

    pub ready-is : (S : Trail R) (n : ℕ) → P S n → ready_by u S n ≡ walk w.handler S n t
    ready-is S n p = ready-walks (suc w.count) S n p (omega (arith, free-le (begun S []) w.count))

    -- one round: what is left to do is the same again
    pub ready-round : (S : Trail R) (n : ℕ) → P S n
        → ready_by u S n ≡ proceed (u (lookup S)) (λ a. answer a S n) (λ q. after (w.worker q S n) (λ _ S' n'. ready_by u S' n'))
    ready-round S n p =
        proceed-cong (u (lookup S)) (λ a _. refl) (λ q e.
        let (new, l) = run-missing w.count S t below q (sym (same S n p) ∙ e) in
        after_cong (work-lowers q S n l new p) (λ _ S' n' a.
        ready-walks w.count S' n' a.0 (omega (arith, a.2, free-le (begun S []) w.count)) ∙ sym (ready-is S' n' a.0)))

-- A walk sees of a computation only what its runs come to.
pub walk_same : {F R A : Type 0} {P : Trail R → ℕ → Type 0} {h : Handler F R} → Serves P h → (N : ℕ) (t t' : Ask F R A)
    → ((S : Trail R) (n : ℕ) → P S n → run (lookup S) t ≡ run (lookup S) t') → Below N t → Below N t'
    → (S : Trail R) (n : ℕ) → P S n → walk h S n t ≡ walk h S n t'
walk_same {F} {R} {P = P} {h = h} H N t t' same below below' S n p =
    let w : Working F R P = record {
      handler = h;
      serves = H;
      count = N;
      worker = λ q S₁ n₁. forget (h q S₁ n₁);
      works = λ q S₁ n₁ l e. refl;
    } in
    sym (ready-is w (λ known. run known t) t (λ S₁ n₁ p₁. refl) below S n p)
    ∙ ready-is w (λ known. run known t) t' same below' S n p

-- Working one question out by turns. The questions that have begun are a stack, the newest first; a turn runs the rules of the newest
-- from their start, and either its answer is laid or a missing question begins. What is still to be done is `remaining`; each turn leaves it
-- as it is.
use Rattle.std.specs.Prelude.{◌≡◌, refl, ℕ, zero, suc, pred, ◌+◌, ◌*◌, ◌≤◌, ◌<◌, false, List, [], ◌∷◌, length}
use Rattle.std.proofs.Common.{sym, ap, ◌∙◌, arith}
use Rattle.std.proofs.Math.Option.{Option, none, some}
use Rattle.answers.specs.Ask.{Out, value, missing, run, Trail, lookup, mem}
use Rattle.answers.specs.Resolve.{Rules, Res, answer, refused, dry, after, walk, bar, lay, worked}
use Rattle.answers.specs.Theory.Sound.{bar-none}
use Rattle.answers.specs.Theory.Holds.{Handler}
use Rattle.answers.specs.Theory.Fuel.{free-le, idle, idle-drop, begun, left, left-begin, left-lay, Closed}
use Rattle.answers.specs.Theory.Machine.{lay-cong, run-missing}
use Rattle.theory_order.specs.Walks.{proceed, proceed-cong, Ended, forget, Kept, after-end, walk-restarts, worked-serves}
use Rattle.theory_order.specs.Ready.{Worker, Working}

-- a missing question is barred, or it begins as one more than n
abbrev pub begin : {F R A : Type 0} → Option F → ℕ → (ℕ → Res F R A) → Res F R A
begin (some x) n on = refused x
begin none n on = on (suc n)

begin-cong : {F R A : Type 0} (x : Option F) (n : ℕ) (on on' : ℕ → Res F R A)
    → (x ≡ none → on (suc n) ≡ on' (suc n)) → begin x n on ≡ begin x n on'
begin-cong (some x) n on on' h = refl
begin-cong none n on on' h = h refl

-- ---- a stack of questions that have begun: none stands twice, all are below N

abbrev pub Stacked : ℕ → List ℕ → Type 0
Stacked N [] = Unit {0}
Stacked N (q ∷ stack) = (mem q stack ≡ false) × (q < N) × Stacked N stack

-- there are at most N of them
pub stacked-length : (N : ℕ) (stack : List ℕ) → Stacked N stack → length stack ≤ N
stacked-length N stack s = omega (arith, go stack s)
  where
    go : (qs : List ℕ) → Stacked N qs → idle N qs + length qs ≤ N
    go [] t = omega (arith, free-le (λ q. mem q []) N)
    go (q ∷ qs) t = omega (arith, idle-drop N qs q t.0 t.1, go qs t.2)

-- The measure: how many turns may still come. Two, a begin and a lay, for each question that has not begun; a lay for each on the stack.
abbrev pub turns_left : {R : Type 0} → ℕ → List ℕ → Trail R → ℕ
turns_left N stack S = 2 * left N S stack + length stack

-- the fuel that the recursion of `worked` has left there, and that it is enough
abbrev fuel : ℕ → List ℕ → ℕ
fuel N [] = N
fuel N (q ∷ stack) = pred (fuel N stack)

fuel-enough : (N : ℕ) (stack : List ℕ) → Stacked N stack → idle N stack ≤ fuel N stack
fuel-enough N [] s = free-le (λ q. mem q []) N
fuel-enough N (q ∷ stack) s = one_less (idle-drop N stack q s.0 s.1) (fuel-enough N stack s.2)
  where
    one_less : {i j k : ℕ} → i < j → j ≤ k → i ≤ pred k
    one_less a b = omega arith

-- ---- `lay` of a result that comes of a run, or of another result

module _ {F R A : Type 0} (ρ : Rules F R) (q : ℕ) (on : R → Trail R → ℕ → Res F R A) where
  lay-proceed : (o : Out F R) (found : R → Res F R R) (ask : ℕ → Res F R R)
      → after (lay ρ q (proceed o found ask)) on ≡ proceed o (λ r. after (lay ρ q (found r)) on) (λ j. after (lay ρ q (ask j)) on)
  lay-proceed (value r) found ask = refl
  lay-proceed (Out.refused x) found ask = refl
  lay-proceed (missing j) found ask = refl

  lay-after : {B : Type 0} (m : Res F R B) (k : B → Trail R → ℕ → Res F R R)
      → after (lay ρ q (after m k)) on ≡ after m (λ b S n. after (lay ρ q (k b S n)) on)
  lay-after (answer b S n) k = refl
  lay-after (refused x) k = refl
  lay-after dry k = refl

module _ {F R : Type 0} (ρ : Rules F R) (budget N : ℕ) where
  -- ---- the turns, m of them at most

  abbrev pub turns : ℕ → List ℕ → Trail R → ℕ → Ended F R
  turns zero stack S n = dry
  turns (suc m) [] S n = answer tt S n
  turns (suc m) (b ∷ bs) S n =
      proceed (run (lookup S) (ρ.rule b)) (λ r. after (lay ρ b (answer r S n)) (λ _ S' n'. turns m bs S' n'))
      (λ q. begin (bar ρ budget (b ∷ bs) n q) n (turns m (q ∷ b ∷ bs) S))

  -- A missing question is worked out with all that it needs: two turns for each question are enough.
  abbrev pub work : Worker F R
  work b S n = begin (bar ρ budget [] n b) n (turns (2 * N) (b ∷ []) S)

  -- ---- what is still to be done, by the recursion

  abbrev needed : List ℕ → Handler F R
  needed stack = worked ρ budget (fuel N stack) stack

  abbrev pub remaining : List ℕ → Trail R → ℕ → Ended F R
  remaining [] S n = answer tt S n
  remaining (q ∷ stack) S n = after (lay ρ q (walk (needed (q ∷ stack)) S n (ρ.rule q))) (λ _ S' n'. remaining stack S' n')

  -- a missing question is barred or begins
  remaining-begin : (stack : List ℕ) → Stacked N stack → (S : Trail R) (n q : ℕ) → lookup S q ≡ none → q < N
      → after (needed stack q S n) (λ _ S' n'. remaining stack S' n') ≡ begin (bar ρ budget stack n q) n (remaining (q ∷ stack) S)
  remaining-begin stack s S n q new l = go (bar ρ budget stack n q) refl (fuel N stack) refl
    where
      go : (x : Option F) → bar ρ budget stack n q ≡ x → (k : ℕ) → fuel N stack ≡ k
          → after (worked ρ budget k stack q S n) (λ _ S' n'. remaining stack S' n') ≡ begin x n (remaining (q ∷ stack) S)
      go (some x) e zero i = rw (new, e)
      go (some x) e (suc k) i = rw (new, e)
      go none e zero i = absurd (omega (arith, fuel-enough N stack s, idle-drop N stack q (bar-none ρ budget stack n q e).0 l))
      go none e (suc k) i = rw (new, e, i)

  -- before the first turn
  pub remaining-start : (b : ℕ) (S : Trail R) (n : ℕ) → b < N → lookup S b ≡ none
      → begin (bar ρ budget [] n b) n (remaining (b ∷ []) S) ≡ forget (worked ρ budget N [] b S n)
  remaining-start b S n l new = sym (remaining-begin [] tt S n b new l) ∙ after-end (worked ρ budget N [] b S n)

  module _ (closed : Closed ρ N) where
    -- one turn: the newest question is answered and laid, or one that it misses is barred or begins
    pub remaining-turn : (b : ℕ) (bs : List ℕ) → Stacked N (b ∷ bs) → (S : Trail R) (n : ℕ)
        → remaining (b ∷ bs) S n
        ≡ proceed (run (lookup S) (ρ.rule b)) (λ r. after (lay ρ b (answer r S n)) (λ _ S' n'. remaining bs S' n'))
        (λ q. begin (bar ρ budget (b ∷ bs) n q) n (remaining (q ∷ b ∷ bs) S))
    remaining-turn b bs s S n =
        let h = needed (b ∷ bs) in
        let on : R → Trail R → ℕ → Ended F R = λ _ S' n'. remaining bs S' n' in
        ap (λ z. after (lay ρ b z) on) (walk-restarts (worked-serves ρ budget (fuel N (b ∷ bs)) (b ∷ bs)) (ρ.rule b) S n)
        ∙ lay-proceed ρ b on (run (lookup S) (ρ.rule b)) (λ a. answer a S n) (λ q. after (h q S n) (λ r S' n'. walk h S' n' (ρ.rule b)))
        ∙ proceed-cong (run (lookup S) (ρ.rule b)) (λ r e. refl) (λ q e.
        let (new, l) = run-missing N S (ρ.rule b) (closed b s.1) q e in
        lay-after ρ b on (h q S n) (λ r S' n'. walk h S' n' (ρ.rule b)) ∙ remaining-begin (b ∷ bs) s S n q new l)

    -- ---- turns enough do it

    turns-do : (m : ℕ) (stack : List ℕ) (S : Trail R) (n : ℕ) → Stacked N stack → turns_left N stack S < m → turns m stack S n ≡ remaining stack S n
    turns-do zero stack S n s i = absurd (omega arith)
    turns-do (suc m) [] S n s i = refl
    turns-do (suc m) (b ∷ bs) S n s i =
        proceed-cong (run (lookup S) (ρ.rule b))
        (λ r e. lay-cong ρ b r S n (λ _ S' n'. turns m bs S' n') (λ _ S' n'. remaining bs S' n')
        (turns-do m bs ((b, r) ∷ S) n s.2 (omega (arith, left-lay N b S bs r))))
        (λ q e. begin-cong (bar ρ budget (b ∷ bs) n q) n (turns m (q ∷ b ∷ bs) S) (remaining (q ∷ b ∷ bs) S) (λ free.
        let (new, l) = run-missing N S (ρ.rule b) (closed b s.1) q e in
        let out : mem q (b ∷ bs) ≡ false = (bar-none ρ budget (b ∷ bs) n q free).0 in
        turns-do m (q ∷ b ∷ bs) S (suc n) (out, l, s) (omega (arith, left-begin N q S (b ∷ bs) out new l))))
        ∙ sym (remaining-turn b bs s S n)

    -- so the worker does on missing questions what the recursion does
    pub work-is : (b : ℕ) (S : Trail R) (n : ℕ) → b < N → lookup S b ≡ none → work b S n ≡ forget (worked ρ budget N [] b S n)
    work-is b S n l new =
        begin-cong (bar ρ budget [] n b) n (turns (2 * N) (b ∷ []) S) (remaining (b ∷ []) S) (λ free.
        let out : mem b [] ≡ false = refl in
        turns-do (2 * N) (b ∷ []) S (suc n) (refl, l, tt) (omega (arith, left-begin N b S [] out new l, free-le (begun S []) N)))
        ∙ remaining-start b S n l new

    abbrev pub by-turns : Working F R (Kept ρ budget)
    by-turns = record {
      handler = worked ρ budget N [];
      serves = worked-serves ρ budget N [];
      count = N;
      worker = work;
      works = work-is;
    }

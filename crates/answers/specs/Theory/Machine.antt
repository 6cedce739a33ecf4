-- The machine of restarts comes to what the recursion comes to.
use Rattle.std.specs.Prelude.{◌≡◌, refl, ℕ, zero, suc, ◌+◌, ◌*◌, ◌≤◌, ◌<◌, Bool, true, false, cond, List, [], ◌∷◌, length}
use Rattle.std.proofs.Common.{sym, ap, ◌∙◌, arith}
use Rattle.std.proofs.Math.Option.{Option, none, some}
use Rattle.answers.specs.Ask.{Ask, done, refused, need, Out, value, missing, or_missing, run, Trail, lookup, mem}
use Rattle.answers.specs.Resolve.{Rules, Res, answer, refused, dry, after, walk, bar, lay, worked, resolve}
use Rattle.answers.specs.Theory.Restarts.{react, unless, machine}
use Rattle.answers.specs.Theory.Holds.{Handler, after_cong}
use Rattle.answers.specs.Theory.Sound.{clash, bar-none, Handles, worked-step}
use Rattle.answers.specs.Theory.Fuel.{free-le, idle, idle-drop, begun, left, left-begin, left-lay, Below, Closed}

-- ---- the laws of `react` and `lay`

pub react-cong : {F R A B : Type 0} (o : Out F A) {pop pop' : A → Res F R B} {push push' : ℕ → Res F R B}
    → ((a : A) → o ≡ value a → pop a ≡ pop' a) → ((q : ℕ) → o ≡ missing q → push q ≡ push' q) → react o pop push ≡ react o pop' push'
react-cong (value a) f g = f a refl
react-cong (refused x) f g = refl
react-cong (missing q) f g = g q refl

module _ {F R A : Type 0} (ρ : Rules F R) (q : ℕ) where
  pub lay-cong : (r : R) (S : Trail R) (n : ℕ) (k k' : R → Trail R → ℕ → Res F R A) → k r ((q, r) ∷ S) n ≡ k' r ((q, r) ∷ S) n
      → after (lay ρ q (answer r S n)) k ≡ after (lay ρ q (answer r S n)) k'
  lay-cong r S n k k' h = go (ρ.fits ((q, r) ∷ S))
    where
      go : (t : Bool) → after (cond t (answer r ((q, r) ∷ S) n) (refused ρ.full)) k ≡ after (cond t (answer r ((q, r) ∷ S) n) (refused ρ.full)) k'
      go true = h
      go false = refl

  module _ (k : R → Trail R → ℕ → Res F R A) where
    lay-react : (o : Out F R) (pop : R → Res F R R) (push : ℕ → Res F R R)
        → after (lay ρ q (react o pop push)) k ≡ react o (λ r. after (lay ρ q (pop r)) k) (λ j. after (lay ρ q (push j)) k)
    lay-react (value r) pop push = refl
    lay-react (refused x) pop push = refl
    lay-react (missing j) pop push = refl

    lay-after : {B : Type 0} (m : Res F R B) (l : B → Trail R → ℕ → Res F R R)
        → after (lay ρ q (after m l)) k ≡ after m (λ b S n. after (lay ρ q (l b S n)) k)
    lay-after (answer b S n) l = refl
    lay-after (refused x) l = refl
    lay-after dry l = refl

-- a question that a run misses is not in the trail
pub run-missing : {F R A : Type 0} (N : ℕ) (S : Trail R) (t : Ask F R A) → Below N t → (q : ℕ) → run (lookup S) t ≡ missing q
    → (lookup S q ≡ none) × (q < N)
run-missing N S (done a) w q e = clash (cc)
run-missing N S (refused x) w q e = clash (cc)
run-missing {F} {R} N S (need j f) w q e = go (lookup S j) refl e (λ r. run-missing N S (f r) (w.1 r) q)
  where
    go : (o : Option R) → lookup S j ≡ o → or_missing j (λ r. run (lookup S) (f r)) o ≡ missing q
        → ((r : R) → run (lookup S) (f r) ≡ missing q → (lookup S q ≡ none) × (q < N)) → (lookup S q ≡ none) × (q < N)
    go none h k ih = let z : j ≡ q = cc in (cc, rw z at w.0)
    go (some r) h k ih = ih r k

-- ---- a walk is a run against the trail and, where a question is missing, that question and the same walk again

-- a walk of t, whose run comes to o
abbrev Restarts : {F R A : Type 0} → Handler F R → Trail R → ℕ → Ask F R A → Out F A → Type 0
Restarts h S n t o = walk h S n t ≡ react o (λ a. answer a S n) (λ q. after (h q S n) (λ r S' n'. walk h S' n' t))

module _ {F R : Type 0} (ρ : Rules F R) (budget : ℕ) (busy : List ℕ) (h : Handler F R) (H : Handles ρ budget busy h)
    (known : (q : ℕ) (S : Trail R) (n : ℕ) (r : R) → lookup S q ≡ some r → h q S n ≡ answer r S n) where
  walk-run : {A : Type 0} (t : Ask F R A) (S : Trail R) (n : ℕ) → Restarts h S n t (run (lookup S) t)
  walk-run (done a) S n = refl
  walk-run (refused x) S n = refl
  walk-run (need q f) S n = go (lookup S q) refl (λ r. walk-run (f r) S n)
    where
      again : (r : R) (S' : Trail R) (n' : ℕ) → lookup S' q ≡ some r → walk h S' n' (f r) ≡ walk h S' n' (need q f)
      again r S' n' e = rw (known q S' n' r e)

      go : (o : Option R) → lookup S q ≡ o → ((r : R) → Restarts h S n (f r) (run (lookup S) (f r)))
          → Restarts h S n (need q f) (or_missing q (λ r. run (lookup S) (f r)) o)
      go none e ih = after_cong (H q S n) (λ r S' n' a. again r S' n' a.1)
      go (some r) e ih =
          sym (again r S n e) ∙ ih r
          ∙ react-cong (run (lookup S) (f r)) (λ a _. refl) (λ j _. after_cong (H j S n) (λ r₁ S' n' a. again r S' n' (a.0.keeps q r e)))

-- ---- the machine

module _ {F R A : Type 0} (ρ : Rules F R) (budget : ℕ) (root : Ask F R A) (N : ℕ) (closed : Closed ρ N) (root_below : Below N root) where
  worked-known : (k : ℕ) (busy : List ℕ) (q : ℕ) (S : Trail R) (n : ℕ) (r : R) → lookup S q ≡ some r → worked ρ budget k busy q S n ≡ answer r S n
  worked-known zero busy q S n r e = rw e
  worked-known (suc k) busy q S n r e = rw e

  restart : {B : Type 0} (k : ℕ) (busy : List ℕ) (t : Ask F R B) (S : Trail R) (n : ℕ)
      → Restarts (worked ρ budget k busy) S n t (run (lookup S) t)
  restart k busy = walk-run ρ budget busy (worked ρ budget k busy) (worked-step ρ budget k busy) (worked-known k busy)

  -- what the recursion still has to do where `stack` is being worked out
  abbrev rest : List ℕ → ℕ → Trail R → ℕ → Res F R A
  rest [] k S n = walk (worked ρ budget k []) S n root
  rest (q ∷ stack) k S n =
      after (lay ρ q (walk (worked ρ budget k (q ∷ stack)) S n (ρ.rule q))) (λ r S' n'. rest stack (suc k) S' n')

  -- there is fuel enough at each depth, and no question is out of range
  abbrev Deep : List ℕ → ℕ → Type 0
  Deep [] k = idle N [] ≤ k
  Deep (q ∷ stack) k = (idle N (q ∷ stack) ≤ k) × (q < N) × Deep stack (suc k)

  deep : (stack : List ℕ) (k : ℕ) → Deep stack k → idle N stack ≤ k
  deep [] k d = d
  deep (q ∷ stack) k d = d.0

  -- m steps are enough where fewer are left: two, a begin and a lay, for each question that has not begun, and a lay for each busy one
  abbrev Meets : ℕ → Type 0
  Meets m = (stack : List ℕ) (S : Trail R) (n k : ℕ) → Deep stack k → 2 * left N S stack + length stack < m
      → machine ρ budget root m stack S n ≡ rest stack k S n

  push-meets : (m : ℕ) → Meets m → (stack : List ℕ) (S : Trail R) (n k q : ℕ) → Deep stack k → 2 * left N S stack + length stack < suc m
      → (lookup S q ≡ none) × (q < N)
      → unless (bar ρ budget stack n q) (machine ρ budget root m (q ∷ stack) S) n
      ≡ after (worked ρ budget k stack q S n) (λ r S' n'. rest stack k S' n')
  push-meets m ih stack S n k q d i (new, l) = go k d (bar ρ budget stack n q) refl
    where
      go : (k : ℕ) → Deep stack k → (x : Option F) → bar ρ budget stack n q ≡ x
          → unless x (machine ρ budget root m (q ∷ stack) S) n ≡ after (worked ρ budget k stack q S n) (λ r S' n'. rest stack k S' n')
      go zero d (some x) e = rw (new, e)
      go (suc k) d (some x) e = rw (new, e)
      go zero d none e = absurd (omega (arith, deep stack 0 d, idle-drop N stack q (bar-none ρ budget stack n q e).0 l))
      go (suc k) d none e =
          let out : mem q stack ≡ false = (bar-none ρ budget stack n q e).0 in
          rw (new, e)
          (ih (q ∷ stack) S (suc n) k (omega (arith, deep stack (suc k) d, idle-drop N stack q out l), l, d)
          (omega (arith, left-begin N q S stack out new l)))

  machine_meets : (m : ℕ) → Meets m
  machine_meets zero stack S n k d i = absurd (omega arith)
  machine_meets (suc m) [] S n k d i =
      react-cong (run (lookup S) root) (λ v e. refl)
      (λ q e. push-meets m (machine_meets m) [] S n k q d i (run-missing N S root root_below q e))
      ∙ sym (restart k [] root S n)
  machine_meets (suc m) (b ∷ bs) S n k d i =
      let h = worked ρ budget k (b ∷ bs) in
      let on : R → Trail R → ℕ → Res F R A = λ r S' n'. rest bs (suc k) S' n' in
      react-cong (run (lookup S) (ρ.rule b))
      (λ r e. lay-cong ρ b r S n (λ r' S' n'. machine ρ budget root m bs S' n') on
      (machine_meets m bs ((b, r) ∷ S) n (suc k) d.2 (omega (arith, left-lay N b S bs r))))
      (λ q e. push-meets m (machine_meets m) (b ∷ bs) S n k q d i (run-missing N S (ρ.rule b) (closed b d.1) q e)
      ∙ sym (lay-after ρ b on (h q S n) (λ r S' n'. walk h S' n' (ρ.rule b))))
      ∙ sym (lay-react ρ b on (run (lookup S) (ρ.rule b)) (λ a. answer a S n) (λ q. after (h q S n) (λ r S' n'. walk h S' n' (ρ.rule b))))
      ∙ ap (λ z. after (lay ρ b z) on) (sym (restart k (b ∷ bs) (ρ.rule b) S n))

  pub machine-resolves : machine ρ budget root (2 * N + 1) [] [] 0 ≡ resolve ρ budget root N
  machine-resolves = machine_meets (2 * N + 1) [] [] 0 N (free-le (λ q. mem q []) N) (omega (arith, free-le (begun {R = R} [] []) N))

-- The budget, exactly: a resolution that answers with a count n answers so with every budget that is at least n.
-- So at any budget a resolution refuses exactly where no trail is accepted that fits and is no longer than the budget.
use Rattle.std.specs.Prelude.{◌≡◌, ℕ, zero, suc, ◌+◌, ◌≤◌, Bool, ◌↔◌, length, leb}
use Rattle.std.proofs.Math.Path.{refl}
use Rattle.std.proofs.Common.{sym, ◌∙◌, inl, inr}
use Rattle.std.proofs.Math.Bool.{true, false, cond}
use mathlib.Core.List.{List, [], ◌∷◌}
use Rattle.std.proofs.Math.Option.{some}
use native.Mathlib.Omega.{arith}
use Rattle.std.proofs.Math.Dec.{eqb}
use borrow.Author.Tests.{lt-ltb, leb-true, le-leb, eqb-true}
use Rattle.answers.specs.Ask.{Ask, done, refused, need, value, run, Trail, lookup, Once}
use Rattle.answers.specs.Resolve.{Rules, Res, answer, refused, walk, bar, worked, resolve, Laid, Accepts}
use Rattle.answers.specs.Theory.Holds.{Handler, answers, refuses, dries, Partly, of-answer, holds-map, after_holds, lay-holds, enter-holds, wet-refused}
use Rattle.answers.specs.Theory.Sound.{clash, Within, lookup-new, lookup-other, lookup-cases, lookup-keeps, run-inv, bar-none}
use Rattle.answers.specs.Theory.Sound.{count, accepted, affordable, fitting}
use Rattle.answers.specs.Theory.Fuel.{Below, Closed, resolve-wet}
use Rattle.answers.specs.Theory.Complete.{Shrinks, complete}
use Rattle.answers.specs.Theory.Reorder.{laid_runs}

-- ---- another budget

module _ {F R : Type 0} (ρ : Rules F R) (budget budget' : ℕ) where
  -- what m answers from the count n on, m' answers too if budget' is enough for it
  abbrev Also : {A : Type 0} → ℕ → Res F R A → Res F R A → Type 0
  Also n m m' = Partly (λ a S' n'. (n ≤ n') × (n' ≤ budget' → m' ≡ answer a S' n')) m

  walk-also : {A : Type 0} (h h' : Handler F R) → ((q : ℕ) (S : Trail R) (n : ℕ) → Also n (h q S n) (h' q S n))
      → (t : Ask F R A) (S : Trail R) (n : ℕ) → Also n (walk h S n t) (walk h' S n t)
  walk-also h h' H (done a) S n = answers {n = n} (omega arith, λ l. refl)
  walk-also h h' H (refused x) S n = refuses tt
  walk-also h h' H (need q f) S n =
      after_holds (H q S n) (λ r S₁ n₁ a.
      holds-map (λ v S' n' b. (omega (arith, a.0, b.0), λ l. rw (a.1 (omega (arith, b.0))) (b.1 l))) (walk-also h h' H (f r) S₁ n₁))

  worked-also : (k : ℕ) (busy : List ℕ) (q : ℕ) (S : Trail R) (n : ℕ) → Also n (worked ρ budget k busy q S n) (worked ρ budget' k busy q S n)
  worked-also zero busy q S n =
      enter-holds S n _ (lookup S q) (bar ρ budget busy n q) (λ r e. (omega arith, λ l. rw e)) (λ x new e. tt) (λ new e. dries tt)
  worked-also (suc k) busy q S n =
      enter-holds S n _ (lookup S q) (bar ρ budget busy n q) (λ r e. (omega arith, λ l. rw e)) (λ x new e. tt)
      (λ new e.
      let h = worked ρ budget k (q ∷ busy) in
      let h' = worked ρ budget' k (q ∷ busy) in
      lay-holds ρ q (walk-also h h' (worked-also k (q ∷ busy)) (ρ.rule q) S (suc n))
      (λ r S' n' a fits. (
        omega (arith, a.0),
        λ l. rw (new, (bar-none ρ budget busy n q e).0, lt-ltb n budget' (omega (arith, a.0)), a.1 l, fits),
      )) (λ r S' n' a full. tt))

  pub exact : {A : Type 0} (root : Ask F R A) (N : ℕ) {v : A} {S : Trail R} {n : ℕ} → resolve ρ budget root N ≡ answer v S n → n ≤ budget'
      → resolve ρ budget' root N ≡ answer v S n
  exact root N e l =
      (of-answer (rw e at (walk-also (worked ρ budget N []) (worked ρ budget' N []) (worked-also N []) root [] 0))).1 l

-- ---- a trail within another is no longer, and weighs no more

abbrev pub total : {R : Type 0} → (ℕ × R → ℕ) → Trail R → ℕ
total weight [] = 0
total weight (e ∷ S) = weight e + total weight S

-- a trail with no entry of question q
without : {R : Type 0} → ℕ → Trail R → Trail R
without q [] = []
without q (e ∷ T) = cond (eqb e.0 q) (without q T) (e ∷ without q T)

without_other : {R : Type 0} (q j : ℕ) → (q ≡ j → ⊥) → (T : Trail R) → lookup (without q T) j ≡ lookup T j
unfolding without
without_other q j h [] = refl
without_other q j h (e ∷ T) = go (eqb e.0 q) refl (without_other q j h T)
  where
    go : (t : Bool) → eqb e.0 q ≡ t → lookup (without q T) j ≡ lookup T j → lookup (cond t (without q T) (e ∷ without q T)) j ≡ lookup (e ∷ T) j
    go true b ih = ih ∙ sym (lookup-other e T j (λ z. h (cc (eqb-true e.0 q b))))
    go false b ih = rw ih

module _ {R : Type 0} (weight : ℕ × R → ℕ) where
  without-le : (q : ℕ) (T : Trail R) → total weight (without q T) ≤ total weight T
  unfolding without
  without-le q [] = omega arith
  without-le q (e ∷ T) = go (eqb e.0 q) (without-le q T)
    where
      go : (t : Bool) → total weight (without q T) ≤ total weight T
          → total weight (cond t (without q T) (e ∷ without q T)) ≤ weight e + total weight T
      go true l = omega arith
      go false l = omega arith

  without-less : (q : ℕ) (r : R) (T : Trail R) → lookup T q ≡ some r → weight (q, r) + total weight (without q T) ≤ total weight T
  unfolding without
  without-less q r [] h = clash (cc)
  without-less q r (e ∷ T) h = go (eqb e.0 q) refl h (without-less q r T)
    where
      go : (t : Bool) → eqb e.0 q ≡ t → cond t (some e.1) (lookup T q) ≡ some r
          → (lookup T q ≡ some r → weight (q, r) + total weight (without q T) ≤ total weight T)
          → weight (q, r) + total weight (cond t (without q T) (e ∷ without q T)) ≤ weight e + total weight T
      go true b k ih =
          let same-question : e.0 ≡ q = eqb-true e.0 q b in
          let same_answer : e.1 ≡ r = cc in
          let z : weight (q, r) ≡ weight e = rw (← same-question, ← same_answer) in
          omega (arith, without-le q T)
      go false b k ih = omega (arith, ih k)

  pub within-total : (S T : Trail R) → Once S → Within S T → total weight S ≤ total weight T
  within-total [] T once w = omega arith
  within-total (e ∷ S) T once w =
      let others : Within S (without e.0 T) = λ q r h.
      without_other e.0 q (λ z. clash (cc once.0)) T ∙ w q r (lookup-keeps e S once.0 q r h) in
      omega (arith, within-total S (without e.0 T) once.1 others, without-less e.0 e.1 T (w e.0 e.1 (lookup-new e S)))

  -- a room for so much weight is one that `Shrinks` asks for
  pub room_small : (room : ℕ) (S T : Trail R) → Once S → Within S T → leb (total weight T) room ≡ true → leb (total weight S) room ≡ true
  room_small room S T once w h = le-leb (total weight S) room (omega (arith, within-total S T once w, leb-true (total weight T) room h))

total-length : {R : Type 0} (S : Trail R) → total (λ e. 1) S ≡ length S
total-length [] = refl
total-length (e ∷ S) = omega (arith, total-length S)

pub within-length : {R : Type 0} (S T : Trail R) → Once S → Within S T → length S ≤ length T
within-length S T once w = omega (arith, within-total (λ e. 1) S T once w, total-length S, total-length T)

pub laid-once : {F R : Type 0} (ρ : Rules F R) (S : Trail R) → Laid ρ S → Once S
laid-once ρ [] l = tt
laid-once ρ (e ∷ S) l = (l.0, laid-once ρ S l.2)

-- ---- any budget

module _ {F R A : Type 0} (ρ : Rules F R) (budget : ℕ) (root : Ask F R A) (N : ℕ) (closed : Closed ρ N) (root_below : Below N root)
    (shrinks : Shrinks ρ) where
  pub completes : (T : Trail R) → ρ.fits T ≡ true → length T ≤ budget → {v : A} → Accepts ρ root T v
      → (S : Trail R) × (n : ℕ) × (resolve ρ budget root N ≡ answer v S n) × Within S T
  completes T T-fits le acc =
      let (S, n, e, w) = complete ρ N root N closed root_below shrinks (omega arith) T T-fits acc in
      let once : Once S = laid-once ρ S (accepted ρ N root N e).laid in
      (S, n, exact ρ N budget root N e (omega (arith, count ρ N root N e, within-length S T once w)), w)

  pub refuses-exactly : ρ.fits [] ≡ true
      → ((x : F) × (resolve ρ budget root N ≡ refused x))
      ↔ ((T : Trail R) (v : A) → Accepts ρ root T v → ρ.fits T ≡ true → length T ≤ budget → ⊥)
  refuses-exactly empty-fits = (
    λ p T v acc T-fits le. let (S, n, e, w) = completes T T-fits le acc in clash (cc),
    λ h. wet-refused (resolve-wet ρ budget root N closed root_below)
        (λ v S n e. h S v (accepted ρ budget root N e) (fitting ρ budget root N e empty-fits)
        (omega (arith, count ρ budget root N e, affordable ρ budget root N e))),
  )

-- ---- one value

-- no question has two answers
abbrev Compatible : {R : Type 0} → Trail R → Trail R → Type 0
Compatible {R} S T = (q : ℕ) (r r' : R) → lookup S q ≡ some r → lookup T q ≡ some r' → r ≡ r'

run-one : {F R A : Type 0} (S T : Trail R) → Compatible S T → (t : Ask F R A) (a a' : A)
    → run (lookup S) t ≡ value a → run (lookup T) t ≡ value a' → a ≡ a'
run-one S T c (done x) a a' e e' = cc
run-one S T c (refused x) a a' e e' = clash (cc)
run-one S T c (need q f) a a' e e' =
    let (r, h, k) = run-inv (lookup S) q f e in
    let (r', h', k') = run-inv (lookup T) q f e' in
    run-one S T c (f r) a a' k (rw (← c q r r' h h') at k')

module _ {F R : Type 0} (ρ : Rules F R) where
  laid_one : (S T : Trail R) → Laid ρ S → Laid ρ T → Compatible S T
  laid_one [] T l l' q r r' h h' = clash (cc)
  laid_one (e ∷ S) T l l' q r r' h h' =
      elim (lookup-cases e S q r h) [
        | inl z ↦ run-one S T (laid_one S T l.2 l') (ρ.rule q) r r' (rw (z.0, z.1) at l.1) (laid_runs ρ T l' q r' h')
        | inr z ↦ laid_one S T l.2 l' q r r' z h'
      ]

  -- two accepted trails have one value, whether they fit or not
  pub one_value : {A : Type 0} (root : Ask F R A) (T T' : Trail R) (v v' : A) → Accepts ρ root T v → Accepts ρ root T' v' → v ≡ v'
  one_value root T T' v v' acc acc' =
      run-one T T' (laid_one T T' acc.laid acc'.laid) root v v' acc.root-runs acc'.root-runs

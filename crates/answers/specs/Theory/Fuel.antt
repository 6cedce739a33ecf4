-- How many questions have not begun: a number that every begin lowers. So as much fuel as there are questions is never used up.
use Rattle.std.specs.Prelude.{◌≡◌, refl, ℕ, zero, suc, ◌+◌, ◌≤◌, ◌<◌, Bool, true, false, cond, List, [], ◌∷◌, eqb}
use Rattle.std.proofs.Math.Option.{Option, none, some}
use Rattle.std.proofs.Common.{arith, eqb-true, eq-eqb}
use Rattle.std.proofs.lemmas.Bool.{eqb-false}
use Rattle.answers.specs.Ask.{Ask, done, refused, need, Trail, lookup, mem}
use Rattle.answers.specs.Resolve.{Rules, walk, bar, worked, resolve}
use Rattle.answers.specs.Theory.Holds.{Handler, answers, refuses, Wet, after_holds, lay-holds, enter-holds}
use Rattle.answers.specs.Theory.Sound.{clash, bar-none, mem-new, mem-more}

-- ---- how many numbers below N have not p

abbrev pub free : (ℕ → Bool) → ℕ → ℕ
free p zero = zero
free p (suc N) = cond (p N) (free p N) (suc (free p N))

pub free-le : (p : ℕ → Bool) (N : ℕ) → free p N ≤ N
free-le p zero = omega arith
free-le p (suc N) = go (p N) (free-le p N)
  where
    go : (t : Bool) → free p N ≤ N → cond t (free p N) (suc (free p N)) ≤ suc N
    go true h = omega arith
    go false h = omega arith

module _ (p q : ℕ → Bool) (h : (i : ℕ) → p i ≡ true → q i ≡ true) where
  -- one number more leaves q as far behind as it was
  one_more : (N k : ℕ) → k + free q N ≤ free p N → k + free q (suc N) ≤ free p (suc N)
  one_more N k l = go (p N) (q N) (h N)
    where
      go : (s t : Bool) → (s ≡ true → t ≡ true) → k + cond t (free q N) (suc (free q N)) ≤ cond s (free p N) (suc (free p N))
      go true true e = l
      go true false e = clash (cc (e refl))
      go false true e = omega arith
      go false false e = omega arith

  pub free-anti : (N : ℕ) → free q N ≤ free p N
  free-anti zero = omega arith
  free-anti (suc N) = omega (arith, one_more N 0 (omega (arith, free-anti N)))

  pub free-drop : (b : ℕ) → p b ≡ false → q b ≡ true → (N : ℕ) → b < N → free q N < free p N
  free-drop b without with-q zero l = absurd (omega arith)
  free-drop b without with-q (suc N) l = go (eqb b N) refl (free-drop b without with-q N)
    where
      go : (t : Bool) → eqb b N ≡ t → (b < N → free q N < free p N) → free q (suc N) < free p (suc N)
      go true e ih = let z : b ≡ N = eqb-true b N e in rw (rw z at without, rw z at with-q) (omega (arith, free-anti N))
      go false e ih = omega (arith, one_more N 1 (omega (arith, ih (omega (arith, eqb-false b N e)))))

-- ---- questions below N that are not busy, and that have not begun

abbrev pub idle : ℕ → List ℕ → ℕ
idle N busy = free (λ q. mem q busy) N

pub idle-drop : (N : ℕ) (busy : List ℕ) (q : ℕ) → mem q busy ≡ false → q < N → idle N (q ∷ busy) < idle N busy
idle-drop N busy q e l = free-drop (λ j. mem j busy) (λ j. mem j (q ∷ busy)) (mem-more q busy) q e (mem-new q busy) N l

abbrev pub has : {R : Type 0} → Option R → Bool
has none = false
has (some r) = true

-- begun: busy, or in the trail
abbrev pub begun : {R : Type 0} → Trail R → List ℕ → ℕ → Bool
begun S busy q = cond (mem q busy) true (has (lookup S q))

abbrev pub left : {R : Type 0} → ℕ → Trail R → List ℕ → ℕ
left N S busy = free (begun S busy) N

module _ {R : Type 0} (N q : ℕ) (S : Trail R) (busy : List ℕ) where
  -- a begin leaves fewer
  pub left-begin : mem q busy ≡ false → lookup S q ≡ none → q < N → left N S (q ∷ busy) < left N S busy
  left-begin m new l =
      free-drop (begun S busy) (begun S (q ∷ busy)) (λ j. go (eqb q j) (mem j busy) (has (lookup S j))) q
      (rw (m, new)) (rw (eq-eqb q q refl)) N l
    where
      go : (u v w : Bool) → cond v true w ≡ true → cond (cond u true v) true w ≡ true
      go true v w e = refl
      go false v w e = e

  -- and laying its answer, no more
  pub left-lay : (r : R) → left N ((q, r) ∷ S) busy ≤ left N S (q ∷ busy)
  left-lay r = free-anti (begun S (q ∷ busy)) (begun ((q, r) ∷ S) busy) (λ j. go (eqb q j) (mem j busy) (lookup S j)) N
    where
      go : (u v : Bool) (o : Option R) → cond (cond u true v) true (has o) ≡ true → cond v true (has (cond u (some r) o)) ≡ true
      go true true o e = refl
      go true false o e = refl
      go false v o e = e

-- ---- the fuel

-- every question needed, under any answers, is below N
abbrev pub Below : {F R A : Type 0} → ℕ → Ask F R A → Type 0
Below N (done a) = Unit {0}
Below N (refused x) = Unit {0}
Below {F} {R} N (need q f) = (q < N) × ((r : R) → Below N (f r))

-- the rules of the questions below N need only questions below N
abbrev pub Closed : {F R : Type 0} → Rules F R → ℕ → Type 0
Closed ρ N = (q : ℕ) → q < N → Below N (ρ.rule q)

walk-wet : {F R A : Type 0} (N : ℕ) (h : Handler F R) → ((q : ℕ) (S : Trail R) (n : ℕ) → q < N → Wet (h q S n))
    → (t : Ask F R A) → Below N t → (S : Trail R) (n : ℕ) → Wet (walk h S n t)
walk-wet N h H (done a) w S n = answers tt
walk-wet N h H (refused x) w S n = refuses tt
walk-wet N h H (need q f) w S n = after_holds (H q S n w.0) (λ r S' n' _. walk-wet N h H (f r) (w.1 r) S' n')

module _ {F R : Type 0} (ρ : Rules F R) (budget N : ℕ) (closed : Closed ρ N) where
  worked-wet : (k : ℕ) (busy : List ℕ) → idle N busy ≤ k → (q : ℕ) (S : Trail R) (n : ℕ) → q < N → Wet (worked ρ budget k busy q S n)
  worked-wet zero busy i q S n l =
      enter-holds S n _ (lookup S q) (bar ρ budget busy n q) (λ r e. tt) (λ x new e. tt)
      (λ new e. absurd (omega (arith, idle-drop N busy q (bar-none ρ budget busy n q e).0 l)))
  worked-wet (suc k) busy i q S n l =
      enter-holds S n _ (lookup S q) (bar ρ budget busy n q) (λ r e. tt) (λ x new e. tt)
      (λ new e.
      let h = worked ρ budget k (q ∷ busy) in
      let deeper = worked-wet k (q ∷ busy) (omega (arith, idle-drop N busy q (bar-none ρ budget busy n q e).0 l)) in
      lay-holds ρ q (walk-wet N h deeper (ρ.rule q) (closed q l) S (suc n)) (λ r S' n' a fits. tt) (λ r S' n' a full. tt))

module _ {F R A : Type 0} (ρ : Rules F R) (budget : ℕ) (root : Ask F R A) (N : ℕ) (closed : Closed ρ N) (root_below : Below N root) where
  pub resolve-wet : Wet (resolve ρ budget root N)
  resolve-wet = walk-wet N (worked ρ budget N []) (worked-wet ρ budget N closed N [] (free-le (λ q. mem q []) N)) root root_below [] 0

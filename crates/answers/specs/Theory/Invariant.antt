-- What holds of every answer that rules give, where it holds of the answers that they take; and a refusal that never comes.
use Rattle.std.specs.Prelude.{◌≡◌, refl, ℕ, zero, suc, ◌+◌, ◌*◌, ◌<◌, List, [], ◌∷◌}
use Rattle.std.proofs.Math.Option.{Option, none, some}
use Rattle.std.proofs.Common.{inl, inr}
use Rattle.answers.specs.Ask.{Ask, done, refused, need, value, or_missing, run, Trail, lookup}
use Rattle.answers.specs.Resolve.{Rules, Res, refused, bar, resolve, Laid}
use Rattle.answers.specs.Theory.Restarts.{machine}
use Rattle.answers.specs.Theory.Holds.{Holds, answers, dries, holds-refused, after_holds, laid-holds, react-holds, unless_holds}
use Rattle.answers.specs.Theory.Sound.{clash, All, lookup-cases, bar-some}
use Rattle.answers.specs.Theory.Fuel.{Below, Closed}
use Rattle.answers.specs.Theory.Machine.{run-missing, machine-resolves}

-- a run sees only what is known
pub run-cong : {F R A : Type 0} (known known' : ℕ → Option R) → ((q : ℕ) → known q ≡ known' q) → (t : Ask F R A) → run known t ≡ run known' t
run-cong known known' h (done a) = refl
run-cong known known' h (refused x) = refl
run-cong {F} {R} known known' h (need q f) = rw (h q) (go (known' q) (λ r. run-cong known known' h (f r)))
  where
    go : (o : Option R) → ((r : R) → run known (f r) ≡ run known' (f r)) → or_missing q (λ r. run known (f r)) o ≡ or_missing q (λ r. run known' (f r)) o
    go none ih = refl
    go (some r) ih = ih r

-- every answer of S has P
abbrev pub Every : {R : Type 0} → (R → Type 0) → Trail R → Type 0
Every {R} P S = (q : ℕ) (r : R) → lookup S q ≡ some r → P r

-- rules give answers that have P from answers that have P
abbrev pub Preserves : {F R : Type 0} → Rules F R → (R → Type 0) → Type 0
Preserves {F} {R} ρ P = (S : Trail R) → Every P S → (q : ℕ) (r : R) → run (lookup S) (ρ.rule q) ≡ value r → P r

every_more : {R : Type 0} (P : R → Type 0) (e : ℕ × R) (S : Trail R) → P e.1 → Every P S → Every P (e ∷ S)
every_more P e S p h q r k = elim (lookup-cases e S q r k) [ inl z ↦ rw z.1 at p | inr z ↦ h q r z ]

module _ {F R : Type 0} (ρ : Rules F R) (P : R → Type 0) (preserves : Preserves ρ P) where
  pub laid-all : (T : Trail R) → Laid ρ T → Every P T
  laid-all [] l = λ q r h. clash (cc)
  laid-all (e ∷ T) l = every_more P e T (preserves T (laid-all T l.2) e.0 e.1 l.1) (laid-all T l.2)

  -- ---- a refusal x₀ that is none of the order's, and that no rules give

  module _ {A : Type 0} (budget : ℕ) (root : Ask F R A) (N : ℕ) (closed : Closed ρ N) (root_below : Below N root)
      (x₀ : F) (not-circular : (q : ℕ) → ρ.circular q ≡ x₀ → ⊥) (not-excess : (q : ℕ) → ρ.excess q ≡ x₀ → ⊥) (not_full : ρ.full ≡ x₀ → ⊥)
      (not-ruled : (S : Trail R) → Every P S → (q : ℕ) → q < N → run (lookup S) (ρ.rule q) ≡ refused x₀ → ⊥)
      (not_root : (S : Trail R) → Every P S → run (lookup S) root ≡ refused x₀ → ⊥) where
    abbrev Avoids : Res F R A → Type 0
    Avoids m = Holds (λ x. x ≡ x₀ → ⊥) (Unit {0}) (λ a S n. Unit {0}) m

    not-barred : (busy : List ℕ) (n q : ℕ) (x : F) → bar ρ budget busy n q ≡ some x → x ≡ x₀ → ⊥
    not-barred busy n q x e z = elim (bar-some ρ budget busy n q e) [ inl c ↦ not-circular q (cc) | inr c ↦ not-excess q (cc) ]

    machine-avoids : (m : ℕ) (stack : List ℕ) → All (λ q. q < N) stack → (S : Trail R) (n : ℕ) → Every P S
        → Avoids (machine ρ budget root m stack S n)
    machine-avoids zero stack below S n h = dries tt
    machine-avoids (suc m) [] below S n h =
        react-holds (run (lookup S) root) (λ v e. answers tt) (λ x e z. not_root S h (cc))
        (λ q e. unless_holds _ n (bar ρ budget [] n q) (not-barred [] n q)
        (λ _. machine-avoids m (q ∷ []) ((run-missing N S root root_below q e).1, tt) S (suc n) h))
    machine-avoids (suc m) (b ∷ bs) below S n h =
        react-holds (run (lookup S) (ρ.rule b))
        (λ r e. after_holds {P = λ r' S' n'. Every P S'}
        (laid-holds ρ b r S n (λ fits. every_more P (b, r) S (preserves S h b r e) h) (λ full. not_full))
        (λ r' S' n' h'. machine-avoids m bs below.1 S' n' h'))
        (λ x e z. not-ruled S h b below.0 (cc))
        (λ q e. unless_holds _ n (bar ρ budget (b ∷ bs) n q) (not-barred (b ∷ bs) n q)
        (λ _. machine-avoids m (q ∷ b ∷ bs) ((run-missing N S (ρ.rule b) (closed b below.0) q e).1, below) S (suc n) h))

    pub never : resolve ρ budget root N ≡ refused x₀ → ⊥
    never e =
        let start : Every P [] = λ q r h. clash (cc) in
        holds-refused (rw (machine-resolves ρ budget root N closed root_below, e) at (machine-avoids (2 * N + 1) [] tt [] 0 start)) refl

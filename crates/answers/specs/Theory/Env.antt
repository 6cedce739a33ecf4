-- Rules that run alike resolve alike, however they are written. The machine shows it: it sees rules only through their runs.
use Rattle.std.specs.Prelude.{◌≡◌, refl, ℕ, zero, suc, ◌+◌, ◌*◌, ◌<◌, List, [], ◌∷◌}
use Rattle.std.proofs.Common.{sym, ◌∙◌}
use Rattle.std.proofs.Math.Option.{Option, none, some}
use Rattle.answers.specs.Ask.{Ask, value, run, Trail, lookup}
use Rattle.answers.specs.Resolve.{Rules, Res, bar, resolve}
use Rattle.answers.specs.Theory.Restarts.{unless, machine}
use Rattle.answers.specs.Theory.Sound.{All}
use Rattle.answers.specs.Theory.Fuel.{Below, Closed}
use Rattle.answers.specs.Theory.Machine.{react-cong, lay-cong, run-missing, machine-resolves}

-- the same refusals of the order, and the same room
pub record SameOrder {F R : Type 0} (ρ ρ' : Rules F R) : Type 0 where
  pub circular : (q : ℕ) → ρ.circular q ≡ ρ'.circular q
  pub excess : (q : ℕ) → ρ.excess q ≡ ρ'.excess q
  pub full : ρ.full ≡ ρ'.full
  pub fits : (S : Trail R) → ρ.fits S ≡ ρ'.fits S

unless-cong : {F R A : Type 0} (x : Option F) (push push' : ℕ → Res F R A) (n : ℕ) → push (suc n) ≡ push' (suc n)
    → unless x push n ≡ unless x push' n
unless-cong (some y) push push' n h = refl
unless-cong none push push' n h = h

-- The runs are the same against every trail of which I holds, and I holds of the trails that ρ lays.
module _ {F R A : Type 0} (ρ ρ' : Rules F R) (order : SameOrder ρ ρ') (budget : ℕ) (root root' : Ask F R A) (N : ℕ)
    (closed : Closed ρ N) (root_below : Below N root) (closed' : Closed ρ' N) (root-below' : Below N root')
    (I : Trail R → Type 0) (I-empty : I [])
    (I-lays : (S : Trail R) → I S → (q : ℕ) → q < N → (r : R) → run (lookup S) (ρ.rule q) ≡ value r → I ((q, r) ∷ S))
    (same : (S : Trail R) → I S → (q : ℕ) → q < N → run (lookup S) (ρ.rule q) ≡ run (lookup S) (ρ'.rule q))
    (same-root : (S : Trail R) → I S → run (lookup S) root ≡ run (lookup S) root') where
  same-bar : (busy : List ℕ) (n q : ℕ) → bar ρ' budget busy n q ≡ bar ρ budget busy n q
  same-bar busy n q = rw (order.circular q, order.excess q)

  machine-env : (m : ℕ) (stack : List ℕ) → All (λ q. q < N) stack → (S : Trail R) (n : ℕ) → I S
      → machine ρ budget root m stack S n ≡ machine ρ' budget root' m stack S n
  machine-env zero stack below S n i = refl
  machine-env (suc m) [] below S n i =
      rw (← same-root S i)
      (react-cong (run (lookup S) root) (λ v e. refl)
      (λ q e. rw (same-bar [] n q) (unless-cong (bar ρ budget [] n q) _ _ n
      (machine-env m (q ∷ []) ((run-missing N S root root_below q e).1, tt) S (suc n) i))))
  machine-env (suc m) (b ∷ bs) below S n i =
      rw (← same S i b below.0)
      (react-cong (run (lookup S) (ρ.rule b))
      (λ r e. rw (← order.fits ((b, r) ∷ S), ← order.full) (lay-cong ρ b r S n _ _
      (machine-env m bs below.1 ((b, r) ∷ S) n (I-lays S i b below.0 r e))))
      (λ q e. rw (same-bar (b ∷ bs) n q) (unless-cong (bar ρ budget (b ∷ bs) n q) _ _ n
      (machine-env m (q ∷ b ∷ bs) ((run-missing N S (ρ.rule b) (closed b below.0) q e).1, below) S (suc n) i))))

  pub env : resolve ρ budget root N ≡ resolve ρ' budget root' N
  env =
      sym (machine-resolves ρ budget root N closed root_below)
      ∙ machine-env (2 * N + 1) [] tt [] 0 I-empty
      ∙ machine-resolves ρ' budget root' N closed' root-below'

-- An accepted trail's entries in another order, each question after those that it needs, are accepted too.
use Rattle.std.specs.Prelude.{◌≡◌, refl, ℕ, true, [], ◌∷◌}
use Rattle.std.proofs.Math.Option.{Option, none, some}
use Rattle.std.proofs.Common.{inl, inr}
use Rattle.answers.specs.Ask.{Ask, done, refused, need, value, run, needs, Trail, lookup, Once}
use Rattle.answers.specs.Resolve.{Rules, Laid, Accepts}
use Rattle.answers.specs.Theory.Sound.{clash, All, Within, lookup-new, lookup-cases, lookup-keeps, run-inv, run-keeps}
use Rattle.answers.specs.Theory.Fuel.{has}

-- S' holds S's entries in some order
pub record Reorders {R : Type 0} (S S' : Trail R) : Type 0 where
  pub once : Once S'
  pub holds : Within S S'
  pub nothing-else : Within S' S

-- every answer that t takes from S is in S'
abbrev pub Met : {F R A : Type 0} → Trail R → Trail R → Ask F R A → Type 0
Met S S' t = All (λ q. has (lookup S' q) ≡ true) (needs (lookup S) t)

-- each question of S' stands after those that it needs, by S's answers
abbrev pub Ordered : {F R : Type 0} → Rules F R → Trail R → Trail R → Type 0
Ordered ρ S [] = Unit {0}
Ordered ρ S (e ∷ S') = Met S S' (ρ.rule e.0) × Ordered ρ S S'

has_some : {R : Type 0} (o : Option R) → has o ≡ true → (r : R) × (o ≡ some r)
has_some none e = clash (cc)
has_some (some r) e = (r, refl)

-- a run asks for no more than what it takes
run-met : {F R A : Type 0} (S S' : Trail R) → Within S' S → (t : Ask F R A) → Met S S' t → {a : A} → run (lookup S) t ≡ value a
    → run (lookup S') t ≡ value a
run-met S S' w (done a) met e = e
run-met S S' w (refused x) met e = e
run-met S S' w (need q f) met e =
    let (r, h, k) = run-inv (lookup S) q f e in
    let (r', h') = has_some (lookup S' q) met.0 in
    let same : r' ≡ r = cc (w q r' h') in
    let rest : Met S S' (f r) = rw h at met.1 in
    rw (h', same) (run-met S S' w (f r) rest k)

module _ {F R : Type 0} (ρ : Rules F R) where
  -- an entry's rules give its answer against the whole trail too
  pub laid_runs : (S : Trail R) → Laid ρ S → (q : ℕ) (r : R) → lookup S q ≡ some r → run (lookup S) (ρ.rule q) ≡ value r
  laid_runs [] l q r h = clash (cc)
  laid_runs (e ∷ S) l q r h =
      run-keeps S (e ∷ S) (lookup-keeps e S l.0) (ρ.rule q)
      (elim (lookup-cases e S q r h) [ inl z ↦ rw (z.0, z.1) at l.1 | inr z ↦ laid_runs S l.2 q r z ])

  reorder-laid : (S : Trail R) → Laid ρ S → (S' : Trail R) → Once S' → Within S' S → Ordered ρ S S' → Laid ρ S'
  reorder-laid S l [] once w o = tt
  reorder-laid S l (e ∷ S') once w o =
      let w' : Within S' S = λ q r h. w q r (lookup-keeps e S' once.0 q r h) in (
        once.0,
        run-met S S' w' (ρ.rule e.0) o.0 (laid_runs S l e.0 e.1 (w e.0 e.1 (lookup-new e S'))),
        reorder-laid S l S' once.1 w' o.1,
      )

  pub reordered : {A : Type 0} (root : Ask F R A) (S S' : Trail R) {v : A} → Accepts ρ root S v → Reorders S S' → Ordered ρ S S'
      → Accepts ρ root S' v
  reordered root S S' acc p o = record {
    laid = reorder-laid S acc.laid S' p.once p.nothing-else o;
    root-runs = run-keeps S S' p.holds root acc.root-runs;
  }

-- what a run that has its value takes is there
run-takes : {F R A : Type 0} (S S' : Trail R) → Within S' S → (t : Ask F R A) {a : A} → run (lookup S') t ≡ value a → Met S S' t
run-takes S S' w (done a) e = tt
run-takes S S' w (refused x) e = tt
run-takes S S' w (need q f) e =
    let (r, h, k) = run-inv (lookup S') q f e in
    (rw h, rw (w q r h) (run-takes S S' w (f r) k))

-- so in a trail that is laid each question stands after those that it needs
pub laid-ordered : {F R : Type 0} (ρ : Rules F R) (S S' : Trail R) → Within S' S → Laid ρ S' → Ordered ρ S S'
laid-ordered ρ S [] w l = tt
laid-ordered ρ S (e ∷ S') w l =
    let w' : Within S' S = λ q r h. w q r (lookup-keeps e S' l.0 q r h) in
    (run-takes S S' w' (ρ.rule e.0) l.1, laid-ordered ρ S S' w' l.2)

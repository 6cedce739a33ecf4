-- The same acceptance, said of a trail in the order in which it was laid, the oldest entry first: each entry against those before it.
use Rattle.std.specs.Prelude.{◌≡◌, refl, ℕ, Bool, true, false, cond, ◌↔◌, eqb}
use Rattle.std.proofs.Common.{sym, ap, ◌∙◌, eqb-true, eq-eqb}
use mathlib.Core.List.{[], ◌∷◌, ◌++◌, reverse, reverse_aux, append-nil}
use Rattle.std.proofs.Math.Seq.{append_snoc}
use Rattle.std.proofs.Math.Option.{Option, none, some}
use Rattle.answers.specs.Ask.{Ask, value, run, Trail, lookup}
use Rattle.answers.specs.Resolve.{Rules, Laid, Accepts}
use Rattle.answers.specs.Theory.Sound.{clash}
use Rattle.answers.specs.Theory.Invariant.{run-cong}

module _ {F R : Type 0} (ρ : Rules F R) where
  -- after the entries P, each entry of T is new, and its answer is what its rules give from those before it
  abbrev pub Follows : Trail R → Trail R → Type 0
  Follows P [] = Unit {0}
  Follows P (e ∷ T) = (lookup P e.0 ≡ none) × (run (lookup P) (ρ.rule e.0) ≡ value e.1) × Follows (P ++ (e ∷ [])) T

  pub record Checks {A : Type 0} (root : Ask F R A) (T : Trail R) (v : A) : Type 0 where
    pub follows : Follows [] T
    pub root-runs : run (lookup T) root ≡ value v

-- ---- an entry more, at the one trail's head and at the other's end: the lookups are the same

abbrev Alike : {R : Type 0} → Trail R → Trail R → Type 0
Alike S T = (q : ℕ) → lookup S q ≡ lookup T q

module _ {R : Type 0} (e : ℕ × R) where
  snoc-other : (T : Trail R) (q : ℕ) → eqb e.0 q ≡ false → lookup (T ++ (e ∷ [])) q ≡ lookup T q
  snoc-other [] q h = rw h
  snoc-other (d ∷ T) q h = ap (λ (o : Option R). cond (eqb d.0 q) (some d.1) o) (snoc-other T q h)

  snoc_new : (T : Trail R) → lookup T e.0 ≡ none → lookup (T ++ (e ∷ [])) e.0 ≡ some e.1
  snoc_new [] h = rw (eq-eqb e.0 e.0 refl)
  snoc_new (d ∷ T) h = go (eqb d.0 e.0) h (snoc_new T)
    where
      go : (t : Bool) → cond t (some d.1) (lookup T e.0) ≡ none → (lookup T e.0 ≡ none → lookup (T ++ (e ∷ [])) e.0 ≡ some e.1)
          → cond t (some d.1) (lookup (T ++ (e ∷ [])) e.0) ≡ some e.1
      go true k ih = clash (cc)
      go false k ih = ih k

  alike-snoc : (S T : Trail R) → lookup S e.0 ≡ none → Alike S T → Alike (e ∷ S) (T ++ (e ∷ []))
  alike-snoc S T new a q = go (eqb e.0 q) refl
    where
      go : (t : Bool) → eqb e.0 q ≡ t → cond t (some e.1) (lookup S q) ≡ lookup (T ++ (e ∷ [])) q
      go true b = let z : e.0 ≡ q = eqb-true e.0 q b in rw (← z) (sym (snoc_new T (sym (a e.0) ∙ new)))
      go false b = a q ∙ sym (snoc-other T q b)

-- ---- the two acceptances

-- S is what is laid so far, P the same in order, and T what follows
module _ {F R : Type 0} (ρ : Rules F R) where
  laid-rest : (T S : Trail R) → Laid ρ (reverse_aux T S) → Laid ρ S
  laid-rest [] S l = l
  laid-rest (e ∷ T) S l = (laid-rest T (e ∷ S) l).2

  follows-laid : (T S P : Trail R) → Alike S P → Laid ρ S → Follows ρ P T → Laid ρ (reverse_aux T S)
  follows-laid [] S P a l f = l
  follows-laid (e ∷ T) S P a l f =
      let new : lookup S e.0 ≡ none = a e.0 ∙ f.0 in
      follows-laid T (e ∷ S) (P ++ (e ∷ [])) (alike-snoc e S P new a)
      (new, run-cong (lookup S) (lookup P) a (ρ.rule e.0) ∙ f.1, l) f.2

  laid-follows : (T S P : Trail R) → Alike S P → Laid ρ (reverse_aux T S) → Follows ρ P T × Alike (reverse_aux T S) (P ++ T)
  laid-follows [] S P a l = (tt, rw (append-nil P) a)
  laid-follows (e ∷ T) S P a l =
      let (new, runs, _) = laid-rest T (e ∷ S) l in
      let (f, all) = laid-follows T (e ∷ S) (P ++ (e ∷ [])) (alike-snoc e S P new a) l in
      ((sym (a e.0) ∙ new, sym (run-cong (lookup S) (lookup P) a (ρ.rule e.0)) ∙ runs, f), rw (← append_snoc P e T) all)

  -- a trail in order is checked as its reverse, the newest first, is accepted
  pub checks-iff : {A : Type 0} (root : Ask F R A) (T : Trail R) (v : A) → Checks ρ root T v ↔ Accepts ρ root (reverse T) v
  checks-iff root T v = (
    λ c.
        let l = follows-laid T [] [] (λ q. refl) tt c.follows in
        record { laid = l; root-runs = same-root l ∙ c.root-runs },
    λ p. record { follows = (laid-follows T [] [] (λ q. refl) p.laid).0; root-runs = sym (same-root p.laid) ∙ p.root-runs },
  )
    where
      same-root : Laid ρ (reverse T) → run (lookup (reverse T)) root ≡ run (lookup T) root
      same-root l = run-cong (lookup (reverse T)) (lookup T) (laid-follows T [] [] (λ q. refl) l).1 root

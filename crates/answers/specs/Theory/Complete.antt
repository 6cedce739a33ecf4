-- Where a trail that fits is accepted, a resolution with budget enough answers the same value, from entries of that trail.
-- So a resolution refuses exactly where no trail that fits is accepted.
use Rattle.std.specs.Prelude.{◌≡◌, refl, ℕ, zero, suc, ◌+◌, ◌≤◌, ◌<◌, true, false, List, [], ◌∷◌, ◌↔◌}
use Rattle.std.proofs.Common.{◌∙◌, inl, inr, arith, ne_eqb, lt-ltb}
use Rattle.std.proofs.Math.Option.{none, some}
use Rattle.answers.specs.Ask.{Ask, done, refused, need, value, run, Trail, lookup, mem, Once}
use Rattle.answers.specs.Resolve.{Rules, Res, answer, refused, walk, bar, worked, resolve, Laid, Accepts}
use Rattle.answers.specs.Theory.Holds.{Handler, answers, Fully, after_holds, lay-holds, enter-holds, full-answer, wet-refused}
use Rattle.answers.specs.Theory.Sound.{clash, Within, lookup-other, lookup-cases, lookup-keeps, mem-new, mem-cases, mem-more, run-inv}
use Rattle.answers.specs.Theory.Sound.{accepted, fitting}
use Rattle.answers.specs.Theory.Fuel.{free-le, idle, idle-drop, begun, left, left-begin, left-lay, Below, Closed, resolve-wet}

-- what lies within a trail that fits, fits
abbrev pub Shrinks : {F R : Type 0} → Rules F R → Type 0
Shrinks {F} {R} ρ = (S T : Trail R) → Once S → Within S T → ρ.fits T ≡ true → ρ.fits S ≡ true

-- ---- a resolution beside the accepted trail T

module _ {F R : Type 0} (ρ : Rules F R) (budget N : ℕ) (closed : Closed ρ N) (shrinks : Shrinks ρ) (T : Trail R) (T-fits : ρ.fits T ≡ true) where
  -- so far every answer is T's, and the budget is enough for all that has not begun
  record Good (busy : List ℕ) (S : Trail R) (n : ℕ) : Type 0 where
    within : Within S T
    once : Once S
    apart : (q : ℕ) → mem q busy ≡ true → lookup S q ≡ none
    enough : n + left N S busy ≤ budget

  good-free : {busy : List ℕ} {S : Trail R} {n : ℕ} (q : ℕ) → mem q busy ≡ false → lookup S q ≡ none → q < N → Good busy S n
      → bar ρ budget busy n q ≡ none
  good-free {busy} {S} {n} q m new l g = rw (m, lt-ltb n budget (omega (arith, left-begin N q S busy m new l, g.enough)))

  good-begin : {busy : List ℕ} {S : Trail R} {n : ℕ} (q : ℕ) → mem q busy ≡ false → lookup S q ≡ none → q < N
      → Good busy S n → Good (q ∷ busy) S (suc n)
  good-begin {busy} {S} {n} q m new l g = record {
    within = g.within;
    once = g.once;
    apart = λ j e. elim (mem-cases q busy j e) [ inl z ↦ rw z at new | inr k ↦ g.apart j k ];
    enough = omega (arith, left-begin N q S busy m new l, g.enough);
  }

  good-lay : {busy : List ℕ} {S : Trail R} {n : ℕ} (q : ℕ) (r : R) → mem q busy ≡ false → lookup T q ≡ some r
      → Good (q ∷ busy) S n → (ρ.fits ((q, r) ∷ S) ≡ true) × Good busy ((q, r) ∷ S) n
  good-lay {busy} {S} {n} q r m h g =
      let new : lookup S q ≡ none = g.apart q (mem-new q busy) in
      let w : Within ((q, r) ∷ S) T = λ j x e. elim (lookup-cases (q, r) S j x e) [ inl z ↦ cc | inr k ↦ g.within j x k ] in (
        shrinks ((q, r) ∷ S) T (new, g.once) w T-fits,
        record {
          within = w;
          once = (new, g.once);
          apart = λ j e. lookup-other (q, r) S j (λ z. clash (cc)) ∙ g.apart j (mem-more q busy j e);
          enough = omega (arith, left-lay N q S busy r, g.enough);
        },
      )

  -- the result is a, and all is good still
  abbrev Ends : {A : Type 0} → List ℕ → A → Res F R A → Type 0
  Ends busy a m = Fully (λ a' S' n'. (a' ≡ a) × Good busy S' n') m

  -- a handler that answers as T' does; a walk by it ends as a run against T' does
  abbrev AnswersAs : Trail R → List ℕ → Handler F R → Type 0
  AnswersAs T' busy h = (q : ℕ) (S : Trail R) (n : ℕ) (r : R) → q < N → lookup T' q ≡ some r → Good busy S n → Ends busy r (h q S n)

  walk_ends : {A : Type 0} (T' : Trail R) {busy : List ℕ} (h : Handler F R) → AnswersAs T' busy h
      → (t : Ask F R A) → Below N t → (S : Trail R) (n : ℕ) (a : A) → run (lookup T') t ≡ value a → Good busy S n
      → Ends busy a (walk h S n t)
  walk_ends T' h H (done a') w S n a e g = answers {a = a'} (cc, g)
  walk_ends T' h H (refused x) w S n a e g = clash (cc)
  walk_ends T' h H (need q f) w S n a e g =
      let (r, z, k) = run-inv (lookup T') q f e in
      after_holds (H q S n r w.0 z g) (λ r' S' n' p. rw p.0 (walk_ends T' h H (f r) (w.1 r) S' n' a k p.1))

  -- q is in the trail, or begins: its rules run against T', and what they need is answered as T' does
  begin-ends : (T' : Trail R) (k : ℕ) (busy : List ℕ) (q : ℕ) (S : Trail R) (n : ℕ) (r : R) → idle N busy ≤ k → mem q busy ≡ false → q < N
      → lookup T q ≡ some r → run (lookup T') (ρ.rule q) ≡ value r
      → ((j : ℕ) → idle N (q ∷ busy) ≤ j → AnswersAs T' (q ∷ busy) (worked ρ budget j (q ∷ busy))) → Good busy S n
      → Ends busy r (worked ρ budget k busy q S n)
  begin-ends T' zero busy q S n r i m l h runs H g = absurd (omega (arith, idle-drop N busy q m l))
  begin-ends T' (suc k) busy q S n r i m l h runs H g =
      let deeper = worked ρ budget k (q ∷ busy) in
      let lower : idle N (q ∷ busy) ≤ k = omega (arith, idle-drop N busy q m l) in
      enter-holds S n _ (lookup S q) (bar ρ budget busy n q)
      (λ r' e. (cc (g.within q r' e), g))
      (λ x new e. clash (cc (good-free q m new l g)))
      (λ new e.
      lay-holds ρ q (walk_ends T' deeper (H k lower) (ρ.rule q) (closed q l) S (suc n) r runs (good-begin q m new l g))
      (λ r' S' n' p f. (p.0, (good-lay q r' m (cc) p.1).1))
      (λ r' S' n' p f. clash (cc (good-lay q r' m (cc) p.1).0)))

  worked-ends : (T' : Trail R) → Laid ρ T' → Within T' T → (k : ℕ) (busy : List ℕ) → idle N busy ≤ k
      → ((q : ℕ) (r : R) → lookup T' q ≡ some r → mem q busy ≡ false) → AnswersAs T' busy (worked ρ budget k busy)
  worked-ends [] l w k busy i d q S n r lt h g = clash (cc)
  worked-ends (e ∷ T') l w k busy i d q S n r lt h g =
      let keep : Within T' (e ∷ T') = lookup-keeps e T' l.0 in
      let w' : Within T' T = λ j x z. w j x (keep j x z) in
      elim (lookup-cases e T' q r h) [
        | inl z ↦
            begin-ends T' k busy q S n r i (d q r h) lt (w q r h) (rw (z.0, z.1) at l.1)
            (λ j i'. worked-ends T' l.2 w' j (q ∷ busy) i' (λ c x u. rw (ne_eqb q c (λ y. clash (cc l.0))) (d c x (keep c x u)))) g
        | inr z ↦ worked-ends T' l.2 w' k busy i (λ c x u. d c x (keep c x u)) q S n r lt z g
      ]

  -- T itself as T', from the empty trail
  root_ends : {A : Type 0} (root : Ask F R A) → Below N root → N ≤ budget → (v : A) → Accepts ρ root T v → Ends [] v (resolve ρ budget root N)
  root_ends root w le v acc =
      let H = worked-ends T acc.laid (λ q r h. h) N [] (free-le (λ q. mem q []) N) (λ q r h. refl) in
      walk_ends T (worked ρ budget N []) H root w [] 0 v acc.root-runs (record {
        within = λ q r h. clash (cc);
        once = tt;
        apart = λ q h. refl;
        enough = omega (arith, free-le (begun {R = R} [] []) N);
      })

module _ {F R A : Type 0} (ρ : Rules F R) (budget : ℕ) (root : Ask F R A) (N : ℕ) (closed : Closed ρ N) (root_below : Below N root)
    (shrinks : Shrinks ρ) (enough : N ≤ budget) where
  pub complete : (T : Trail R) → ρ.fits T ≡ true → {v : A} → Accepts ρ root T v
      → (S : Trail R) × (n : ℕ) × (resolve ρ budget root N ≡ answer v S n) × Within S T
  complete T T-fits {v} acc =
      let (a, S, n, e, p) = full-answer (root_ends ρ budget N closed shrinks T T-fits root root_below enough v acc) in
      (S, n, rw p.0 at e, p.1.within)

  pub refuses-iff : ρ.fits [] ≡ true
      → ((x : F) × (resolve ρ budget root N ≡ refused x)) ↔ ((T : Trail R) (v : A) → Accepts ρ root T v → ρ.fits T ≡ true → ⊥)
  refuses-iff empty-fits = (
    λ p T v acc T-fits. let (S, n, e, w) = complete T T-fits acc in clash (cc),
    λ h. wet-refused (resolve-wet ρ budget root N closed root_below)
        (λ v S n e. h S v (accepted ρ budget root N e) (fitting ρ budget root N e empty-fits)),
  )

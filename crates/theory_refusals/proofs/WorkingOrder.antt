-- A resolution refuses exactly where a moment that the order of working out comes to stops, and answers exactly where nothing is left to
-- work out and the root has its value.
use Rattle.std.specs.Prelude.{◌≡◌, refl, ℕ, zero, suc, ◌+◌, ◌*◌, ◌≤◌, ◌<◌, Bool, true, false, cond, List, [], ◌∷◌, ◌↔◌, ltb}
use Rattle.std.proofs.Common.{sym, ap, ◌∙◌, arith, ltb-false, lt-ltb, le-ltb}
use Rattle.std.proofs.Math.Option.{Option, none, some}
use Rattle.answers.specs.Ask.{Ask, Out, value, refused, missing, run, Trail, lookup, mem}
use Rattle.answers.specs.Resolve.{Rules, Res, answer, refused, after, bar, lay, resolve}
use Rattle.answers.specs.Theory.Restarts.{react, unless, machine}
use Rattle.answers.specs.Theory.Holds.{Holds, answers, dries, Wet, of-answer}
use Rattle.answers.specs.Theory.Holds.{holds-refused, after_holds, react-holds, unless_holds, laid-holds}
use Rattle.answers.specs.Theory.Sound.{clash, bar-none}
use Rattle.answers.specs.Theory.Fuel.{Below, Closed, resolve-wet}
use Rattle.answers.specs.Theory.Machine.{machine-resolves}
use Rattle.theory_refusals.specs.WorkingOrder.{Needs, Refuses, Reached, start, begins, lays, begun-within, Stops, circular, excess, ruled, full, Stopped, Finished}

module _ {F R A : Type 0} (ρ : Rules F R) (budget : ℕ) (root : Ask F R A) where
  -- ---- the machine goes through such moments only

  abbrev Kept : Res F R A → Type 0
  Kept m = Holds (Stopped ρ budget root) (Unit {0}) (Finished ρ budget root) m

  barred : {stack : List ℕ} {S : Trail R} {n : ℕ} → Reached ρ budget root stack S n → (q : ℕ) → Needs ρ budget root stack S q → (x : F)
      → bar ρ budget stack n q ≡ some x
      → Stopped ρ budget root x
  barred {stack} {S} {n} h q w x e = go (mem q stack) refl (ltb n budget) refl e
    where
      go : (s : Bool) → mem q stack ≡ s → (t : Bool) → ltb n budget ≡ t
          → cond s (some (ρ.circular q)) (cond t none (some (ρ.excess q))) ≡ some x → Stopped ρ budget root x
      go true m t l z = (stack, S, n, h, circular q w m (cc))
      go false m true l z = clash (cc)
      go false m false l z = (stack, S, n, h, excess q w m (omega (arith, begun-within ρ budget root h, ltb-false n budget l)) (cc))

  kept : (m : ℕ) (stack : List ℕ) (S : Trail R) (n : ℕ) → Reached ρ budget root stack S n → Kept (machine ρ budget root m stack S n)
  kept zero stack S n h = dries tt
  kept (suc m) [] S n h =
      react-holds (run (lookup S) root) (λ v e. answers (h, e)) (λ x e. ([], S, n, h, ruled e))
      (λ q e. unless_holds _ n (bar ρ budget [] n q) (barred h q e)
      (λ z. let (idle, room) = bar-none ρ budget [] n q z in kept m (q ∷ []) S (suc n) (begins q h e idle room)))
  kept (suc m) (b ∷ bs) S n h =
      react-holds (run (lookup S) (ρ.rule b))
      (λ r e. after_holds {P = λ r' S' n'. Reached ρ budget root bs S' n'}
      (laid-holds ρ b r S n (λ fits. lays b r h e fits) (λ unfit. (b ∷ bs, S, n, h, full b bs refl r e unfit refl)))
      (λ r' S' n' h'. kept m bs S' n' h'))
      (λ x e. (b ∷ bs, S, n, h, ruled e))
      (λ q e. unless_holds _ n (bar ρ budget (b ∷ bs) n q) (barred h q e)
      (λ z. let (idle, room) = bar-none ρ budget (b ∷ bs) n q z in kept m (q ∷ b ∷ bs) S (suc n) (begins q h e idle room)))

  -- ---- and through every one of them

  bar-free : (stack : List ℕ) (n q : ℕ) → mem q stack ≡ false → n < budget → bar ρ budget stack n q ≡ none
  bar-free stack n q idle room = rw (idle, lt-ltb n budget room)

  bar-circular : (stack : List ℕ) (n q : ℕ) → mem q stack ≡ true → bar ρ budget stack n q ≡ some (ρ.circular q)
  bar-circular stack n q busy = rw busy

  bar-excess : (stack : List ℕ) (n q : ℕ) → mem q stack ≡ false → budget ≤ n → bar ρ budget stack n q ≡ some (ρ.excess q)
  bar-excess stack n q idle spent = rw (idle, le-ltb n budget spent)

  -- what a machine's step does where a question is needed
  needs-step : (m : ℕ) (stack : List ℕ) (S : Trail R) (n q : ℕ) → Needs ρ budget root stack S q
      → machine ρ budget root (suc m) stack S n ≡ unless (bar ρ budget stack n q) (machine ρ budget root m (q ∷ stack) S) n
  needs-step m [] S n q w = rw w
  needs-step m (b ∷ bs) S n q w = rw w

  lays_step : (m b : ℕ) (bs : List ℕ) (S : Trail R) (n : ℕ) (r : R) → run (lookup S) (ρ.rule b) ≡ value r
      → machine ρ budget root (suc m) (b ∷ bs) S n
      ≡ after (cond (ρ.fits ((b, r) ∷ S)) (answer r ((b, r) ∷ S) n) (refused ρ.full)) (λ r' S' n'. machine ρ budget root m bs S' n')
  lays_step m b bs S n r e = rw e

  ruled_step : (m : ℕ) (stack : List ℕ) (S : Trail R) (n : ℕ) (x : F) → Refuses ρ budget root stack S x
      → machine ρ budget root (suc m) stack S n ≡ refused x
  ruled_step m [] S n x e = rw e
  ruled_step m (b ∷ bs) S n x e = rw e

  -- so many steps lead to a moment, whatever more are left
  steps : {stack : List ℕ} {S : Trail R} {n : ℕ} → Reached ρ budget root stack S n
      → (k : ℕ) × ((m : ℕ) → machine ρ budget root (k + m) [] [] 0 ≡ machine ρ budget root m stack S n)
  steps start = (0, λ m. let none_yet : 0 + m ≡ m = omega arith in ap (λ i. machine ρ budget root i [] [] 0) none_yet)
  steps (begins {stack} {S} {n} q h w idle room) =
      let (k, f) = steps h in (
        suc k,
        λ m. let more : suc k + m ≡ k + suc m = omega arith in
            ap (λ i. machine ρ budget root i [] [] 0) more ∙ f (suc m) ∙ needs-step m stack S n q w
            ∙ ap (λ o. unless o (machine ρ budget root m (q ∷ stack) S) n) (bar-free stack n q idle room),
      )
  steps (lays {stack} {S} {n} b r h e fits) =
      let (k, f) = steps h in (
        suc k,
        λ m. let more : suc k + m ≡ k + suc m = omega arith in
            ap (λ i. machine ρ budget root i [] [] 0) more ∙ f (suc m) ∙ lays_step m b stack S n r e
            ∙ ap (λ t. after (cond t (answer r ((b, r) ∷ S) n) (refused ρ.full)) (λ r' S' n'. machine ρ budget root m stack S' n')) fits,
      )

  stop_step : (m : ℕ) (stack : List ℕ) (S : Trail R) (n : ℕ) (x : F) → Stops ρ budget root stack S n x
      → machine ρ budget root (suc m) stack S n ≡ refused x
  stop_step m stack S n x (circular q w busy e) =
      needs-step m stack S n q w ∙ ap (λ o. unless o (machine ρ budget root m (q ∷ stack) S) n) (bar-circular stack n q busy)
      ∙ ap (λ y. refused y) (sym e)
  stop_step m stack S n x (excess q w idle all e) =
      needs-step m stack S n q w
      ∙ ap (λ o. unless o (machine ρ budget root m (q ∷ stack) S) n) (bar-excess stack n q idle (omega arith)) ∙ ap (λ y. refused y) (sym e)
  stop_step m stack S n x (ruled e) = ruled_step m stack S n x e
  stop_step m stack S n x (full b bs s r e unfit y) =
      ap (λ l. machine ρ budget root (suc m) l S n) s ∙ lays_step m b bs S n r e
      ∙ ap (λ t. after (cond t (answer r ((b, r) ∷ S) n) (refused ρ.full)) (λ r' S' n'. machine ρ budget root m bs S' n')) unfit
      ∙ ap (λ z. refused z) (sym y)

  end_step : (m : ℕ) (S : Trail R) (n : ℕ) (v : A) → run (lookup S) root ≡ value v → machine ρ budget root (suc m) [] S n ≡ answer v S n
  end_step m S n v e = rw e

  -- where m steps are enough, more change nothing
  abbrev Enough : (m k : ℕ) → Type 0
  Enough m k = (stack : List ℕ) (S : Trail R) (n : ℕ) → Wet (machine ρ budget root m stack S n)
      → machine ρ budget root k stack S n ≡ machine ρ budget root m stack S n

  begun_more : (m k : ℕ) → Enough m k → (stack : List ℕ) (S : Trail R) (n q : ℕ) (o : Option F)
      → Wet (unless o (machine ρ budget root m (q ∷ stack) S) n)
      → unless o (machine ρ budget root k (q ∷ stack) S) n ≡ unless o (machine ρ budget root m (q ∷ stack) S) n
  begun_more m k ih stack S n q none u = ih (q ∷ stack) S (suc n) u
  begun_more m k ih stack S n q (some x) u = refl

  laid_more : (m k : ℕ) → Enough m k → (b : ℕ) (bs : List ℕ) (S : Trail R) (n : ℕ) (r : R) (t : Bool)
      → Wet (after (cond t (answer r ((b, r) ∷ S) n) (refused ρ.full)) (λ r' S' n'. machine ρ budget root m bs S' n'))
      → after (cond t (answer r ((b, r) ∷ S) n) (refused ρ.full)) (λ r' S' n'. machine ρ budget root k bs S' n')
      ≡ after (cond t (answer r ((b, r) ∷ S) n) (refused ρ.full)) (λ r' S' n'. machine ρ budget root m bs S' n')
  laid_more m k ih b bs S n r true u = ih bs ((b, r) ∷ S) n u
  laid_more m k ih b bs S n r false u = refl

  more-steps : (m k : ℕ) → m ≤ k → Enough m k
  more-steps zero k l stack S n (dries z) = absurd z
  more-steps (suc m) zero l stack S n w = absurd (omega arith)
  more-steps (suc m) (suc k) l [] S n w = go (more-steps m k (omega arith)) (run (lookup S) root) w
    where
      go : Enough m k → (o : Out F A)
          → Wet (react o (λ v. answer v S n) (λ q. unless (bar ρ budget [] n q) (machine ρ budget root m (q ∷ []) S) n))
          → ◌≡◌ {A = Res F R A} (react o (λ v. answer v S n) (λ q. unless (bar ρ budget [] n q) (machine ρ budget root k (q ∷ []) S) n))
          (react o (λ v. answer v S n) (λ q. unless (bar ρ budget [] n q) (machine ρ budget root m (q ∷ []) S) n))
      go ih (value v) u = refl
      go ih (Out.refused x) u = refl
      go ih (missing q) u = begun_more m k ih [] S n q (bar ρ budget [] n q) u
  more-steps (suc m) (suc k) l (b ∷ bs) S n w = go (more-steps m k (omega arith)) (run (lookup S) (ρ.rule b)) w
    where
      go : Enough m k → (o : Out F R)
          → Wet (react o (λ r. after (lay ρ b (answer r S n)) (λ r' S' n'. machine ρ budget root m bs S' n'))
          (λ q. unless (bar ρ budget (b ∷ bs) n q) (machine ρ budget root m (q ∷ b ∷ bs) S) n))
          → ◌≡◌ {A = Res F R A} (react o (λ r. after (lay ρ b (answer r S n)) (λ r' S' n'. machine ρ budget root k bs S' n'))
          (λ q. unless (bar ρ budget (b ∷ bs) n q) (machine ρ budget root k (q ∷ b ∷ bs) S) n))
          (react o (λ r. after (lay ρ b (answer r S n)) (λ r' S' n'. machine ρ budget root m bs S' n'))
          (λ q. unless (bar ρ budget (b ∷ bs) n q) (machine ρ budget root m (q ∷ b ∷ bs) S) n))
      go ih (value r) u = laid_more m k ih b bs S n r (ρ.fits ((b, r) ∷ S)) u
      go ih (Out.refused x) u = refl
      go ih (missing q) u = begun_more m k ih (b ∷ bs) S n q (bar ρ budget (b ∷ bs) n q) u

  -- ---- the resolution

  module _ (N : ℕ) (closed : Closed ρ N) (root_below : Below N root) where
    resolution-kept : Kept (resolve ρ budget root N)
    resolution-kept = rw (machine-resolves ρ budget root N closed root_below) at (kept (2 * N + 1) [] [] 0 start)

    -- so many steps more than a moment takes
    beyond : {stack : List ℕ} {S : Trail R} {n : ℕ} (h : Reached ρ budget root stack S n) (o : Res F R A)
        → ((m : ℕ) → machine ρ budget root (suc m) stack S n ≡ o) → resolve ρ budget root N ≡ o
    beyond {stack} {S} {n} h o next =
        let (k, f) = steps h in
        let same = machine-resolves ρ budget root N closed root_below in
        let enough : Wet (machine ρ budget root (2 * N + 1) [] [] 0) = rw (← same) at (resolve-wet ρ budget root N closed root_below) in
        sym same ∙ sym (more-steps (2 * N + 1) (k + suc (2 * N + 1)) (omega arith) [] [] 0 enough) ∙ f (suc (2 * N + 1)) ∙ next (2 * N + 1)

    -- A resolution refuses with x exactly if the order of working out comes to a moment that stops with x.
    pub refuses-exactly : (x : F) → (resolve ρ budget root N ≡ refused x) ↔ Stopped ρ budget root x
    refuses-exactly x = (
      λ e. holds-refused (rw e at resolution-kept),
      λ (stack, S, n, h, s). beyond h (refused x) (λ m. stop_step m stack S n x s),
    )

    -- It answers exactly if nothing is left to work out and the root has its value.
    pub answers-exactly : (v : A) (S : Trail R) (n : ℕ) → (resolve ρ budget root N ≡ answer v S n) ↔ Finished ρ budget root v S n
    answers-exactly v S n = (
      λ e. of-answer (rw e at resolution-kept),
      λ (h, e). beyond h (answer v S n) (λ m. end_step m S n v e),
    )

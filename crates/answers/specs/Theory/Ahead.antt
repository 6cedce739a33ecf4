-- Needs first: before a question is evaluated, all that its skeleton asks is worked out, with no test between. So a test of its rule comes
-- later than in the order of `worked`, and questions begin that it would have kept from beginning. Where anything refuses, the questions
-- that are being worked out are run against the trail so far, and the refusal of the oldest that refuses is taken; else the first stands.
-- This comes to what `worked` comes to: the same answer, trail and count, and the same refusal.
use Rattle.std.specs.Prelude.{◌≡◌, refl, ℕ, zero, suc, ◌≤◌, ◌<◌, Bool, true, false, cond, List, [], ◌∷◌, ◌⊎◌}
use Rattle.std.proofs.Common.{ap, ◌∙◌, inl, inr, arith}
use Rattle.std.proofs.Math.Option.{Option, none, some}
use Rattle.answers.specs.Ask.{Ask, done, refused, need, Out, value, missing, run, Trail, lookup, mem}
use Rattle.answers.specs.Resolve.{Rules, Res, answer, refused, dry, after, walk, enter, bar, lay, worked, resolve}
use Rattle.answers.specs.Theory.Holds.{Handler, Holds, answers, refuses, dries, Wet, after_holds, after_cong, enter-holds}
use Rattle.answers.specs.Theory.Sound.{clash, Within, lookup-new, lookup-other, lookup-keeps, mem-new, mem-more, run-inv, bar-none}
use Rattle.answers.specs.Theory.Fuel.{free-le, idle, idle-drop, Below, Closed}
use Rattle.answers.specs.Theory.Covers.{ends, over, asks, Skeleton, Covers, Leads, stop, past, next}

-- ---- a refusal with the trail at which it came

abbrev pub Late : Type 0 → Type 0 → Type 0
Late F R = F × Trail R

-- the trail left out
abbrev pub plain : {F R A : Type 0} → Res (Late F R) R A → Res F R A
plain (answer a S n) = answer a S n
plain (refused y) = refused y.0
plain dry = dry

abbrev pub late : {F R : Type 0} → Trail R → Option F → Option (Late F R)
late S none = none
late S (some x) = some (x, S)

-- a walk whose refusals say where they came
abbrev pub walk_late : {F R A : Type 0} → Handler (Late F R) R → Trail R → ℕ → Ask F R A → Res (Late F R) R A
walk_late h S n (done a) = answer a S n
walk_late h S n (refused x) = refused (x, S)
walk_late h S n (need q f) = after (h q S n) (λ r S' n'. walk_late h S' n' (f r))

-- ---- the order

-- the refusal of a run, or else y
abbrev pub prior : {F A : Type 0} → Out F A → F → F
prior (value a) y = y
prior (refused x) y = x
prior (missing q) y = y

-- where t's work refuses: t's own refusal, if it has one by then
abbrev pub revise : {F R A B : Type 0} → Ask F R A → Res (Late F R) R B → Res (Late F R) R B
revise t (answer b S n) = answer b S n
revise t (refused y) = refused (prior (run (lookup y.1) t) y.0, y.1)
revise t dry = dry

-- the skeleton s, then t
abbrev pub walk_ahead : {F R A : Type 0} → Handler (Late F R) R → Trail R → ℕ → Skeleton F R → Ask F R A → Res (Late F R) R A
walk_ahead h S n s t = revise t (after (walk_late h S n s) (λ _ S' n'. walk_late h S' n' t))

module _ {F R : Type 0} (ρ : Rules F R) where
  abbrev pub lay_late : ℕ → Res (Late F R) R R → Res (Late F R) R R
  lay_late q (answer r S n) = cond (ρ.fits ((q, r) ∷ S)) (answer r ((q, r) ∷ S) n) (refused (ρ.full, S))
  lay_late q (refused y) = refused y
  lay_late q dry = dry

  module _ (skel : ℕ → Skeleton F R) (budget : ℕ) where
    abbrev pub worked_ahead : ℕ → List ℕ → Handler (Late F R) R
    worked_ahead zero busy q S n = enter (lookup S q) (late S (bar ρ budget busy n q)) S n (λ m. dry)
    worked_ahead (suc k) busy q S n =
        enter (lookup S q) (late S (bar ρ budget busy n q)) S n
        (λ m. lay_late q (walk_ahead (worked_ahead k (q ∷ busy)) S m (skel q) (ρ.rule q)))

    -- the root is walked as it is, each need handed over
    abbrev pub resolve_ahead : {A : Type 0} → Ask F R A → ℕ → Res F R A
    resolve_ahead root N = walk (λ q S n. plain (worked_ahead N [] q S n)) [] 0 root

-- ---- what a stretch of work does to the trail, also one that refuses: nothing is lost, and what is being worked out stays out

pub record Grows {R : Type 0} (busy : List ℕ) (S S' : Trail R) : Type 0 where
  pub keeps : Within S S'
  pub spares : (q : ℕ) → mem q busy ≡ true → lookup S q ≡ none → lookup S' q ≡ none

module _ {R : Type 0} where
  grows-refl : (busy : List ℕ) (S : Trail R) → Grows busy S S
  grows-refl busy S = record { keeps = λ q r h. h; spares = λ q m h. h }

  grows-trans : {busy : List ℕ} {S₁ S₂ S₃ : Trail R} → Grows busy S₁ S₂ → Grows busy S₂ S₃ → Grows busy S₁ S₃
  grows-trans a b = record { keeps = λ q r h. b.keeps q r (a.keeps q r h); spares = λ q m h. b.spares q m (a.spares q m h) }

  grows-less : {busy : List ℕ} {S S' : Trail R} (q : ℕ) → Grows (q ∷ busy) S S' → Grows busy S S'
  grows-less {busy} q g = record { keeps = g.keeps; spares = λ j m h. g.spares j (mem-more q busy j m) h }

  grows-lay : {busy : List ℕ} {S S' : Trail R} (q : ℕ) (r : R) → mem q busy ≡ false → lookup S q ≡ none → Grows (q ∷ busy) S S'
      → Grows busy S ((q, r) ∷ S')
  grows-lay {busy} {S} {S'} q r out new g =
      let still-new : lookup S' q ≡ none = g.spares q (mem-new q busy) new in
      record {
        keeps = λ j x h. lookup-keeps (q, r) S' still-new j x (g.keeps j x h);
        spares = λ j m h. lookup-other (q, r) S' j (λ z. clash (cc)) ∙ g.spares j (mem-more q busy j m) h;
      }

-- an answer's trail, or a refusal's, has grown from S
abbrev pub Grown : {F R A : Type 0} → List ℕ → Trail R → Res (Late F R) R A → Type 0
Grown busy S m = Holds (λ y. Grows busy S y.1) (Unit {0}) (λ a S' n'. Grows busy S S') m

-- a need's answer is in the trail that it leaves; A NEED THAT IS REFUSED HAS NO ANSWER IN THE TRAIL AT WHICH THE REFUSAL CAME
abbrev pub Told : {F R : Type 0} → List ℕ → Trail R → ℕ → Res (Late F R) R R → Type 0
Told busy S q m = Holds (λ y. Grows busy S y.1 × (lookup y.1 q ≡ none)) (Unit {0}) (λ r S' n'. Grows busy S S' × (lookup S' q ≡ some r)) m

-- a handler of needs does so, and what is known it answers at once
pub record Tells {F R : Type 0} (busy : List ℕ) (h : Handler (Late F R) R) : Type 0 where
  pub told : (q : ℕ) (S : Trail R) (n : ℕ) → Told busy S q (h q S n)
  pub known : (q : ℕ) (S : Trail R) (n : ℕ) (r : R) → lookup S q ≡ some r → h q S n ≡ answer r S n

grown-from : {F R A : Type 0} {busy : List ℕ} {S S₁ : Trail R} {m : Res (Late F R) R A} → Grows busy S S₁ → Grown busy S₁ m → Grown busy S m
grown-from g (answers h) = answers (grows-trans g h)
grown-from g (refuses h) = refuses (grows-trans g h)
grown-from g (dries h) = dries h

grown-after : {F R A B : Type 0} {busy : List ℕ} {S : Trail R} {m : Res (Late F R) R A} {k : A → Trail R → ℕ → Res (Late F R) R B}
    → Grown busy S m → ((a : A) (S' : Trail R) (n' : ℕ) → Grown busy S' (k a S' n')) → Grown busy S (after m k)
grown-after (answers h) f = grown-from h (f _ _ _)
grown-after (refuses h) f = refuses h
grown-after (dries h) f = dries h

told_grown : {F R : Type 0} {busy : List ℕ} {S : Trail R} {q : ℕ} {m : Res (Late F R) R R} → Told busy S q m → Grown busy S m
told_grown (answers h) = answers h.0
told_grown (refuses h) = refuses h.0
told_grown (dries h) = dries h

revise-grown : {F R A B : Type 0} {busy : List ℕ} {S : Trail R} {m : Res (Late F R) R B} (t : Ask F R A) → Grown busy S m → Grown busy S (revise t m)
revise-grown t (answers h) = answers h
revise-grown t (refuses h) = refuses h
revise-grown t (dries h) = dries h

-- where q's answer is in the trail, a need of q before t is not seen
revise-past : {F R A B : Type 0} {busy : List ℕ} {S : Trail R} {m : Res (Late F R) R B} (q : ℕ) (f : R → Ask F R A) (r : R)
    → lookup S q ≡ some r → Grown busy S m → revise (need q f) m ≡ revise (f r) m
revise-past q f r e (answers h) = refl
revise-past q f r e (refuses h) = rw (h.keeps q r e)
revise-past q f r e (dries h) = refl

module _ {F R : Type 0} {busy : List ℕ} (h : Handler (Late F R) R) (H : Tells busy h) where
  pub walk-grown : {A : Type 0} (s : Ask F R A) (S : Trail R) (n : ℕ) → Grown busy S (walk_late h S n s)
  walk-grown (done a) S n = answers (grows-refl busy S)
  walk-grown (refused x) S n = refuses (grows-refl busy S)
  walk-grown (need q f) S n = grown-after (told_grown (H.told q S n)) (λ r S' n'. walk-grown (f r) S' n')

  both-grown : {A : Type 0} (s : Skeleton F R) (t : Ask F R A) (S : Trail R) (n : ℕ)
      → Grown busy S (after (walk_late h S n s) (λ _ S' n'. walk_late h S' n' t))
  both-grown s t S n = grown-after (walk-grown s S n) (λ _ S' n'. walk-grown t S' n')

  ahead_past : {A : Type 0} (q : ℕ) (f : R → Ask F R A) (r : R) (s : Skeleton F R) (S : Trail R) (n : ℕ) → lookup S q ≡ some r
      → walk_ahead h S n s (need q f) ≡ walk_ahead h S n s (f r)
  ahead_past {A} q f r s S n e =
      ap (λ (m : Res (Late F R) R A). revise (need q f) m)
      (after_cong (walk-grown s S n) (λ _ S' n' g. rw (H.known q S' n' r (g.keeps q r e))))
      ∙ revise-past q f r e (both-grown s (f r) S n)

-- ---- the two orders

-- the second comes to the first, or it is out of fuel
abbrev pub Same : {F R A : Type 0} → Res F R A → Res (Late F R) R A → Type 0
Same m m' = (plain m' ≡ m) ⊎ (m' ≡ dry)

module _ {F R : Type 0} {busy : List ℕ} (N : ℕ) (h : Handler F R) (h' : Handler (Late F R) R) (H : Tells busy h')
    (same : (q : ℕ) (S : Trail R) (n : ℕ) → q < N → Same (h q S n) (h' q S n)) where
  -- with no skeleton
  exact_same : {A : Type 0} (t : Ask F R A) → Below N t → (S : Trail R) (n : ℕ) → Same (walk h S n t) (revise t (walk_late h' S n t))
  exact_same (done a) w S n = inl refl
  exact_same (refused x) w S n = inl refl
  exact_same {A} (need q g) w S n = go (same q S n w.0) (H.told q S n) (λ r S' n'. exact_same (g r) (w.1 r) S' n')
    where
      go : {m : Res F R R} {m' : Res (Late F R) R R} → Same m m' → Told busy S q m'
          → ((r : R) (S' : Trail R) (n' : ℕ) → Same (walk h S' n' (g r)) (revise (g r) (walk_late h' S' n' (g r))))
          → Same (after m (λ r S' n'. walk h S' n' (g r))) (revise (need q g) (after m' (λ r S' n'. walk_late h' S' n' (g r))))
      go (inl e) (answers {a = r} {S = S'} {n = n'} a) ih =
          rw (← e, revise-past q g r a.1 (walk-grown h' H (g r) S' n')) (ih r S' n')
      go (inl e) (refuses a) ih = rw (← e, a.1) (inl refl)
      go (inl e) (dries d) ih = inr refl
      go (inr e) b ih = rw e (inr refl)

  pub walk_same : {A : Type 0} {s : Skeleton F R} {t : Ask F R A} → Leads s t → Below N s → Below N t → (S : Trail R) (n : ℕ)
      → Same (walk h S n t) (walk_ahead h' S n s t)
  walk_same (stop {t = t}) v w S n = exact_same t w S n
  walk_same {A} (past {s = s} {x = x}) v w S n = go (walk_late h' S n s)
    where
      go : (m : Res (Late F R) R (Unit {0})) → Same {A = A} (refused x) (revise {A = A} (refused x) (after m (λ _ S' n'. walk_late h' S' n' (refused x))))
      go (answer u S' n') = inl refl
      go (refused y) = inl refl
      go dry = inr refl
  walk_same (next {q = q} {f = f} {g = g} c) v w S n = go (same q S n v.0) (H.told q S n) (λ r S' n'. walk_same (c r) (v.1 r) (w.1 r) S' n')
    where
      go : {m : Res F R R} {m' : Res (Late F R) R R} → Same m m' → Told busy S q m'
          → ((r : R) (S' : Trail R) (n' : ℕ) → Same (walk h S' n' (g r)) (walk_ahead h' S' n' (f r) (g r)))
          → Same (after m (λ r S' n'. walk h S' n' (g r)))
          (revise (need q g) (after (after m' (λ r S' n'. walk_late h' S' n' (f r))) (λ _ S' n'. walk_late h' S' n' (need q g))))
      go (inl e) (answers {a = r} {S = S'} {n = n'} a) ih = rw (← e, ahead_past h' H q g r (f r) S' n' a.1) (ih r S' n')
      go (inl e) (refuses a) ih = rw (← e, a.1) (inl refl)
      go (inl e) (dries d) ih = inr refl
      go (inr e) b ih = rw e (inr refl)

late-some : {F R : Type 0} (S : Trail R) (x : Option F) {y : Late F R} → late S x ≡ some y → y.1 ≡ S
late-some S none e = clash (cc)
late-some S (some x) e = cc

pub late-none : {F R : Type 0} (S : Trail R) (x : Option F) → late S x ≡ none → x ≡ none
late-none S none e = refl
late-none S (some x) e = clash (cc)

module _ {F R : Type 0} (ρ : Rules F R) where
  lay-told : {busy : List ℕ} {S : Trail R} {m : Res (Late F R) R R} (q : ℕ) → mem q busy ≡ false → lookup S q ≡ none → Grown (q ∷ busy) S m
      → Told busy S q (lay_late ρ q m)
  lay-told {busy} {S} q out new (answers {a = r} {S = S'} {n = n'} g) = go (ρ.fits ((q, r) ∷ S'))
    where
      go : (t : Bool) → Told {F = F} busy S q (cond t (answer r ((q, r) ∷ S') n') (refused (ρ.full, S')))
      go true = answers (grows-lay q r out new g, lookup-new (q, r) S')
      go false = refuses (grows-less q g, g.spares q (mem-new q busy) new)
  lay-told {busy} q out new (refuses g) = refuses (grows-less q g, g.spares q (mem-new q busy) new)
  lay-told q out new (dries d) = dries d

  lay-same : (q : ℕ) (m : Res F R R) (m' : Res (Late F R) R R) → Same m m' → Same (lay ρ q m) (lay_late ρ q m')
  lay-same q m (answer r S n) (inl e) = rw (← e) (go (ρ.fits ((q, r) ∷ S)))
    where
      go : (t : Bool) → Same (cond t (answer r ((q, r) ∷ S) n) (refused ρ.full)) (cond t (answer r ((q, r) ∷ S) n) (refused (ρ.full, S)))
      go true = inl refl
      go false = inl refl
  lay-same q m (refused y) (inl e) = rw (← e) (inl refl)
  lay-same q m dry (inl e) = inr refl
  lay-same q m m' (inr e) = rw e (inr refl)

  lay-wet : (q : ℕ) {m : Res (Late F R) R R} → Wet m → Wet (lay_late ρ q m)
  lay-wet q (answers {a = r} {S = S} {n = n} w) = go (ρ.fits ((q, r) ∷ S))
    where
      go : (t : Bool) → Wet {F = Late F R} (cond t (answer r ((q, r) ∷ S) n) (refused (ρ.full, S)))
      go true = answers tt
      go false = refuses tt
  lay-wet q (refuses w) = refuses tt
  lay-wet q (dries w) = absurd w

  -- what becomes of a need, where the two go on alike once it begins
  enter-same : (o : Option R) (x : Option F) (S : Trail R) (n : ℕ) (go : ℕ → Res F R R) (go' : ℕ → Res (Late F R) R R)
      → Same (go (suc n)) (go' (suc n)) → Same (enter o x S n go) (enter o (late S x) S n go')
  enter-same (some r) x S n go go' h = inl refl
  enter-same none (some x) S n go go' h = inl refl
  enter-same none none S n go go' h = h

  module _ (skel : ℕ → Skeleton F R) (budget : ℕ) where
    ahead-known : (k : ℕ) (busy : List ℕ) (q : ℕ) (S : Trail R) (n : ℕ) (r : R) → lookup S q ≡ some r
        → worked_ahead ρ skel budget k busy q S n ≡ answer r S n
    ahead-known zero busy q S n r e = rw e
    ahead-known (suc k) busy q S n r e = rw e

    pub ahead-tells : (k : ℕ) (busy : List ℕ) → Tells busy (worked_ahead ρ skel budget k busy)
    ahead-tells zero busy = record {
      told = λ q S n.
          enter-holds S n _ (lookup S q) (late S (bar ρ budget busy n q)) (λ r e. (grows-refl busy S, e))
          (λ y new e. rw (late-some S (bar ρ budget busy n q) e) (grows-refl busy S, new)) (λ new e. dries tt);
      known = ahead-known zero busy;
    }
    ahead-tells (suc k) busy = record {
      told = λ q S n.
          enter-holds S n _ (lookup S q) (late S (bar ρ budget busy n q)) (λ r e. (grows-refl busy S, e))
          (λ y new e. rw (late-some S (bar ρ budget busy n q) e) (grows-refl busy S, new))
          (λ new e.
          let h = worked_ahead ρ skel budget k (q ∷ busy) in
          lay-told q (bar-none ρ budget busy n q (late-none S (bar ρ budget busy n q) e)).0 new
          (revise-grown (ρ.rule q) (both-grown h (ahead-tells k (q ∷ busy)) (skel q) (ρ.rule q) S (suc n))));
      known = ahead-known (suc k) busy;
    }

-- ---- the theorem

walk-wet : {F R A : Type 0} (N : ℕ) (h : Handler (Late F R) R) → ((q : ℕ) (S : Trail R) (n : ℕ) → q < N → Wet (h q S n))
    → (s : Ask F R A) → Below N s → (S : Trail R) (n : ℕ) → Wet (walk_late h S n s)
walk-wet N h H (done a) w S n = answers tt
walk-wet N h H (refused x) w S n = refuses tt
walk-wet N h H (need q f) w S n = after_holds (H q S n w.0) (λ r S' n' _. walk-wet N h H (f r) (w.1 r) S' n')

revise-wet : {F R A B : Type 0} {m : Res (Late F R) R B} (t : Ask F R A) → Wet m → Wet (revise t m)
revise-wet t (answers w) = answers tt
revise-wet t (refuses w) = refuses tt
revise-wet t (dries w) = absurd w

same-wet : {F R A : Type 0} (m : Res F R A) {m' : Res (Late F R) R A} → Same m m' → Wet m' → plain m' ≡ m
same-wet m (inl e) w = e
same-wet m (inr e) (answers w) = clash (cc)
same-wet m (inr e) (refuses w) = clash (cc)
same-wet m (inr e) (dries w) = absurd w

walk-cong : {F R A : Type 0} (N : ℕ) (h h' : Handler F R) → ((q : ℕ) (S : Trail R) (n : ℕ) → q < N → h' q S n ≡ h q S n)
    → (t : Ask F R A) → Below N t → (S : Trail R) (n : ℕ) → walk h' S n t ≡ walk h S n t
walk-cong N h h' H (done a) w S n = refl
walk-cong N h h' H (refused x) w S n = refl
walk-cong {F} {R} {A} N h h' H (need q f) w S n = rw (H q S n w.0) (go (h q S n) (λ r S' n'. walk-cong N h h' H (f r) (w.1 r) S' n'))
  where
    go : (m : Res F R R) → ((r : R) (S' : Trail R) (n' : ℕ) → walk h' S' n' (f r) ≡ walk h S' n' (f r))
        → after m (λ r S' n'. walk h' S' n' (f r)) ≡ after m (λ r S' n'. walk h S' n' (f r))
    go (answer r S' n') ih = ih r S' n'
    go (refused x) ih = refl
    go dry ih = refl

-- The skeletons of the questions below N lead their rules, and need, as the rules do, questions below N alone.
pub record Led {F R : Type 0} (ρ : Rules F R) (skel : ℕ → Skeleton F R) (N : ℕ) : Type 0 where
  pub leads : (q : ℕ) → q < N → Leads (skel q) (ρ.rule q)
  pub below : (q : ℕ) → q < N → Below N (skel q)
  pub closed : Closed ρ N

module _ {F R : Type 0} (ρ : Rules F R) (skel : ℕ → Skeleton F R) (budget N : ℕ) (led : Led ρ skel N) where
  -- with any fuel: the same, or the order of needs first is out of fuel
  pub worked_same : (k : ℕ) (busy : List ℕ) (q : ℕ) (S : Trail R) (n : ℕ) → q < N
      → Same (worked ρ budget k busy q S n) (worked_ahead ρ skel budget k busy q S n)
  worked_same zero busy q S n l = enter-same ρ (lookup S q) (bar ρ budget busy n q) S n _ _ (inr refl)
  worked_same (suc k) busy q S n l =
      let h = worked ρ budget k (q ∷ busy) in
      let h' = worked_ahead ρ skel budget k (q ∷ busy) in
      enter-same ρ (lookup S q) (bar ρ budget busy n q) S n _ _
      (lay-same ρ q _ _ (walk_same N h h' (ahead-tells ρ skel budget k (q ∷ busy)) (worked_same k (q ∷ busy))
      (led.leads q l) (led.below q l) (led.closed q l) S (suc n)))

  ahead-walk-wet : {A : Type 0} (h : Handler (Late F R) R) → ((q : ℕ) (S : Trail R) (n : ℕ) → q < N → Wet (h q S n))
      → (s : Skeleton F R) → Below N s → (t : Ask F R A) → Below N t → (S : Trail R) (n : ℕ) → Wet (walk_ahead h S n s t)
  ahead-walk-wet h H s v t w S n = revise-wet t (after_holds (walk-wet N h H s v S n) (λ _ S' n' _. walk-wet N h H t w S' n'))

  pub ahead-wet : (k : ℕ) (busy : List ℕ) → idle N busy ≤ k → (q : ℕ) (S : Trail R) (n : ℕ) → q < N
      → Wet (worked_ahead ρ skel budget k busy q S n)
  ahead-wet zero busy i q S n l =
      enter-holds S n _ (lookup S q) (late S (bar ρ budget busy n q)) (λ r e. tt) (λ y new e. tt)
      (λ new e. absurd (omega (arith, idle-drop N busy q (bar-none ρ budget busy n q (late-none S (bar ρ budget busy n q) e)).0 l)))
  ahead-wet (suc k) busy i q S n l =
      enter-holds S n _ (lookup S q) (late S (bar ρ budget busy n q)) (λ r e. tt) (λ y new e. tt)
      (λ new e.
      let h = worked_ahead ρ skel budget k (q ∷ busy) in
      let out : mem q busy ≡ false = (bar-none ρ budget busy n q (late-none S (bar ρ budget busy n q) e)).0 in
      let deeper = ahead-wet k (q ∷ busy) (omega (arith, idle-drop N busy q out l)) in
      lay-wet ρ q (ahead-walk-wet h deeper (skel q) (led.below q l) (ρ.rule q) (led.closed q l) S (suc n)))

  -- with fuel enough: the same answer, trail and count, or the same refusal
  pub worked-ahead : (k : ℕ) (busy : List ℕ) → idle N busy ≤ k → (q : ℕ) (S : Trail R) (n : ℕ) → q < N
      → plain (worked_ahead ρ skel budget k busy q S n) ≡ worked ρ budget k busy q S n
  worked-ahead k busy i q S n l = same-wet (worked ρ budget k busy q S n) (worked_same k busy q S n l) (ahead-wet k busy i q S n l)

  module _ {A : Type 0} (root : Ask F R A) (root_below : Below N root) where
    pub resolve-ahead : resolve_ahead ρ skel budget root N ≡ resolve ρ budget root N
    resolve-ahead =
        walk-cong N (worked ρ budget N []) (λ q S n. plain (worked_ahead ρ skel budget N [] q S n))
        (worked-ahead N [] (free-le (λ q. mem q []) N)) root root_below [] 0

-- ---- where the skeleton covers: when it misses nothing, neither does the rule. So each question that is answered is run once.

abbrev pub Found : {F R A : Type 0} → Trail R → Ask F R A → Type 0
Found S t = (q : ℕ) → run (lookup S) t ≡ missing q → ⊥

found-done : {F R A : Type 0} (S : Trail R) (a : A) → Found {F = F} S (done a)
found-done S a q e = clash (cc)

found-refused : {F R A : Type 0} (S : Trail R) (x : F) → Found {A = A} S (refused x)
found-refused S x q e = clash (cc)

pub covered-found : {F R A : Type 0} {s : Skeleton F R} {t : Ask F R A} (S : Trail R) → Covers s t → (u : Unit {0}) → run (lookup S) s ≡ value u
    → Found S t
covered-found S (ends {a = a} p) u e = found-done S a
covered-found S (over {x = x}) u e = found-refused S x
covered-found S (asks {q = q} {f = f} {g = g} c) u e =
    let (r, k, h) = run-inv (lookup S) q f e in
    λ j z. covered-found S (c r) u h j (rw k at z)

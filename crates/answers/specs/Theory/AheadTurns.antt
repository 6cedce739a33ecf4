-- Needs first, by turns, as code does it. The questions that have begun are a list, the newest first, each with the pieces of its skeleton
-- from which it goes on. A turn looks for what the newest misses: in those pieces, then in a run of its rule. What is missing begins; where
-- nothing is, the answer is laid. Where anything refuses, those of the list are run, the oldest first. What is still to be done is
-- `remaining`; each turn leaves it as it is.
use Rattle.std.specs.Prelude.{◌≡◌, refl, ℕ, zero, suc, pred, ◌+◌, ◌*◌, ◌≤◌, ◌<◌, Bool, true, false, cond, List, [], ◌∷◌, ◌++◌, length}
use Rattle.std.proofs.Common.{sym, ap, ◌∙◌, arith}
use Rattle.std.proofs.Math.Option.{Option, none, some}
use Rattle.answers.specs.Ask.{Ask, done, refused, need, bind, Out, value, missing, or_missing, run, Trail, lookup, mem}
use Rattle.answers.specs.Resolve.{Rules, Res, answer, refused, dry, after, bar, worked}
use Rattle.answers.specs.Theory.Holds.{Handler, after_cong}
use Rattle.answers.specs.Theory.Sound.{clash, bar-none}
use Rattle.answers.specs.Theory.Fuel.{free-le, idle, idle-drop, begun, left, left-begin, left-lay, Below, Closed}
use Rattle.answers.specs.Theory.Machine.{run-missing}
use Rattle.answers.specs.Theory.Bind.{below-bind}
use Rattle.answers.specs.Theory.Covers.{Skeleton, quiet, heard, run-quiet, Leads, skeleton_of}
use Rattle.answers.specs.Theory.Ahead.{Late, plain, walk_late, prior, revise, lay_late, worked_ahead, Tells, ahead-tells, Led, worked-ahead}

-- ---- what a question comes to next, against the answers that are known

pub data Fate (F R : Type 0) : Type 0 where
  answered : R → Fate F R
  fails : F → Fate F R
  -- a question is missing; the pieces from which to go on
  awaits : ℕ → List (Skeleton F R) → Fate F R

abbrev pub fate_of : {F R : Type 0} → Out F R → Fate F R
fate_of (value r) = answered r
fate_of (refused x) = fails x
fate_of (missing q) = awaits q []

abbrev pub fate_by : {F R : Type 0} → List (Skeleton F R) → Out F (Unit {0}) → Fate F R → Fate F R
fate_by ss (value u) on = on
fate_by ss (refused x) on = fails x
fate_by ss (missing q) on = awaits q ss

-- the pieces, then the rule
abbrev pub fate : {F R : Type 0} → (ℕ → Option R) → List (Skeleton F R) → Ask F R R → Fate F R
fate known [] t = fate_of (run known t)
fate known (s ∷ ss) t = fate_by (s ∷ ss) (run known s) (fate known ss t)

-- ---- a walk, piece after piece

abbrev pub walk_pieces : {F R : Type 0} → Handler (Late F R) R → Trail R → ℕ → List (Skeleton F R) → Ask F R R → Res (Late F R) R R
walk_pieces h S n [] t = walk_late h S n t
walk_pieces h S n (s ∷ ss) t = after (walk_late h S n s) (λ _ S' n'. walk_pieces h S' n' ss t)

module _ {F R A B C : Type 0} where
  after-after : (m : Res F R A) (k : A → Trail R → ℕ → Res F R B) (l : B → Trail R → ℕ → Res F R C)
      → after (after m k) l ≡ after m (λ a S n. after (k a S n) l)
  after-after (answer a S n) k l = refl
  after-after (refused x) k l = refl
  after-after dry k l = refl

after-each : {F R A B : Type 0} (m : Res F R A) (k l : A → Trail R → ℕ → Res F R B) → ((a : A) (S : Trail R) (n : ℕ) → k a S n ≡ l a S n)
    → after m k ≡ after m l
after-each (answer a S n) k l h = h a S n
after-each (refused x) k l h = refl
after-each dry k l h = refl

module _ {F R : Type 0} (h : Handler (Late F R) R) where
  walk-bind : {A B : Type 0} (s : Ask F R A) (k : A → Ask F R B) (S : Trail R) (n : ℕ)
      → walk_late h S n (bind s k) ≡ after (walk_late h S n s) (λ a S' n'. walk_late h S' n' (k a))
  walk-bind (done a) k S n = refl
  walk-bind (refused x) k S n = refl
  walk-bind (need q f) k S n =
      after-each (h q S n) _ _ (λ r S' n'. walk-bind (f r) k S' n')
      ∙ sym (after-after (h q S n) (λ r S' n'. walk_late h S' n' (f r)) (λ a S' n'. walk_late h S' n' (k a)))

  pieces_are : (ss : List (Skeleton F R)) (t : Ask F R R) (S : Trail R) (n : ℕ)
      → after (walk_late h S n (skeleton_of ss)) (λ _ S' n'. walk_late h S' n' t) ≡ walk_pieces h S n ss t
  pieces_are [] t S n = refl
  pieces_are (s ∷ ss) t S n =
      ap (λ (m : Res (Late F R) R (Unit {0})). after m (λ _ S' n'. walk_late h S' n' t)) (walk-bind s (λ _. skeleton_of ss) S n)
      ∙ after-after (walk_late h S n s) (λ _ S' n'. walk_late h S' n' (skeleton_of ss)) (λ _ S' n'. walk_late h S' n' t)
      ∙ after-each (walk_late h S n s) _ _ (λ _ S' n'. pieces_are ss t S' n')

-- ---- a walk is a run against the trail and, where a question is missing, that question and the same walk again

abbrev again : {F R A : Type 0} → Handler (Late F R) R → Trail R → ℕ → Ask F R A → Out F A → Res (Late F R) R A
again h S n t (value a) = answer a S n
again h S n t (refused x) = refused (x, S)
again h S n t (missing q) = after (h q S n) (λ _ S' n'. walk_late h S' n' t)

-- what comes of a fate
abbrev met : {F R : Type 0} → Handler (Late F R) R → Trail R → ℕ → Ask F R R → Fate F R → Res (Late F R) R R
met h S n t (answered r) = answer r S n
met h S n t (fails x) = refused (x, S)
met h S n t (awaits q ss) = after (h q S n) (λ _ S' n'. walk_pieces h S' n' ss t)

module _ {F R : Type 0} {busy : List ℕ} (h : Handler (Late F R) R) (H : Tells busy h) where
  walk-again : {A : Type 0} (t : Ask F R A) (S : Trail R) (n : ℕ) → walk_late h S n t ≡ again h S n t (run (lookup S) t)
  walk-again (done a) S n = refl
  walk-again (refused x) S n = refl
  walk-again {A} (need q f) S n = go (lookup S q) refl (λ r. walk-again (f r) S n)
    where
      same : (r : R) (S' : Trail R) (n' : ℕ) → lookup S' q ≡ some r → walk_late h S' n' (f r) ≡ walk_late h S' n' (need q f)
      same r S' n' e = rw (H.known q S' n' r e)

      on : (r : R) → lookup S q ≡ some r → (o : Out F A) → again h S n (f r) o ≡ again h S n (need q f) o
      on r e (value a) = refl
      on r e (refused x) = refl
      on r e (missing j) = after_cong (H.told j S n) (λ _ S' n' a. same r S' n' (a.0.keeps q r e))

      go : (o : Option R) → lookup S q ≡ o → ((r : R) → walk_late h S n (f r) ≡ again h S n (f r) (run (lookup S) (f r)))
          → walk_late h S n (need q f) ≡ again h S n (need q f) (or_missing q (λ r. run (lookup S) (f r)) o)
      go none e ih = after_cong (H.told q S n) (λ r S' n' a. same r S' n' a.1)
      go (some r) e ih = sym (same r S n e) ∙ ih r ∙ on r e (run (lookup S) (f r))

  pieces-met : (ss : List (Skeleton F R)) (t : Ask F R R) (S : Trail R) (n : ℕ) → walk_pieces h S n ss t ≡ met h S n t (fate (lookup S) ss t)
  pieces-met [] t S n = walk-again t S n ∙ go (run (lookup S) t)
    where
      go : (o : Out F R) → again h S n t o ≡ met h S n t (fate_of o)
      go (value r) = refl
      go (refused x) = refl
      go (missing q) = refl
  pieces-met (s ∷ ss) t S n =
      ap (λ (m : Res (Late F R) R (Unit {0})). after m (λ _ S' n'. walk_pieces h S' n' ss t)) (walk-again s S n)
      ∙ go (run (lookup S) s) (pieces-met ss t S n)
    where
      go : (o : Out F (Unit {0})) → walk_pieces h S n ss t ≡ met h S n t (fate (lookup S) ss t)
          → after (again h S n s o) (λ _ S' n'. walk_pieces h S' n' ss t) ≡ met h S n t (fate_by (s ∷ ss) o (fate (lookup S) ss t))
      go (value u) e = e
      go (refused x) e = refl
      go (missing q) e = after-after (h q S n) (λ _ S' n'. walk_late h S' n' s) (λ _ S' n'. walk_pieces h S' n' ss t)

-- what is awaited is not in the trail, and below N
abbrev pub AllBelow : {F R : Type 0} → ℕ → List (Skeleton F R) → Type 0
AllBelow N [] = Unit {0}
AllBelow N (s ∷ ss) = Below N s × AllBelow N ss

abbrev pub Awaited : {F R : Type 0} → ℕ → Trail R → Fate F R → Type 0
Awaited N S (answered r) = Unit {0}
Awaited N S (fails x) = Unit {0}
Awaited N S (awaits q ss) = (lookup S q ≡ none) × (q < N) × AllBelow N ss

pub fate-awaits : {F R : Type 0} (N : ℕ) (S : Trail R) (ss : List (Skeleton F R)) (t : Ask F R R) → AllBelow N ss → Below N t
    → Awaited N S (fate (lookup S) ss t)
fate-awaits {F} {R} N S [] t v w = go (run (lookup S) t) refl
  where
    go : (o : Out F R) → run (lookup S) t ≡ o → Awaited N S (fate_of o)
    go (value r) e = tt
    go (refused x) e = tt
    go (missing q) e = let (new, l) = run-missing N S t w q e in (new, l, tt)
fate-awaits {F} {R} N S (s ∷ ss) t v w = go (run (lookup S) s) refl (fate-awaits N S ss t v.1 w)
  where
    go : (o : Out F (Unit {0})) → run (lookup S) s ≡ o → Awaited N S (fate (lookup S) ss t) → Awaited N S (fate_by (s ∷ ss) o (fate (lookup S) ss t))
    go (value u) e ih = ih
    go (refused x) e ih = tt
    go (missing q) e ih = let (new, l) = run-missing N S s v.0 q e in (new, l, v)

-- A piece whose skeleton is quiet: the newest awaits what the piece misses; whatever else the piece comes to, the next piece is looked at.
module _ {F R A : Type 0} (known : ℕ → Option R) (t : Ask F R A) (ss : List (Skeleton F R)) (rule : Ask F R R) where
  piece-fate : fate known (quiet t ∷ ss) rule ≡ fate_by (quiet t ∷ ss) (heard (run known t)) (fate known ss rule)
  piece-fate = ap (λ (o : Out F (Unit {0})). fate_by (quiet t ∷ ss) o (fate known ss rule)) (run-quiet known t)

  pub piece-misses : (q : ℕ) → run known t ≡ missing q → fate known (quiet t ∷ ss) rule ≡ awaits q (quiet t ∷ ss)
  piece-misses q e = piece-fate ∙ rw e

  pub piece-valued : (a : A) → run known t ≡ value a → fate known (quiet t ∷ ss) rule ≡ fate known ss rule
  piece-valued a e = piece-fate ∙ rw e

  pub piece-refuses : (x : F) → run known t ≡ refused x → fate known (quiet t ∷ ss) rule ≡ fate known ss rule
  piece-refuses x e = piece-fate ∙ rw e

-- an answer is what the rule gives: its run does not refuse, so it makes no difference whether the newest is run again where its answer
-- does not fit
pub fate-answered : {F R : Type 0} (known : ℕ → Option R) (ss : List (Skeleton F R)) (t : Ask F R R) (r : R) → fate known ss t ≡ answered r
    → run known t ≡ value r
fate-answered {F} {R} known [] t r e = go (run known t) e
  where
    go : (o : Out F R) → fate_of o ≡ answered r → o ≡ value r
    go (value a) z = cc
    go (refused x) z = clash (cc)
    go (missing q) z = clash (cc)
fate-answered {F} {R} known (s ∷ ss) t r e = go (run known s) e (fate-answered known ss t r)
  where
    go : (o : Out F (Unit {0})) → fate_by (s ∷ ss) o (fate known ss t) ≡ answered r → (fate known ss t ≡ answered r → run known t ≡ value r)
        → run known t ≡ value r
    go (value u) z ih = ih z
    go (refused x) z ih = clash (cc)
    go (missing q) z ih = clash (cc)

-- ---- the list of those that have begun, the newest first

abbrev pub Begun : Type 0 → Type 0 → Type 0
Begun F R = ℕ × List (Skeleton F R)

abbrev pub numbers : {F R : Type 0} → List (Begun F R) → List ℕ
numbers [] = []
numbers (b ∷ bs) = b.0 ∷ numbers bs

-- none stands twice, all are below N, and so is what their pieces need
abbrev pub Stacked : {F R : Type 0} → ℕ → List (Begun F R) → Type 0
Stacked N [] = Unit {0}
Stacked N (b ∷ bs) = (mem b.0 (numbers bs) ≡ false) × (b.0 < N) × AllBelow N b.1 × Stacked N bs

abbrev pub turns_left : {R : Type 0} → ℕ → List ℕ → Trail R → ℕ
turns_left N qs S = 2 * left N S qs + length qs

-- the fuel that the recursion has left there, and that it is enough
abbrev fuel : ℕ → List ℕ → ℕ
fuel N [] = N
fuel N (q ∷ qs) = pred (fuel N qs)

fuel-enough : {F R : Type 0} (N : ℕ) (bs : List (Begun F R)) → Stacked N bs → idle N (numbers bs) ≤ fuel N (numbers bs)
fuel-enough N [] s = free-le (λ q. mem q []) N
fuel-enough N (b ∷ bs) s = one_less (idle-drop N (numbers bs) b.0 s.0 s.1) (fuel-enough N bs s.3)
  where
    one_less : {i j k : ℕ} → i < j → j ≤ k → i ≤ pred k
    one_less a b = omega arith

-- the answer's value left out
abbrev pub ended : {F R A : Type 0} → Res F R A → Res F R (Unit {0})
ended (answer a S n) = answer tt S n
ended (refused x) = refused x
ended dry = dry

-- what goes on after a stretch, and what becomes of its refusal
abbrev pub onward : {F R A B : Type 0} → (Late F R → F) → Res (Late F R) R A → (A → Trail R → ℕ → Res (Late F R) R B) → Res (Late F R) R B
onward first (answer a S n) on = on a S n
onward first (refused y) on = refused (first y, y.1)
onward first dry on = dry

module _ {F R : Type 0} (ρ : Rules F R) where
  -- y at the trail S, or the refusal of the oldest of the list that refuses there
  abbrev pub first_of : List ℕ → Trail R → F → F
  first_of [] S y = y
  first_of (q ∷ qs) S y = first_of qs S (prior (run (lookup S) (ρ.rule q)) y)

  -- as code looks for it: from the oldest on, until one refuses
  abbrev pub scanned : List ℕ → Trail R → F → F
  scanned [] S y = y
  scanned (q ∷ qs) S y = prior (run (lookup S) (ρ.rule q)) (scanned qs S y)

  abbrev pub oldest_first : List ℕ → List ℕ
  oldest_first [] = []
  oldest_first (q ∷ qs) = oldest_first qs ++ (q ∷ [])

  scanned-last : (qs : List ℕ) (q : ℕ) (S : Trail R) (y : F) → scanned (qs ++ (q ∷ [])) S y ≡ scanned qs S (prior (run (lookup S) (ρ.rule q)) y)
  scanned-last [] q S y = refl
  scanned-last (j ∷ qs) q S y = ap (prior (run (lookup S) (ρ.rule j))) (scanned-last qs q S y)

  pub first-scanned : (qs : List ℕ) (S : Trail R) (y : F) → first_of qs S y ≡ scanned (oldest_first qs) S y
  first-scanned [] S y = refl
  first-scanned (q ∷ qs) S y =
      first-scanned qs S (prior (run (lookup S) (ρ.rule q)) y) ∙ sym (scanned-last (oldest_first qs) q S y)

  module _ (pieces : ℕ → List (Skeleton F R)) (budget N : ℕ) where
    abbrev pub skeleton : ℕ → Skeleton F R
    skeleton q = skeleton_of (pieces q)

    -- ---- the turns

    -- a refusal at the trail S while the questions qs are being worked out
    abbrev pub refusal : {A : Type 0} → List ℕ → Trail R → F → Res (Late F R) R A
    refusal qs S y = refused (first_of qs S y, S)

    -- a missing question is barred, or it begins as one more than n
    abbrev pub begin : {A : Type 0} → Option F → List ℕ → Trail R → ℕ → (ℕ → Res (Late F R) R A) → Res (Late F R) R A
    begin (some x) qs S n on = refusal qs S x
    begin none qs S n on = on (suc n)

    -- a turn of the newest, b, where what is left to do with another list is known
    abbrev pub turn : (List (Begun F R) → Trail R → ℕ → Res (Late F R) R (Unit {0})) → Begun F R → List (Begun F R) → Trail R → ℕ
        → Fate F R → Res (Late F R) R (Unit {0})
    turn on b bs S n (answered r) = cond (ρ.fits ((b.0, r) ∷ S)) (on bs ((b.0, r) ∷ S) n) (refusal (numbers bs) S ρ.full)
    turn on b bs S n (fails x) = refusal (b.0 ∷ numbers bs) S x
    turn on b bs S n (awaits q ss) =
        begin (bar ρ budget (b.0 ∷ numbers bs) n q) (b.0 ∷ numbers bs) S n (on ((q, pieces q) ∷ (b.0, ss) ∷ bs) S)

    abbrev pub turns : ℕ → List (Begun F R) → Trail R → ℕ → Res (Late F R) R (Unit {0})
    turns zero bs S n = dry
    turns (suc m) [] S n = answer tt S n
    turns (suc m) (b ∷ bs) S n = turn (λ cs S' n'. turns m cs S' n') b bs S n (fate (lookup S) b.1 (ρ.rule b.0))

    abbrev pub work_ahead : ℕ → Trail R → ℕ → Res (Late F R) R (Unit {0})
    work_ahead q S n = begin (bar ρ budget [] n q) [] S n (turns (2 * N) ((q, pieces q) ∷ []) S)

    -- ---- what is still to be done, by the recursion

    abbrev needed : List ℕ → Handler (Late F R) R
    needed qs = worked_ahead ρ skeleton budget (fuel N qs) qs

    abbrev pub remaining : List (Begun F R) → Trail R → ℕ → Res (Late F R) R (Unit {0})
    remaining [] S n = answer tt S n
    remaining (b ∷ bs) S n =
        onward (λ y. first_of (numbers bs) y.1 y.0)
        (lay_late ρ b.0 (revise (ρ.rule b.0) (walk_pieces (needed (b.0 ∷ numbers bs)) S n b.1 (ρ.rule b.0))))
        (λ _ S' n'. remaining bs S' n')

    module _ (below : (q : ℕ) → q < N → AllBelow N (pieces q)) (closed : Closed ρ N) where
      -- an awaited question is barred or begins
      remaining-begin : (bs : List (Begun F R)) → Stacked N bs → (S : Trail R) (n q : ℕ) → lookup S q ≡ none → q < N
          → onward (λ y. first_of (numbers bs) y.1 y.0) (needed (numbers bs) q S n) (λ _ S' n'. remaining bs S' n')
          ≡ begin (bar ρ budget (numbers bs) n q) (numbers bs) S n (remaining ((q, pieces q) ∷ bs) S)
      remaining-begin bs s S n q new l = go (bar ρ budget (numbers bs) n q) refl (fuel N (numbers bs)) refl
        where
          go : (x : Option F) → bar ρ budget (numbers bs) n q ≡ x → (k : ℕ) → fuel N (numbers bs) ≡ k
              → onward (λ y. first_of (numbers bs) y.1 y.0) (worked_ahead ρ skeleton budget k (numbers bs) q S n) (λ _ S' n'. remaining bs S' n')
              ≡ begin x (numbers bs) S n (remaining ((q, pieces q) ∷ bs) S)
          go (some x) e zero i = rw (new, e)
          go (some x) e (suc k) i = rw (new, e)
          go none e zero i = absurd (omega (arith, fuel-enough N bs s, idle-drop N (numbers bs) q (bar-none ρ budget (numbers bs) n q e).0 l))
          go none e (suc k) i =
              rw (new, e, i, pieces_are (worked_ahead ρ skeleton budget k (q ∷ numbers bs)) (pieces q) (ρ.rule q) S (suc n)) refl

      -- the newest awaits m, and goes on from the pieces ss
      onward-awaits : (b : ℕ) (bs : List (Begun F R)) (ss : List (Skeleton F R)) (m : Res (Late F R) R R)
          → onward (λ y. first_of (numbers bs) y.1 y.0)
          (lay_late ρ b (revise (ρ.rule b) (after m (λ _ S' n'. walk_pieces (needed (b ∷ numbers bs)) S' n' ss (ρ.rule b)))))
          (λ _ S' n'. remaining bs S' n')
          ≡ onward (λ y. first_of (b ∷ numbers bs) y.1 y.0) m (λ _ S' n'. remaining ((b, ss) ∷ bs) S' n')
      onward-awaits b bs ss (answer r S n) = refl
      onward-awaits b bs ss (refused y) = refl
      onward-awaits b bs ss dry = refl

      -- one turn: the newest is answered and laid, or refuses, or a question that it misses is barred or begins
      pub remaining-turn : (b : Begun F R) (bs : List (Begun F R)) → Stacked N (b ∷ bs) → (S : Trail R) (n : ℕ)
          → remaining (b ∷ bs) S n ≡ turn remaining b bs S n (fate (lookup S) b.1 (ρ.rule b.0))
      remaining-turn b bs s S n =
          let h = needed (b.0 ∷ numbers bs) in
          let H : Tells (b.0 ∷ numbers bs) h = ahead-tells ρ skeleton budget (fuel N (b.0 ∷ numbers bs)) (b.0 ∷ numbers bs) in
          ap (λ (m : Res (Late F R) R R). onward (λ y. first_of (numbers bs) y.1 y.0) (lay_late ρ b.0 (revise (ρ.rule b.0) m)) (λ _ S' n'. remaining bs S' n'))
          (pieces-met h H b.1 (ρ.rule b.0) S n)
          ∙ go (fate (lookup S) b.1 (ρ.rule b.0)) (fate-awaits N S b.1 (ρ.rule b.0) s.2 (closed b.0 s.1))
        where
          go : (f : Fate F R) → Awaited N S f
              → onward (λ y. first_of (numbers bs) y.1 y.0)
              (lay_late ρ b.0 (revise (ρ.rule b.0) (met (needed (b.0 ∷ numbers bs)) S n (ρ.rule b.0) f))) (λ _ S' n'. remaining bs S' n')
              ≡ turn remaining b bs S n f
          go (answered r) w = fit (ρ.fits ((b.0, r) ∷ S))
            where
              fit : (t : Bool)
                  → onward (λ (y : Late F R). first_of (numbers bs) y.1 y.0) (cond t (answer r ((b.0, r) ∷ S) n) (refused (ρ.full, S))) (λ _ S' n'. remaining bs S' n')
                  ≡ cond t (remaining bs ((b.0, r) ∷ S) n) (refusal (numbers bs) S ρ.full)
              fit true = refl
              fit false = refl
          go (fails x) w = refl
          go (awaits q ss) w =
              onward-awaits b.0 bs ss (needed (b.0 ∷ numbers bs) q S n)
              ∙ remaining-begin ((b.0, ss) ∷ bs) (s.0, s.1, w.2, s.3) S n q w.0 w.1

      -- ---- turns enough do it

      begin-cong : (x : Option F) (qs : List ℕ) (S : Trail R) (n : ℕ) (on on' : ℕ → Res (Late F R) R (Unit {0}))
          → (x ≡ none → on (suc n) ≡ on' (suc n)) → begin x qs S n on ≡ begin x qs S n on'
      begin-cong (some x) qs S n on on' h = refl
      begin-cong none qs S n on on' h = h refl

      turns-do : (m : ℕ) (bs : List (Begun F R)) (S : Trail R) (n : ℕ) → Stacked N bs → turns_left N (numbers bs) S < m
          → turns m bs S n ≡ remaining bs S n
      turns-do zero bs S n s i = absurd (omega arith)
      turns-do (suc m) [] S n s i = refl
      turns-do (suc m) (b ∷ bs) S n s i =
          go (fate (lookup S) b.1 (ρ.rule b.0)) (fate-awaits N S b.1 (ρ.rule b.0) s.2 (closed b.0 s.1))
          (λ bs' S' n' s' l. turns-do m bs' S' n' s' l)
          ∙ sym (remaining-turn b bs s S n)
        where
          go : (f : Fate F R) → Awaited N S f
              → ((bs' : List (Begun F R)) (S' : Trail R) (n' : ℕ) → Stacked N bs' → turns_left N (numbers bs') S' < m → turns m bs' S' n' ≡ remaining bs' S' n')
              → turn (λ cs S' n'. turns m cs S' n') b bs S n f ≡ turn remaining b bs S n f
          go (answered r) w ih = fit (ρ.fits ((b.0, r) ∷ S))
            where
              fit : (t : Bool)
                  → cond t (turns m bs ((b.0, r) ∷ S) n) (refusal (numbers bs) S ρ.full)
                  ≡ cond t (remaining bs ((b.0, r) ∷ S) n) (refusal (numbers bs) S ρ.full)
              fit true = ih bs ((b.0, r) ∷ S) n s.3 (omega (arith, left-lay N b.0 S (numbers bs) r))
              fit false = refl
          go (fails x) w ih = refl
          go (awaits q ss) w ih =
              begin-cong (bar ρ budget (b.0 ∷ numbers bs) n q) (b.0 ∷ numbers bs) S n _ _ (λ free.
              let out : mem q (b.0 ∷ numbers bs) ≡ false = (bar-none ρ budget (b.0 ∷ numbers bs) n q free).0 in
              ih ((q, pieces q) ∷ (b.0, ss) ∷ bs) S (suc n) (out, w.1, below q w.1, (s.0, s.1, w.2, s.3))
              (omega (arith, left-begin N q S (b.0 ∷ numbers bs) out w.0 w.1)))

      onward-end : {A : Type 0} (m : Res (Late F R) R A) → onward (λ y. y.0) m (λ _ S n. answer tt S n) ≡ ended m
      onward-end (answer a S n) = refl
      onward-end (refused y) = refl
      onward-end dry = refl

      -- before the first turn
      pub remaining-start : (q : ℕ) (S : Trail R) (n : ℕ) → q < N → lookup S q ≡ none
          → begin (bar ρ budget [] n q) [] S n (remaining ((q, pieces q) ∷ []) S) ≡ ended (worked_ahead ρ skeleton budget N [] q S n)
      remaining-start q S n l new = sym (remaining-begin [] tt S n q new l) ∙ onward-end (worked_ahead ρ skeleton budget N [] q S n)

      pub work-recursion : (q : ℕ) (S : Trail R) (n : ℕ) → q < N → lookup S q ≡ none
          → work_ahead q S n ≡ ended (worked_ahead ρ skeleton budget N [] q S n)
      work-recursion q S n l new =
          begin-cong (bar ρ budget [] n q) [] S n _ _ (λ free.
          turns-do (2 * N) ((q, pieces q) ∷ []) S (suc n) (refl, l, below q l, tt)
          (omega (arith, left-begin N q S [] refl new l, free-le (begun S []) N)))
          ∙ remaining-start q S n l new

-- ---- so the turns do on a missing question what `worked` does

all-below : {F R : Type 0} (N : ℕ) (ss : List (Skeleton F R)) → AllBelow N ss → Below N (skeleton_of ss)
all-below N [] w = tt
all-below N (s ∷ ss) w = below-bind N s (λ _. skeleton_of ss) w.0 (λ _. all-below N ss w.1)

plain-ended : {F R A : Type 0} (m : Res (Late F R) R A) → plain (ended m) ≡ ended (plain m)
plain-ended (answer a S n) = refl
plain-ended (refused y) = refl
plain-ended dry = refl

module _ {F R : Type 0} (ρ : Rules F R) (pieces : ℕ → List (Skeleton F R)) (budget N : ℕ)
    (leads : (q : ℕ) → q < N → Leads (skeleton_of (pieces q)) (ρ.rule q))
    (below : (q : ℕ) → q < N → AllBelow N (pieces q)) (closed : Closed ρ N) where
  led : Led ρ (skeleton ρ pieces budget N) N
  led = record { leads = leads; below = λ j i. all-below N (pieces j) (below j i); closed = closed }

  recursion-works : (q : ℕ) (S : Trail R) (n : ℕ) → q < N
      → plain (ended (worked_ahead ρ (skeleton ρ pieces budget N) budget N [] q S n)) ≡ ended (worked ρ budget N [] q S n)
  recursion-works q S n l =
      plain-ended (worked_ahead ρ (skeleton ρ pieces budget N) budget N [] q S n)
      ∙ ap ended (worked-ahead ρ (skeleton ρ pieces budget N) budget N led N [] (free-le (λ j. mem j []) N) q S n l)

  pub turns-work : (q : ℕ) (S : Trail R) (n : ℕ) → q < N → lookup S q ≡ none
      → plain (work_ahead ρ pieces budget N q S n) ≡ ended (worked ρ budget N [] q S n)
  turns-work q S n l new = ap plain (work-recursion ρ pieces budget N below closed q S n l new) ∙ recursion-works q S n l

  -- what is to be done before the first turn, for the loop's invariant
  pub start-works : (q : ℕ) (S : Trail R) (n : ℕ) → q < N → lookup S q ≡ none
      → plain (begin ρ pieces budget N (bar ρ budget [] n q) [] S n (remaining ρ pieces budget N ((q, pieces q) ∷ []) S))
      ≡ ended (worked ρ budget N [] q S n)
  start-works q S n l new = ap plain (remaining-start ρ pieces budget N below closed q S n l new) ∙ recursion-works q S n l

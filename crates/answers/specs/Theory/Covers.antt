-- Skeletons: what a computation needs, in its order, with no test that may refuse on the way. A skeleton asks at least what the
-- computation asks, as long as that goes on; of what has refused nothing is asked.
use Rattle.std.specs.Prelude.{◌≡◌, refl, ℕ, List, [], ◌∷◌}
use Rattle.std.proofs.Math.Option.{Option, none, some}
use Rattle.answers.specs.Ask.{Ask, done, refused, need, bind, Out, value, missing, or_missing, run}
use Rattle.answers.specs.Theory.Fuel.{Below}

-- P relates what the two end with
pub data Covering {F R B A : Type 0} (P : B → A → Type 0) : Ask F R B → Ask F R A → Type 0 where
  ends : {b : B} {a : A} → P b a → Covering P (done b) (done a)
  over : {s : Ask F R B} {x : F} → Covering P s (refused x)
  asks : {q : ℕ} {f : R → Ask F R B} {g : R → Ask F R A} → ((r : R) → Covering P (f r) (g r)) → Covering P (need q f) (need q g)

-- a skeleton's end says nothing
abbrev pub Skeleton : Type 0 → Type 0 → Type 0
Skeleton F R = Ask F R (Unit {0})

abbrev pub Covers : {F R A : Type 0} → Skeleton F R → Ask F R A → Type 0
Covers s t = Covering (λ _ _. Unit {0}) s t

-- it asks nothing: a test, or a join
abbrev pub Silent : {F R A : Type 0} → Ask F R A → Type 0
Silent (done a) = Unit {0}
Silent (refused x) = Unit {0}
Silent (need q f) = ⊥

pub silent-bind : {F R A B : Type 0} (m : Ask F R A) (k : A → Ask F R B) → Silent m → ((a : A) → Silent (k a)) → Silent (bind m k)
silent-bind (done a) k z h = h a
silent-bind (refused x) k z h = tt
silent-bind (need q f) k z h = absurd z

-- all that a computation asks
abbrev pub asked : {F R A : Type 0} → Ask F R A → Skeleton F R
asked t = bind t (λ _. done tt)

-- all that a computation asks, and no refusal
abbrev pub quiet : {F R A : Type 0} → Ask F R A → Skeleton F R
quiet (done a) = done tt
quiet (refused x) = done tt
quiet (need q f) = need q (λ r. quiet (f r))

-- ---- how skeletons are put together

module _ {F R B A : Type 0} {P : B → A → Type 0} where
  -- one part after another; the skeleton of what follows may hang on what the first skeleton ends with
  pub covering-bind : {B' A' : Type 0} {Q : B' → A' → Type 0} {s : Ask F R B} {t : Ask F R A} {k : B → Ask F R B'} {l : A → Ask F R A'}
      → Covering P s t → ((b : B) (a : A) → P b a → Covering Q (k b) (l a)) → Covering Q (bind s k) (bind t l)
  covering-bind (ends p) h = h _ _ p
  covering-bind over h = over
  covering-bind (asks c) h = asks (λ r. covering-bind (c r) h)

  -- a test before what is covered
  pub covering-test : {C : Type 0} (m : Ask F R C) {s : Ask F R B} {l : C → Ask F R A} → Silent m
      → ((c : C) → Covering P s (l c)) → Covering P s (bind m l)
  covering-test (done c) z h = h c
  covering-test (refused x) z h = over
  covering-test (need q f) z h = absurd z

-- what a quiet run comes to: a missing question, or nothing
abbrev pub heard : {F A : Type 0} → Out F A → Out F (Unit {0})
heard (value a) = value tt
heard (refused x) = value tt
heard (missing q) = missing q

pub run-quiet : {F R A : Type 0} (known : ℕ → Option R) (t : Ask F R A) → run known (quiet t) ≡ heard (run known t)
run-quiet known (done a) = refl
run-quiet known (refused x) = refl
run-quiet {F} {R} known (need q f) = go (known q) (λ r. run-quiet known (f r))
  where
    go : (o : Option R) → ((r : R) → run known (quiet (f r)) ≡ heard (run known (f r)))
        → or_missing q (λ r. run known (quiet (f r))) o ≡ heard (or_missing q (λ r. run known (f r)) o)
    go none ih = refl
    go (some r) ih = ih r

module _ {F R : Type 0} where
  pub covers-done : {A : Type 0} (m : Ask F R A) → Silent m → Covers (done tt) m
  covers-done (done a) z = ends tt
  covers-done (refused x) z = over
  covers-done (need q f) z = absurd z

  pub covers-asked : {A : Type 0} (t : Ask F R A) → Covers (asked t) t
  covers-asked (done a) = ends tt
  covers-asked (refused x) = over
  covers-asked (need q f) = asks (λ r. covers-asked (f r))

  pub covers-quiet : {A : Type 0} (t : Ask F R A) → Covers (quiet t) t
  covers-quiet (done a) = ends tt
  covers-quiet (refused x) = over
  covers-quiet (need q f) = asks (λ r. covers-quiet (f r))

  pub quiet-below : {A : Type 0} (N : ℕ) (t : Ask F R A) → Below N t → Below N (quiet t)
  quiet-below N (done a) w = tt
  quiet-below N (refused x) w = tt
  quiet-below N (need q f) w = (w.0, λ r. quiet-below N (f r) (w.1 r))

  -- a piece, and then what follows: its skeleton does not see the piece's value
  pub covers-bind : {A B : Type 0} {s s' : Skeleton F R} {t : Ask F R A} {l : A → Ask F R B} → Covers s t → ((a : A) → Covers s' (l a))
      → Covers (bind s (λ _. s')) (bind t l)
  covers-bind c h = covering-bind c (λ _ a _. h a)

  -- ---- piece after piece

  abbrev pub skeleton_of : List (Skeleton F R) → Skeleton F R
  skeleton_of [] = done tt
  skeleton_of (s ∷ ss) = bind s (λ _. skeleton_of ss)

  -- a piece, a test and join with what there is so far, and the further pieces: the step of an induction on pieces
  pub covers-piece : {A J C : Type 0} {s : Skeleton F R} (ss : List (Skeleton F R)) {t : Ask F R A} (join : A → Ask F R J)
      {rest : J → Ask F R C} → Covers s t → ((a : A) → Silent (join a)) → ((j : J) → Covers (skeleton_of ss) (rest j))
      → Covers (skeleton_of (s ∷ ss)) (bind t (λ a. bind (join a) rest))
  covers-piece ss join c silent h = covers-bind c (λ a. covering-test (join a) (silent a) h)

-- ---- a skeleton may stop early: it asks, in its order, the first of what a computation asks

pub data Leads {F R A : Type 0} : Skeleton F R → Ask F R A → Type 0 where
  stop : {u : Unit {0}} {t : Ask F R A} → Leads (done u) t
  past : {s : Skeleton F R} {x : F} → Leads s (refused x)
  next : {q : ℕ} {f : R → Skeleton F R} {g : R → Ask F R A} → ((r : R) → Leads (f r) (g r)) → Leads (need q f) (need q g)

module _ {F R A : Type 0} where
  pub covers-leads : {s : Skeleton F R} {t : Ask F R A} → Covers s t → Leads s t
  covers-leads (ends p) = stop
  covers-leads over = past
  covers-leads (asks c) = next (λ r. covers-leads (c r))

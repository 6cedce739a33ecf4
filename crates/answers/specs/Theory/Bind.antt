-- The laws of `bind`, for rules that are put together from parts.
use Rattle.std.specs.Prelude.{◌≡◌, refl, ℕ, List, [], ◌∷◌, ◌++◌}
use Rattle.std.proofs.Common.{ap}
use Rattle.std.proofs.Math.Option.{Option, none, some}
use Rattle.answers.specs.Ask.{Ask, done, refused, need, bind, Out, value, missing, or_missing, run, taken, needs, then}
use Rattle.answers.specs.Theory.Sound.{clash}
use Rattle.answers.specs.Theory.Fuel.{Below}

pub bind_done : {F R A : Type 0} (m : Ask F R A) → bind m done ≡ m
bind_done (done a) = refl
bind_done (refused x) = refl
bind_done (need q f) = λ i. need q (λ r. bind_done (f r) i)

pub bind_assoc : {F R A B C : Type 0} (m : Ask F R A) (k : A → Ask F R B) (l : B → Ask F R C)
    → bind (bind m k) l ≡ bind m (λ a. bind (k a) l)
bind_assoc (done a) k l = refl
bind_assoc (refused x) k l = refl
bind_assoc (need q f) k l = λ i. need q (λ r. bind_assoc (f r) k l i)

abbrev pub then-needs : {F A : Type 0} → Out F A → (A → List ℕ) → List ℕ
then-needs (value a) k = k a
then-needs (refused x) k = []
then-needs (missing q) k = []

module _ {F R A B : Type 0} (known : ℕ → Option R) where
  pub run_bind : (m : Ask F R A) (k : A → Ask F R B) → run known (bind m k) ≡ then (run known m) (λ a. run known (k a))
  run_bind (done a) k = refl
  run_bind (refused x) k = refl
  run_bind (need q f) k = go (known q) (λ r. run_bind (f r) k)
    where
      go : (o : Option R) → ((r : R) → run known (bind (f r) k) ≡ then (run known (f r)) (λ a. run known (k a)))
          → or_missing q (λ r. run known (bind (f r) k)) o ≡ then (or_missing q (λ r. run known (f r)) o) (λ a. run known (k a))
      go none ih = refl
      go (some r) ih = ih r

  pub needs-bind : (m : Ask F R A) (k : A → Ask F R B)
      → needs known (bind m k) ≡ needs known m ++ then-needs (run known m) (λ a. needs known (k a))
  needs-bind (done a) k = refl
  needs-bind (refused x) k = refl
  needs-bind (need q f) k = ap (λ l. q ∷ l) (go (known q) (λ r. needs-bind (f r) k))
    where
      go : (o : Option R)
          → ((r : R) → needs known (bind (f r) k) ≡ needs known (f r) ++ then-needs (run known (f r)) (λ a. needs known (k a)))
          → taken (λ r. needs known (bind (f r) k)) o
          ≡ taken (λ r. needs known (f r)) o ++ then-needs (or_missing q (λ r. run known (f r)) o) (λ a. needs known (k a))
      go none ih = refl
      go (some r) ih = ih r

  -- both parts have a value where the whole has one
  pub bind_inv : (m : Ask F R A) (k : A → Ask F R B) {b : B} → run known (bind m k) ≡ value b
      → (a : A) × (run known m ≡ value a) × (run known (k a) ≡ value b)
  bind_inv m k {b} e = go (run known m) refl (rw (run_bind m k) at e)
    where
      go : (o : Out F A) → run known m ≡ o → then o (λ a. run known (k a)) ≡ value b
          → (a : A) × (run known m ≡ value a) × (run known (k a) ≡ value b)
      go (value a) h z = (a, h, z)
      go (refused x) h z = clash (cc)
      go (missing q) h z = clash (cc)

pub below-bind : {F R A B : Type 0} (N : ℕ) (m : Ask F R A) (k : A → Ask F R B)
    → Below N m → ((a : A) → Below N (k a)) → Below N (bind m k)
below-bind N (done a) k w h = h a
below-bind N (refused x) k w h = tt
below-bind N (need q f) k w h = (w.0, λ r. below-bind N (f r) k (w.1 r) h)

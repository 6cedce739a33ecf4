-- How computations of the rules end. One predicate serves two ends: which questions they need under any answers (not strict), and that
-- they never refuse with `spent` where the answers are within their size (strict).
use Rattle.std.specs.Prelude.{◌≡◌, refl, ℕ, ◌≤◌, ◌<◌, Bool, true, false, ◌&&◌, leb}
use Rattle.std.proofs.Math.Option.{Option, none, some}
use Rattle.std.proofs.Common.{leb-true}
use Rattle.answers.specs.Ask.{done, refused, need, bind, Out, value, missing, or_missing, run, Trail, lookup}
use Rattle.answers.specs.Theory.Sound.{clash}
use Rattle.answers.specs.Theory.Fuel.{Below}
use Rattle.answers.specs.Theory.Invariant.{Every}
use Rattle.rules.specs.Sizes.{max_nesting, max_records, max_text}
use Rattle.rules.specs.Refusals.{Refusal, number_of, spent_fuel}
use Rattle.rules.specs.Values.{Value, Answer, nesting_of, record_size, text_size, within_size}
use Rattle.rules.specs.Layers.{Work}

-- what is asked only of the strict
abbrev pub When : Bool → Type 0 → Type 0
When strict A = strict ≡ true → A

-- an answer is undefined, or within its size
abbrev pub WithinSize : Answer → Type 0
WithinSize none = Unit {0}
WithinSize (some v) = within_size v ≡ true

pub nested : (v : Value) → within_size v ≡ true → nesting_of v ≤ 32
unfolding within_size
nested v e = go (leb (nesting_of v) max_nesting) refl e
  where
    go : (t : Bool) → leb (nesting_of v) 32 ≡ t → (t && leb (record_size v) max_records && leb (text_size v) max_text) ≡ true → nesting_of v ≤ 32
    go true h e = leb-true (nesting_of v) 32 h
    go false h e = clash (cc)

-- an ordinary refusal: its number is not 0, which is success, and not that of spent fuel
abbrev pub Ordinary : Refusal → Type 0
Ordinary x = (1 ≤ number_of x) × (number_of x < spent_fuel)

-- Only questions below N are needed and a result has Q. Where it is strict, answers are within their size and every refusal is ordinary.
pub data Ends (strict : Bool) (N : ℕ) {A : Type 0} (Q : A → Type 0) : Work A → Type 0 where
  dones : {a : A} → Q a → Ends strict N Q (done a)
  refuses : {x : Refusal} → When strict (Ordinary x) → Ends strict N Q (refused x)
  needs : {b : ℕ} {f : Answer → Work A} → b < N → ((a : Answer) → When strict (WithinSize a) → Ends strict N Q (f a))
      → Ends strict N Q (need b f)

module _ {strict : Bool} {N : ℕ} {A : Type 0} {P : A → Type 0} where
  pub ends-bind : {B : Type 0} {Q : B → Type 0} {m : Work A} {k : A → Work B}
      → Ends strict N P m → ((a : A) → P a → Ends strict N Q (k a)) → Ends strict N Q (bind m k)
  ends-bind (dones p) h = h _ p
  ends-bind (refuses r) h = refuses r
  ends-bind (needs l f) h = needs l (λ a s. ends-bind (f a s) h)

pub ends-below : {A : Type 0} {N : ℕ} {Q : A → Type 0} {m : Work A} → Ends false N Q m → Below N m
ends-below (dones p) = tt
ends-below (refuses r) = tt
ends-below (needs l f) = (l, λ a. ends-below (f a (λ e. clash (cc))))

-- what a run comes to: a value that has Q, an ordinary refusal, or a missing answer
abbrev Lands : {A : Type 0} → (A → Type 0) → Out Refusal A → Type 0
Lands Q (value a) = Q a
Lands Q (refused x) = Ordinary x
Lands Q (missing b) = Unit {0}

module _ {N : ℕ} {A : Type 0} {Q : A → Type 0} (S : Trail Answer) (every : Every WithinSize S) where
  lands : {m : Work A} → Ends true N Q m → Lands Q (run (lookup S) m)
  lands (dones p) = p
  lands (refuses r) = r refl
  lands (needs {b = b} {f = f} l e) = go (lookup S b) refl (λ a s. lands (e a (λ _. s)))
    where
      go : (o : Option Answer) → lookup S b ≡ o → ((a : Answer) → WithinSize a → Lands Q (run (lookup S) (f a)))
          → Lands Q (or_missing b (λ a. run (lookup S) (f a)) o)
      go none h ih = tt
      go (some a) h ih = ih a (every b a h)

  pub ends-value : {m : Work A} {a : A} → Ends true N Q m → run (lookup S) m ≡ value a → Q a
  ends-value e h = rw h at (lands e)

  pub ends-refused : {m : Work A} {x : Refusal} → Ends true N Q m → run (lookup S) m ≡ refused x → Ordinary x
  ends-refused e h = rw h at (lands e)

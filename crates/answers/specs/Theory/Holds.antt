-- What holds of a result: Q of an answer, X of a refusal, D where the fuel ran out.
--
-- Every theorem on `resolve` is a `Holds`. The laws here carry one through the parts of `resolve` and `machine`, so that a proof says only
-- what the work does to the trail and the count.
use Rattle.std.specs.Prelude.{◌≡◌, refl, ℕ, suc, Bool, true, false, cond, ◌∷◌}
use Rattle.std.proofs.Math.Option.{Option, none, some}
use Rattle.answers.specs.Ask.{Out, value, refused, missing, Trail}
use Rattle.answers.specs.Resolve.{Rules, Res, answer, refused, dry, after, enter, lay}
use Rattle.answers.specs.Theory.Restarts.{react, unless}

-- what becomes of a need: the question, the trail, the count
abbrev pub Handler : Type 0 → Type 0 → Type 0
Handler F R = ℕ → Trail R → ℕ → Res F R R

pub data Holds {F R A : Type 0} (X : F → Type 0) (D : Type 0) (Q : A → Trail R → ℕ → Type 0) : Res F R A → Type 0 where
  answers : {a : A} {S : Trail R} {n : ℕ} → Q a S n → Holds X D Q (answer a S n)
  refuses : {x : F} → X x → Holds X D Q (refused x)
  dries : D → Holds X D Q dry

-- of an answer, if there is one
abbrev pub Partly : {F R A : Type 0} → (A → Trail R → ℕ → Type 0) → Res F R A → Type 0
Partly Q m = Holds (λ x. Unit {0}) (Unit {0}) Q m

-- there is an answer
abbrev pub Fully : {F R A : Type 0} → (A → Trail R → ℕ → Type 0) → Res F R A → Type 0
Fully Q m = Holds (λ x. ⊥) ⊥ Q m

-- there is an answer or a refusal
abbrev pub Wet : {F R A : Type 0} → Res F R A → Type 0
Wet m = Holds (λ x. Unit {0}) ⊥ (λ a S n. Unit {0}) m

module _ {F R A : Type 0} {X : F → Type 0} {D : Type 0} {Q : A → Trail R → ℕ → Type 0} where
  pub of-answer : {a : A} {S : Trail R} {n : ℕ} → Holds X D Q (answer a S n) → Q a S n
  of-answer (answers h) = h

  pub holds-refused : {x : F} → Holds X D Q (refused x) → X x
  holds-refused (refuses h) = h

  pub holds-map : {P : A → Trail R → ℕ → Type 0} {m : Res F R A}
      → ((a : A) (S : Trail R) (n : ℕ) → P a S n → Q a S n) → Holds X D P m → Holds X D Q m
  holds-map f (answers h) = answers (f _ _ _ h)
  holds-map f (refuses h) = refuses h
  holds-map f (dries h) = dries h

  pub after_holds : {B : Type 0} {P : B → Trail R → ℕ → Type 0} {m : Res F R B} {k : B → Trail R → ℕ → Res F R A}
      → Holds X D P m → ((b : B) (S : Trail R) (n : ℕ) → P b S n → Holds X D Q (k b S n)) → Holds X D Q (after m k)
  after_holds (answers h) f = f _ _ _ h
  after_holds (refuses h) f = refuses h
  after_holds (dries h) f = dries h

  pub react-holds : {B : Type 0} {pop : B → Res F R A} {push : ℕ → Res F R A} (o : Out F B)
      → ((b : B) → o ≡ value b → Holds X D Q (pop b)) → ((x : F) → o ≡ refused x → X x)
      → ((q : ℕ) → o ≡ missing q → Holds X D Q (push q)) → Holds X D Q (react o pop push)
  react-holds (value b) f g h = f b refl
  react-holds (refused x) f g h = refuses (g x refl)
  react-holds (missing q) f g h = h q refl

  pub unless_holds : (push : ℕ → Res F R A) (n : ℕ) (x : Option F)
      → ((y : F) → x ≡ some y → X y) → (x ≡ none → Holds X D Q (push (suc n))) → Holds X D Q (unless x push n)
  unless_holds push n (some y) f g = refuses (f y refl)
  unless_holds push n none f g = g refl

pub after_cong : {F R A B : Type 0} {X : F → Type 0} {D : Type 0} {P : A → Trail R → ℕ → Type 0} {m : Res F R A}
    {k k' : A → Trail R → ℕ → Res F R B} → Holds X D P m
    → ((a : A) (S : Trail R) (n : ℕ) → P a S n → k a S n ≡ k' a S n) → after m k ≡ after m k'
after_cong (answers h) f = f _ _ _ h
after_cong (refuses h) f = refl
after_cong (dries h) f = refl

-- an answer, taken out
pub full-answer : {F R A : Type 0} {Q : A → Trail R → ℕ → Type 0} {m : Res F R A} → Fully Q m
    → (a : A) × (S : Trail R) × (n : ℕ) × (m ≡ answer a S n) × Q a S n
full-answer (answers h) = (_, _, _, refl, h)
full-answer (refuses h) = absurd h
full-answer (dries h) = absurd h

-- what never answers refuses
pub wet-refused : {F R A : Type 0} {m : Res F R A} → Wet m → ((a : A) (S : Trail R) (n : ℕ) → m ≡ answer a S n → ⊥) → (x : F) × (m ≡ refused x)
wet-refused (answers h) never = absurd (never _ _ _ refl)
wet-refused (refuses h) never = (_, refl)
wet-refused (dries h) never = absurd h

module _ {F R : Type 0} {X : F → Type 0} {D : Type 0} {Q : R → Trail R → ℕ → Type 0} where
  pub laid-holds : (ρ : Rules F R) (q : ℕ) (r : R) (S : Trail R) (n : ℕ) → (ρ.fits ((q, r) ∷ S) ≡ true → Q r ((q, r) ∷ S) n)
      → (ρ.fits ((q, r) ∷ S) ≡ false → X ρ.full) → Holds X D Q (lay ρ q (answer r S n))
  laid-holds ρ q r S n f g = go (ρ.fits ((q, r) ∷ S)) refl
    where
      go : (t : Bool) → ρ.fits ((q, r) ∷ S) ≡ t → Holds X D Q (cond t (answer r ((q, r) ∷ S) n) (refused ρ.full))
      go true e = answers (f e)
      go false e = refuses (g e)

  pub lay-holds : {P : R → Trail R → ℕ → Type 0} {m : Res F R R} (ρ : Rules F R) (q : ℕ) → Holds X D P m
      → ((r : R) (S : Trail R) (n : ℕ) → P r S n → ρ.fits ((q, r) ∷ S) ≡ true → Q r ((q, r) ∷ S) n)
      → ((r : R) (S : Trail R) (n : ℕ) → P r S n → ρ.fits ((q, r) ∷ S) ≡ false → X ρ.full) → Holds X D Q (lay ρ q m)
  lay-holds ρ q (answers h) f g = laid-holds ρ q _ _ _ (f _ _ _ h) (g _ _ _ h)
  lay-holds ρ q (refuses h) f g = refuses h
  lay-holds ρ q (dries h) f g = dries h

  pub enter-holds : (S : Trail R) (n : ℕ) (go : ℕ → Res F R R) (o : Option R) (x : Option F)
      → ((r : R) → o ≡ some r → Q r S n) → ((y : F) → o ≡ none → x ≡ some y → X y)
      → (o ≡ none → x ≡ none → Holds X D Q (go (suc n))) → Holds X D Q (enter o x S n go)
  enter-holds S n go (some r) x f g h = answers (f r refl)
  enter-holds S n go none (some y) f g h = refuses (g y refl refl)
  enter-holds S n go none none f g h = h refl refl

-- What is chosen by a test, an option or a list has a property if every choice has it: proofs follow the definitions' own cases.
use Rattle.std.specs.Prelude.{◌≡◌, refl, ℕ, zero, suc, ◌≤◌, ◌<◌, Bool, true, false, List, [], ◌∷◌, length}
use Rattle.std.proofs.Math.Option.{Option, none, some}
use Rattle.std.proofs.Common.{arith}
use Rattle.std.proofs.Math.ListN.{get_elem?}
use Rattle.answers.specs.Theory.Sound.{clash}

pub by-test : {X : Type 0} (P : X → Type 0) (t : Bool) {a b : X} → (t ≡ true → P a) → (t ≡ false → P b)
    → P (elim t as (λ x. X) [ true ↦ a | false ↦ b ])
by-test P true f g = f refl
by-test P false f g = g refl

-- two choices by one test are equal if they are equal case by case
pub same_test : {X : Type 0} (t : Bool) {a b c d : X} → (t ≡ true → a ≡ c) → (t ≡ false → b ≡ d)
    → ◌≡◌ {A = X} (elim t [ true ↦ a | false ↦ b ]) (elim t [ true ↦ c | false ↦ d ])
same_test true f g = f refl
same_test false f g = g refl

pub by-option : {A X : Type 0} (P : X → Type 0) (o : Option A) {x : X} {f : A → X} → (o ≡ none → P x) → ((a : A) → o ≡ some a → P (f a))
    → P (elim o as (λ o. X) [ none ↦ x | some a ↦ f a ])
by-option P none g h = g refl
by-option P (some a) g h = h a refl

pub by-list : {A X : Type 0} (P : X → Type 0) (l : List A) {x : X} {f : A → List A → X} → P x → ((a : A) (r : List A) → P (f a r))
    → P (elim l as (λ z. X) [ [] ↦ x | a ∷ r ↦ f a r ])
by-list P [] g h = g
by-list P (a ∷ r) g h = h a r

-- what the choice of an element says of the list's length
pub get_elem-length : {A : Type 0} (l : List A) (i : ℕ) (x : A) → get_elem? l i ≡ some x → i < length l
get_elem-length [] i x e = clash (cc)
get_elem-length (y ∷ l) zero x e = omega arith
get_elem-length (y ∷ l) (suc i) x e = omega (arith, get_elem-length l i x e)

pub get_elem-none : {A : Type 0} (l : List A) (i : ℕ) → get_elem? l i ≡ none → length l ≤ i
get_elem-none [] i e = omega arith
get_elem-none (y ∷ l) zero e = clash (cc)
get_elem-none (y ∷ l) (suc i) e = omega (arith, get_elem-none l i e)

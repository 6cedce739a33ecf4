-- The order of working out, moment by moment: what is being worked out, the trail so far and how many have begun. A resolution refuses
-- exactly where such a moment stops, and answers exactly where nothing is left to work out and the root has its value. That it does is shown in
-- proofs/WorkingOrder.antt.
use Rattle.std.specs.Prelude.{◌≡◌, refl, ℕ, suc, ◌+◌, ◌≤◌, ◌<◌, true, false, List, [], ◌∷◌, length}
use Rattle.std.proofs.Common.{arith}
use Rattle.answers.specs.Ask.{Ask, Out, value, missing, run, Trail, lookup, mem}
use Rattle.answers.specs.Resolve.{Rules}

module _ {F R A : Type 0} (ρ : Rules F R) (budget : ℕ) (root : Ask F R A) where
  -- what is being worked out, the innermost question or else the root, needs question q before it can go on
  abbrev pub Needs : List ℕ → Trail R → ℕ → Type 0
  Needs [] S q = run (lookup S) root ≡ missing q
  Needs (b ∷ bs) S q = run (lookup S) (ρ.rule b) ≡ missing q

  -- or its rules refuse
  abbrev pub Refuses : List ℕ → Trail R → F → Type 0
  Refuses [] S x = run (lookup S) root ≡ Out.refused x
  Refuses (b ∷ bs) S x = run (lookup S) (ρ.rule b) ≡ Out.refused x

  -- "The root's value is worked out. A needed blend is taken from the trail; else 10; else 12; else it is begun, and when answered becomes
  -- the next entry." The moments that come: `stack` is being worked out, innermost first; S is the trail so far; n have begun.
  pub data Reached : List ℕ → Trail R → ℕ → Type 0 where
    start : Reached [] [] 0
    begins : {stack : List ℕ} {S : Trail R} {n : ℕ} (q : ℕ) → Reached stack S n → Needs stack S q → mem q stack ≡ false → n < budget
        → Reached (q ∷ stack) S (suc n)
    lays : {stack : List ℕ} {S : Trail R} {n : ℕ} (b : ℕ) (r : R) → Reached (b ∷ stack) S n → run (lookup S) (ρ.rule b) ≡ value r
        → ρ.fits ((b, r) ∷ S) ≡ true → Reached stack ((b, r) ∷ S) n

  -- as many have begun as are being worked out or have their entry, and no more than the budget
  pub begun-is : {stack : List ℕ} {S : Trail R} {n : ℕ} → Reached stack S n → n ≡ length stack + length S
  begun-is start = refl
  begun-is (begins q h w idle room) = omega (arith, begun-is h)
  begun-is (lays b r h e fits) = omega (arith, begun-is h)

  pub begun-within : {stack : List ℕ} {S : Trail R} {n : ℕ} → Reached stack S n → n ≤ budget
  begun-within start = omega arith
  begun-within (begins q h w idle room) = omega arith
  begun-within (lays b r h e fits) = begun-within h

  -- ---- why the work stops

  pub data Stops (stack : List ℕ) (S : Trail R) (n : ℕ) (x : F) : Type 0 where
    -- what is needed is being worked out itself
    circular : (q : ℕ) → Needs stack S q → mem q stack ≡ true → x ≡ ρ.circular q → Stops stack S n x
    -- as many as the budget have begun, and what is needed would be one more
    excess : (q : ℕ) → Needs stack S q → mem q stack ≡ false → n ≡ budget → x ≡ ρ.excess q → Stops stack S n x
    ruled : Refuses stack S x → Stops stack S n x
    full : (b : ℕ) (bs : List ℕ) → stack ≡ b ∷ bs → (r : R) → run (lookup S) (ρ.rule b) ≡ value r → ρ.fits ((b, r) ∷ S) ≡ false
        → x ≡ ρ.full → Stops stack S n x

  -- some moment that comes stops with x
  abbrev pub Stopped : F → Type 0
  Stopped x = (stack : List ℕ) × (S : Trail R) × (n : ℕ) × Reached stack S n × Stops stack S n x

  -- nothing is left to work out, and the root has its value
  abbrev pub Finished : A → Trail R → ℕ → Type 0
  Finished v S n = Reached [] S n × (run (lookup S) root ≡ value v)

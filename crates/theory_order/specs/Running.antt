-- What holds at each turn of `work` (module Turns), and that each turn lowers the measure; the marks of the questions that have begun.
use Rattle.std.specs.Prelude.{◌≡◌, refl, ℕ, suc, ◌+◌, ◌≤◌, ◌<◌, Bool, true, false, cond, List, [], ◌∷◌, length, eqb}
use Rattle.std.proofs.Common.{◌∙◌, inl, inr, arith}
use Rattle.std.proofs.Math.Option.{none, some}
use Rattle.answers.specs.Ask.{value, run, Trail, lookup, mem}
use Rattle.answers.specs.Resolve.{Rules, bar, Laid}
use Rattle.answers.specs.Theory.Sound.{clash, bar-none, lookup-other, mem-new, mem-cases, mem-more}
use Rattle.answers.specs.Theory.Fuel.{has, begun, left-begin, left-lay}
use Rattle.theory_order.specs.Walks.{Kept}
use Rattle.theory_order.specs.Turns.{Stacked, turns_left}

module _ {F R : Type 0} (ρ : Rules F R) (budget N : ℕ) where
  pub record Running (stack : List ℕ) (S : Trail R) (n : ℕ) : Type 0 where
    pub stacked : Stacked N stack
    -- what has begun is not answered
    pub apart : (q : ℕ) → mem q stack ≡ true → lookup S q ≡ none
    pub laid : Laid ρ S
    pub counted : n ≡ length S + length stack
    pub afforded : n ≤ budget
    pub fitting : ρ.fits S ≡ true

  pub running-start : (S : Trail R) (n : ℕ) → Kept ρ budget S n → Running [] S n
  running-start S n k = record {
    stacked = tt;
    apart = λ q z. clash (cc);
    laid = k.laid;
    counted = omega (arith, k.counted);
    afforded = k.afforded;
    fitting = k.fitting;
  }

  pub running-end : (S : Trail R) (n : ℕ) → Running [] S n → Kept ρ budget S n
  running-end S n a = record { laid = a.laid; counted = omega (arith, a.counted); afforded = a.afforded; fitting = a.fitting }

  module _ (stack : List ℕ) (S : Trail R) (n : ℕ) where
    -- a missing question begins
    pub running-begin : Running stack S n → (q : ℕ) → lookup S q ≡ none → q < N → bar ρ budget stack n q ≡ none
        → Running (q ∷ stack) S (suc n) × (turns_left N (q ∷ stack) S < turns_left N stack S)
    running-begin a q new l e =
        let (out, room) = bar-none ρ budget stack n q e in (
          record {
            stacked = (out, l, a.stacked);
            apart = λ j m. elim (mem-cases q stack j m) [ inl z ↦ rw z at new | inr z ↦ a.apart j z ];
            laid = a.laid;
            counted = omega (arith, a.counted);
            afforded = omega arith;
            fitting = a.fitting;
          },
          omega (arith, left-begin N q S stack out new l),
        )

    -- the newest question is answered, and its entry fits
    pub running-lay : (b : ℕ) (r : R) → Running (b ∷ stack) S n → run (lookup S) (ρ.rule b) ≡ value r
        → ρ.fits ((b, r) ∷ S) ≡ true → Running stack ((b, r) ∷ S) n × (turns_left N stack ((b, r) ∷ S) < turns_left N (b ∷ stack) S)
    running-lay b r a e fits = (
      record {
        stacked = a.stacked.2;
        apart = λ j m. lookup-other (b, r) S j (λ z. clash (cc a.stacked.0)) ∙ a.apart j (mem-more b stack j m);
        laid = (a.apart b (mem-new b stack), e, a.laid);
        counted = omega (arith, a.counted);
        afforded = a.afforded;
        fitting = fits;
      },
      omega (arith, left-lay N b S stack r),
    )

-- ---- the marks (`begun`): a question on the stack or in the trail has one

module _ {R : Type 0} (S : Trail R) (stack : List ℕ) (q j : ℕ) where
  -- a begin marks one more
  pub begun-push : begun S (q ∷ stack) j ≡ cond (eqb q j) true (begun S stack j)
  begun-push = go (eqb q j)
    where
      go : (t : Bool) → cond (cond t true (mem j stack)) true (has (lookup S j)) ≡ cond t true (cond (mem j stack) true (has (lookup S j)))
      go true = refl
      go false = refl

  -- a lay marks none
  pub begun-lay : (r : R) → begun ((q, r) ∷ S) stack j ≡ begun S (q ∷ stack) j
  begun-lay r = go (eqb q j) (mem j stack)
    where
      go : (t u : Bool) → cond u true (has (cond t (some r) (lookup S j))) ≡ cond (cond t true u) true (has (lookup S j))
      go true true = refl
      go true false = refl
      go false u = refl

-- so a missing question is on the stack where it has its mark
pub begun-busy : {R : Type 0} (S : Trail R) (stack : List ℕ) (q : ℕ) → lookup S q ≡ none → mem q stack ≡ begun S stack q
begun-busy S stack q new = rw new (go (mem q stack))
  where
    go : (t : Bool) → t ≡ cond t true false
    go true = refl
    go false = refl

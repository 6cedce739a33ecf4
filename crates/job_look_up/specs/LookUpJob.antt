-- What the promise of look-up says of its answers: a refusal's number is not 0, every value has room in its bits, and the header's functions
-- take number, place, start and size out of them.
use Rattle.std.specs.Prelude.{Err, ◌≡◌, Bool, cond, List, [], ◌∷◌, ℕ, ◌≤◌, ◌<◌, eqb}
use Rattle.std.proofs.Math.Path.{refl}
use Rattle.std.proofs.Common.{ap, arith}
use Rattle.std.proofs.Math.Bool.{true, false}
use Rattle.std.proofs.Math.Dec.{leb}
use Rattle.std.proofs.Math.ListN.{length}
use borrow.Author.Tests.{le-leb, leb-true, eqb-true}
use Rattle.answers.specs.Ask.{mem}
use Rattle.answers.specs.Theory.Sound.{clash}
use Rattle.rules.specs.Sizes.{max_room}
use Rattle.rules.specs.Jobs as J
use Rattle.theory.specs.LookUpSteps.{look-up-long}
use Rattle.theory.specs.LookUps.{Answered, part, refusal, look-up-answered, look-up-place}
use Rattle.rules.specs.Refusals.{look_up_numbers}
use Rattle.text_chars.specs.declared.Refusal.{Refusal}
use Rattle.sheet_paths.specs.Answers.{Found, job_of, Packable}
use Rattle.sheet_paths.specs.Unpacking.{Roomy, Unpacks, unpacks, packable}

-- every number of a look-up's refusals is one, and has room in six bits
abbrev Under : List ℕ → Type 0
Under [] = Unit {0}
Under (n ∷ ns) = (1 ≤ n) × (n < 64) × Under ns

among-under : (n : ℕ) (ns : List ℕ) → Under ns → mem n ns ≡ true → (1 ≤ n) × (n < 64)
among-under n [] h e = clash (cc)
among-under n (m ∷ ns) (l, h, k) e = go (eqb m n) refl e (among-under n ns k)
  where
    go : (t : Bool) → eqb m n ≡ t → cond t true (mem n ns) ≡ true → (mem n ns ≡ true → (1 ≤ n) × (n < 64)) → (1 ≤ n) × (n < 64)
    go true f g next = (omega (arith, l, eqb-true m n f), omega (arith, h, eqb-true m n f))
    go false f g next = next g

numbers-under : Under look_up_numbers
numbers-under =
    (omega arith, omega arith, (omega arith, omega arith, (omega arith, omega arith, (omega arith, omega arith, (omega arith, omega arith, (omega arith, omega arith, (omega arith, omega arith, (omega arith, omega arith, (omega arith, omega arith, tt)))))))))

module _ (table text path : List ℕ) where
  abbrev job : J.Found
  job = J.look_up_job table text path

  -- 1 is given of a longer table
  pub short-table : job.number ≡ 0 → length table ≤ max_room
  unfolding J.not_found
  short-table n = go (leb (length table) max_room) refl
    where
      go : (t : Bool) → leb (length table) max_room ≡ t → length table ≤ max_room
      go true e = leb-true (length table) max_room e
      go false e =
          clash (cc (ap (λ (f : J.Found). f.number) (look-up-long table text path (λ a b c. clash (cc (le-leb (length table) max_room a))))))

  roomy : Answered table job → Roomy job
  roomy (part n p s e) = let l = short-table n in Roomy.part n p s (omega arith) (omega arith)
  roomy (refusal m s e) =
      let (a, b) = among-under job.number look_up_numbers numbers-under m in
      let (p, q) = look-up-place table text path in
      Roomy.refusal a b (omega arith) s e

  pub answer-roomy : Roomy job
  answer-roomy = roomy (look-up-answered table text path)

  -- number, place, start and size come back out of the 64 bits, by the shifts of the header
  pub answer-unpacks : Unpacks job
  answer-unpacks = unpacks job answer-roomy

  module _ (r : Found) (k : job_of r ≡ job) where
    pub answer-packable : Packable r
    answer-packable = packable r (rw k answer-roomy)

    -- a refused answer's number is not 0: no refusal passes for a part
    pub refused-number : {x : Refusal} → r ≡ Err x → 1 ≤ x.number
    refused-number {x} e = let h : Packable (Err x) = rw e at answer-packable in h.room.0

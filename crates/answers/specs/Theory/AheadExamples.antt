-- Needs first at small rules: what only the looking ahead meets is no refusal of the whole.
use Rattle.std.specs.Prelude.{◌≡◌, refl, ℕ, zero, suc, ◌+◌, ◌<◌, List, [], ◌∷◌, leb, length}
use Rattle.std.proofs.Common.{arith}
use Rattle.answers.specs.Ask.{Ask, done, refused, need, bind}
use Rattle.answers.specs.Resolve.{Rules, answer, refused, worked, resolve}
use Rattle.answers.specs.Theory.Covers.{Skeleton, skeleton_of, asked, covers-piece, covers-asked, covers-done, Leads, covers-leads, stop, Silent}
use Rattle.answers.specs.Theory.Fuel.{Below, Closed}
use Rattle.answers.specs.Theory.Ahead.{plain}
use Rattle.answers.specs.Theory.AheadTurns.{work_ahead, AllBelow, turns-work, ended}

data Why : Type 0 where
  circle : ℕ → Why
  too_many : ℕ → Why
  no_room : Why
  wrong : Why

-- the pieces of 0 are 1 and 2, and a test stands between them; 3 likewise, and its test refuses. 1 is 5, 2 needs `last`, 4 is 7
abbrev test : ℕ → Ask Why ℕ ℕ
test zero = refused wrong
test (suc n) = done n

abbrev two-pieces : ℕ → ℕ → (ℕ → ℕ) → Ask Why ℕ ℕ
two-pieces q j f = bind (need q (λ r. done r)) (λ a. bind (test (f a)) (λ b. bind (need j (λ r. done r)) (λ c. bind (done (b + c)) (λ d. done d))))

abbrev rules : ℕ → ℕ → Ask Why ℕ ℕ
rules last zero = two-pieces 1 2 (λ a. a)
rules last (suc zero) = done 5
rules last (suc (suc zero)) = need last (λ r. done r)
rules last (suc (suc (suc zero))) = two-pieces 1 2 (λ a. 0)
rules last (suc (suc (suc (suc q)))) = done 7

abbrev pieces : ℕ → List (Skeleton Why ℕ)
pieces zero = asked (need 1 (λ r. done r)) ∷ asked (need 2 (λ r. done r)) ∷ []
pieces (suc zero) = []
pieces (suc (suc zero)) = []
pieces (suc (suc (suc zero))) = asked (need 1 (λ r. done r)) ∷ asked (need 2 (λ r. done r)) ∷ []
pieces (suc (suc (suc (suc q)))) = []

abbrev with : ℕ → ℕ → Rules Why ℕ
with last room = record { rule = rules last; circular = circle; excess = too_many; full = no_room; fits = λ S. leb (length S) room }

abbrev ask : ℕ → Ask Why ℕ ℕ
ask q = need q (λ r. done r)

-- ---- an answer

answers : work_ahead (with 4 9) pieces 9 5 0 [] 0 ≡ answer tt ((0, 11) ∷ (2, 7) ∷ (4, 7) ∷ (1, 5) ∷ []) 4
answers = refl

answers-exactly : resolve (with 4 9) 9 (ask 0) 5 ≡ answer 11 ((0, 11) ∷ (2, 7) ∷ (4, 7) ∷ (1, 5) ∷ []) 4
answers-exactly = refl

-- ---- 3 refuses before 2 is needed. Looking ahead meets a circle (2 needs 3), a budget that is spent, a room that is full

exactly : resolve (with 3 9) 9 (ask 3) 5 ≡ refused wrong
exactly = refl

circle-ahead : plain (work_ahead (with 3 9) pieces 9 5 3 [] 0) ≡ refused wrong
circle-ahead = refl

excess-ahead : plain (work_ahead (with 4 9) pieces 2 5 3 [] 0) ≡ refused wrong
excess-ahead = refl

full-ahead : plain (work_ahead (with 4 1) pieces 9 5 3 [] 0) ≡ refused wrong
full-ahead = refl

-- 0 passes its test: then these refuse as they do in order
circle-stands : plain (work_ahead (with 0 9) pieces 9 5 0 [] 0) ≡ refused (circle 0)
circle-stands = refl

excess-stands : plain (work_ahead (with 4 9) pieces 2 5 0 [] 0) ≡ refused (too_many 2)
excess-stands = refl

full-stands : plain (work_ahead (with 4 1) pieces 9 5 0 [] 0) ≡ refused no_room
full-stands = refl

-- ---- the theorem at these rules

test-silent : (a : ℕ) → Silent (test a)
test-silent zero = tt
test-silent (suc n) = tt

covers : (last q : ℕ) → Leads (skeleton_of (pieces q)) (rules last q)
covers last zero =
    covers-leads (covers-piece (asked (ask 2) ∷ []) test (covers-asked (ask 1)) test-silent (λ b.
    covers-piece [] (λ c. done (b + c)) (covers-asked (ask 2)) (λ c. tt) (λ d. covers-done (done d) tt)))
covers last (suc zero) = stop
covers last (suc (suc zero)) = stop
covers last (suc (suc (suc zero))) =
    covers-leads (covers-piece (asked (ask 2) ∷ []) (λ a. test 0) (covers-asked (ask 1)) (λ a. tt) (λ b.
    covers-piece [] (λ c. done (b + c)) (covers-asked (ask 2)) (λ c. tt) (λ d. covers-done (done d) tt)))
covers last (suc (suc (suc (suc q)))) = stop

pieces-below : (q : ℕ) → q < 5 → AllBelow 5 (pieces q)
pieces-below zero l = ((omega arith, λ r. tt), ((omega arith, λ r. tt), tt))
pieces-below (suc zero) l = tt
pieces-below (suc (suc zero)) l = tt
pieces-below (suc (suc (suc zero))) l = ((omega arith, λ r. tt), ((omega arith, λ r. tt), tt))
pieces-below (suc (suc (suc (suc q)))) l = tt

test_below : (a : ℕ) (k : ℕ → Ask Why ℕ ℕ) → ((b : ℕ) → Below 5 (k b)) → Below 5 (bind (test a) k)
test_below zero k h = tt
test_below (suc n) k h = h n

closed : (last room : ℕ) → last < 5 → Closed (with last room) 5
closed last room i zero l = (omega arith, λ r. test_below r _ (λ b. (omega arith, λ c. tt)))
closed last room i (suc zero) l = tt
closed last room i (suc (suc zero)) l = (i, λ r. tt)
closed last room i (suc (suc (suc zero))) l = (omega arith, λ r. tt)
closed last room i (suc (suc (suc (suc q)))) l = tt

-- whatever 2 needs, and with every room and budget
same : (last room budget q : ℕ) → last < 5 → q < 5
    → plain (work_ahead (with last room) pieces budget 5 q [] 0) ≡ ended (worked (with last room) budget 5 [] q [] 0)
same last room budget q i l =
    turns-work (with last room) pieces budget 5 (λ j _. covers last j) pieces-below (closed last room i) q [] 0 l refl

-- The laws of the code's loops, of one task: where each starts, its rounds, and what they keep.
use Rattle.std.specs.Prelude.{◌≡◌, ℕ, ◌<◌, false}
use Rattle.std.proofs.Math.Path.{refl, ap}
use mathlib.Core.List.{List, [], ◌∷◌}
use Rattle.std.proofs.Math.Option.{Option, none}
use Rattle.std.proofs.Common.{arith}
use Rattle.answers.specs.Ask.{value, missing, Trail, lookup}
use Rattle.answers.specs.Resolve.{answer, after}
use Rattle.answers.specs.Theory.Sound.{clash, Within}
use Rattle.answers.specs.Theory.Holds.{Partly, holds-map}
use Rattle.answers.specs.Theory.Invariant.{Every}
use Rattle.rules.specs.Bytes.{Text}
use Rattle.rules.specs.Refusals.{Refusal}
use Rattle.rules.specs.Tree.{simple, array, object, unresolved}
use Rattle.rules.specs.Values.{scalar, array_of, object_of, Answer}
use Rattle.rules.specs.Layers.{Layer, written, settled, Counted, nothing, one, merged}
use Rattle.rules.specs.Jobs.{order_of}
use Rattle.rules.specs.Sheet.{trail_size, trail_text_size}
use Rattle.theory.specs.Numbering.{Prepared}
use Rattle.theory.specs.Reach.{Each}
use Rattle.theory.specs.Resolving.{closed, laid-within}
use Rattle.theory.specs.DistinctAnswers.{laid-distinct}
use Rattle.theory.specs.BothJobs.{trail_fits-intro}
use Rattle.rules.specs.Settled.{no, Settled, push, push_node, push_layer, push_all, deeper_in, deeper_of, gather_of}
use Rattle.theory_order.specs.Walks.{proceed}
use Rattle.theory_order.specs.Ready.{Working, unanswered, work-lowers}
use Rattle.theory_order.specs.Turns.{by-turns}
use Rattle.theory_order.specs.Settle.{key_in}
use Rattle.theory_order.specs.Fitting.{Proper, Object, Fit, FitObject, FitCounted}
use Rattle.theory_order.specs.Levels.{key-round, key-missing, key-ready}
use Rattle.theory_order.specs.Clauses.{Task, questions_of, rules_of, Numbered, NumberedObject, NumberedCounted, KeptOf, work_c, ready_c}

-- ---- `take`: objects stand as they are

module _ (known : ℕ → Option Answer) where
  objects-stand : (os : List Layer) → Each Object os → push_all known os ≡ (os, no)
  unfolding push_all push_layer push_node push
  objects-stand [] f = refl
  objects-stand (settled (scalar x) ∷ os) f = absurd f.0
  objects-stand (settled (array_of vs) ∷ os) f = absurd f.0
  objects-stand (settled (object_of ms) ∷ os) f = ap (push (settled (object_of ms))) (objects-stand os f.1)
  objects-stand (written (simple x) ∷ os) f = absurd f.0
  objects-stand (written (array es) ∷ os) f = absurd f.0
  objects-stand (written (object fs) ∷ os) f = ap (push (written (object fs))) (objects-stand os f.1)
  objects-stand (written (unresolved b ps) ∷ os) f = absurd f.0

  pub take-objects : (os : List Layer) → Each Object os → (k : Text) → key_in os k known ≡ gather_of known (deeper_in known k os no) []
  unfolding key_in
  take-objects os f k = ap (λ (w : Settled). gather_of known (deeper_of known k w) []) (objects-stand os f)

-- ---- layers whose unresolved values are questions

module _ (N : ℕ) where
  numbered-fit : (os : List Layer) → Each (NumberedObject N) os → Each (Fit false N 0) os
  numbered-fit [] f = tt
  numbered-fit (written m ∷ os) f = (((f.0.0, λ s. clash (cc)), λ s. clash (cc)), numbered-fit os f.1)
  numbered-fit (settled v ∷ os) f = ((λ s. clash (cc), λ s. clash (cc)), numbered-fit os f.1)

  fit-numbered : (l : Layer) → Fit false N 0 l → Numbered N l
  fit-numbered (written m) f = f.0.0
  fit-numbered (settled v) f = tt

  objects-numbered : (os : List Layer) → Each (FitObject false N 0) os → Each (NumberedObject N) os
  objects-numbered [] f = tt
  objects-numbered (o ∷ os) f = ((fit-numbered o f.0.0, f.0.1), objects-numbered os f.1)

  counted-numbered : (c : Counted) → FitCounted false N 0 c → NumberedCounted N c
  counted-numbered nothing f = tt
  counted-numbered (one l) f = (fit-numbered l f.0, f.1)
  counted-numbered (merged os) f = objects-numbered os f

-- at the start there is nothing
pub kept-start : (t : Task) → KeptOf t [] 0
unfolding order_of trail_size trail_text_size
kept-start t = record {
  laid = tt;
  counted = refl;
  afforded = omega arith;
  fitting = trail_fits-intro t.trail_room t.text_room [] (omega arith) (omega arith);
}

module _ (t : Task) (p : Prepared t.setting.document) where
  -- the rules' handler, and `work`
  abbrev pub working_of : Working Refusal Answer (KeptOf t)
  working_of = by-turns (rules_of t) t.budget (questions_of t) (closed t.setting p t.trail_room t.text_room)

  -- answers in the trail are within their size, and in no object of theirs does a key stand twice
  pub kept-proper : (S : Trail Answer) (n : ℕ) → KeptOf t S n → Every Proper S
  kept-proper S n k b a e = (
    laid-within t.setting p t.trail_room t.text_room S k.laid b a e,
    laid-distinct t.setting p t.trail_room t.text_room S k.laid b a e,
  )

  -- ---- `work`

  -- what the whole call keeps
  pub work-keeps : (b : ℕ) (S : Trail Answer) (n : ℕ) → b < questions_of t → lookup S b ≡ none → KeptOf t S n
      → Partly (λ _ S' n'. KeptOf t S' n' × Within S S' × (unanswered (questions_of t) S' < unanswered (questions_of t) S)) (work_c t b S n)
  work-keeps = work-lowers working_of

  -- ---- `ready`

  module _ (os : List Layer) (f : Each (NumberedObject (questions_of t)) os) (k : Text)
      (S : Trail Answer) (n : ℕ) (kept : KeptOf t S n) where
    -- one round
    pub ready-again : ready_c t os k S n
        ≡ proceed (key_in os k (lookup S)) (λ c. answer c S n) (λ b. after (work_c t b S n) (λ _ S' n'. ready_c t os k S' n'))
    ready-again = key-round working_of kept-proper S n kept false 0 os (numbered-fit (questions_of t) os f) k

    -- a missing answer is one that there is
    pub ready-missing : (b : ℕ) → key_in os k (lookup S) ≡ missing b → (lookup S b ≡ none) × (b < questions_of t)
    ready-missing = key-missing working_of kept-proper S n kept false 0 os (numbered-fit (questions_of t) os f) k

    -- the end
    pub ready-keeps : Partly
        (λ c S' n'. KeptOf t S' n' × Within S S' × (key_in os k (lookup S') ≡ value c) × NumberedCounted (questions_of t) c)
        (ready_c t os k S n)
    ready-keeps =
        holds-map (λ c S' n' a. (a.0, a.1, a.2, counted-numbered (questions_of t) c a.3))
        (key-ready working_of kept-proper S n kept false 0 os (numbered-fit (questions_of t) os f) k)

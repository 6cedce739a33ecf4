-- The step that a join comes to, where the piece needed nothing: the rules' join, and distinct keys in it.
use Rattle.std.specs.Prelude.{◌≡◌, refl, ℕ, true, List, Ok, Err}
use Rattle.std.proofs.Math.Option.{none, some}
use mathlib.Core.Logic.{inl, inr}
use Rattle.answers.specs.Ask.{value, missing, refused, then}
use Rattle.answers.specs.Theory.Sound.{clash}
use Rattle.rules.specs.Bytes.{Text}
use Rattle.rules.specs.Refusals.{placed, nowhere}
use Rattle.rules.specs.Values.{Value, Answer, within_size}
use Rattle.rules.specs.NamedValues.{Distinct}
use Rattle.rules.specs.Settled.{Given}
use Rattle.rules.specs.Unresolved as rules
use Rattle.theory.specs.SettledAnswers.{join_piece_in}
use Rattle.sheet_kept.specs.Kept.{Held}
use Rattle.eval_concat.specs.Model.{Joined}
use Rattle.eval_concat.specs.Standing.{JoinedIs, JoinedCase}
use Rattle.eval_concat.specs.Steps.Distinct.{DistinctJoin, nothing-keeps, piece-keeps}
use Rattle.eval_concat.specs.Steps.Contracts.{Stepped, step_of, StepOfIs, StepCase}

-- whatever the rules give for the piece
pub step-distinct : (place : ℕ) (gap : Text) (J : rules.Join) (g : Given Answer)
    → ((v : Value) → g ≡ value (some v) → within_size v ≡ true → Distinct v) → DistinctJoin J
    → (K : rules.Join) → then g (λ v. join_piece_in place gap v J) ≡ value K → DistinctJoin K
step-distinct place gap J (value none) own d K e = nothing-keeps place gap J K d e
step-distinct place gap J (value (some v)) own d K e = piece-keeps place gap v J K (own v refl) d e
step-distinct place gap J (refused x) own d K e = clash (cc (e))
step-distinct place gap J (missing q) own d K e = clash (cc (e))

module _ (key : ℕ → Text) (P : Held → Type 0) (room : List ℕ) {g : Given rules.Join} where
  step_by : (q : Joined) → JoinedCase key P room g q → ((K : rules.Join) → g ≡ value K → DistinctJoin K) → StepCase key P room g (step_of q)
  step_by (Ok j) h d = record { join = h.0; is = h.1; stands = h.2; distinct = d h.0 h.1 }
  step_by (Err e) (inl (h, n)) d = record { refusal = placed 11 e.place.0; is = h; its-number = n; its-place = refl }
  step_by (Err e) (inr (h, n)) d = rw n (record { refusal = nowhere 13; is = h; its-number = refl; its-place = refl })

pub joined_step : {key : ℕ → Text} {P : Held → Type 0} {room : List ℕ} {g : Given rules.Join} {q : Joined} {r : Stepped} → StepOfIs q r
    → JoinedIs key P room g q → ((K : rules.Join) → g ≡ value K → DistinctJoin K) → StepCase key P room g r
joined_step {key} {P} {room} {q = q} s h d = rw s.is (step_by key P room q h.is d)

-- A law for each place where a function returns, and for what is lent on: several pieces.
use mathlib.Core.Path.{◌≡◌, ◌∙◌}
use Prim.Native.Nat.{ℕ}
use mathlib.Core.List.{List, []}
use Rattle.std.specs.Prelude.{Ok, Err}
use lib.ListN.{length}
use Rattle.answers.specs.Ask.{Trail, lookup, run, value}
use Rattle.rules.specs.Bytes.{Text}
use Rattle.rules.specs.Values.{Answer}
use Rattle.rules.specs.Unresolved.{Unresolved, blank, join_answer}
use Rattle.rules.specs.Documents.{Setting, rule_of}
use Rattle.theory.specs.SettledAnswers.{open_in}
use Rattle.text_chars.specs.Cursor.{refusal}
use Rattle.text_chars.specs.declared.DocAt.{DocAt}
use Rattle.eval_concat.specs.Answers.{AnswerIs, answer-is}
use Rattle.eval_concat.specs.declared.Join.{Join}
use Rattle.eval_results.specs.Sizes.Answers.{AnsweredIs}
use Rattle.eval_results.specs.declared.sizes.Answered.{Answered}
use Rattle.eval_concat.specs.Steps.Contracts.{Stepped, Good, RefusedWith}
use Rattle.eval_concat.specs.declared.steps.JoinStep.{JoinStep}
use Rattle.eval_question_laws.specs.Clauses.{Questioned}
use Rattle.eval_results.specs.Sizes.Outcomes.{OutcomeOfIs, outcome-within}
use Rattle.eval_unresolved.specs.Outcomes.{outcome-is}
use Rattle.eval_unresolved.specs.Parts.{OutcomeFor}
use Rattle.eval_unresolved.specs.Pieces.Contracts.{several_by, AllJoined, PiecesJoinedIs}
use Rattle.eval_question_laws.specs.Rules.{OnePiece, several-rule, rule-is, rule-distinct}
use Rattle.eval_results.specs.declared.sizes.Outcome.{Outcome}

-- ---- the outcome

module _ {T E : List ℕ} {base item : ℕ} {w w₁ B B₁ b : List ℕ} {s : Stepped} (h : PiecesJoinedIs T E base item w w₁ B B₁ b s) where
  module _ {x : Setting} {key : ℕ → Text} {items : ℕ} {S : Trail Answer} {c : ℕ} {u : Unresolved} (Q : Questioned x key items T B E S base item c u)
      (more : OnePiece u.pieces → ⊥) where
    rule : run (lookup S) (rule_of x c) ≡ several_by x (lookup S) u u.pieces (blank [])
    rule = rule-is Q ∙ several-rule (lookup S) x.document.root 65 x.environment (open_in (lookup S) u.openness) u.pieces more

  pub several-done : {j : Join} {a : List ℕ} {q : Answered} {r : Outcome} {v : JoinStep} → s ≡ Ok v → v ≡ JoinStep.So j → AnswerIs j b a q → OutcomeOfIs q r → length a ≡ length b
      → OutcomeFor (λ ps. OnePiece ps → ⊥) T E base item w w₁ B B₁ r a
  several-done {j} {a} {q} z v k o l = record {
    left = h.left;
    bytes = h.bytes;
    beside = h.beside;
    whole = l ∙ h.whole;
    within = outcome-within q o;
    is = λ x key items S c u Q more.
        let y = h.is x key items S c u Q in
        let d : AllJoined key items T b (several_by x (lookup S) u u.pieces (blank [])) j = rw (z, v) at y.1 in
        let answered : AnsweredIs key (Good T items) a (value (join_answer d.join)) q = answer-is (λ t. tt) j h.whole d.join d.stands k in
        let e : run (lookup S) (rule_of x c) ≡ value (join_answer d.join) = rule Q more ∙ d.is in
        (y.0, outcome-is items q (rw e answered) (rule-distinct Q) o);
  }

  pub several-needs : {v : JoinStep} {d : ℕ} → s ≡ Ok v → v ≡ JoinStep.Needs d → OutcomeFor (λ ps. OnePiece ps → ⊥) T E base item w w₁ B B₁ (Outcome.Needs d) b
  several-needs {v} {d} z e = record {
    left = h.left;
    bytes = h.bytes;
    beside = h.beside;
    whole = h.whole;
    within = tt;
    is = λ x key items S c u Q more. let y = h.is x key items S c u Q in (y.0, rule Q more ∙ (rw (z, e) at y.1));
  }

  pub several-refused : {number : ℕ} {place : DocAt} → s ≡ Err (refusal number place)
      → OutcomeFor (λ ps. OnePiece ps → ⊥) T E base item w w₁ B B₁ (Outcome.Refused number place) b
  several-refused {number} {place} z = record {
    left = h.left;
    bytes = h.bytes;
    beside = h.beside;
    whole = h.whole;
    within = tt;
    is = λ x key items S c u Q more.
        let y = h.is x key items S c u Q in
        let d : RefusedWith (several_by x (lookup S) u u.pieces (blank [])) number place.0 = rw z at y.1 in
        (y.0, record { refusal = d.refusal; is = rule Q more ∙ d.is; its-number = d.its-number; its-place = d.its-place });
  }

pub ruleset several-laws = (several-done, several-needs, several-refused)

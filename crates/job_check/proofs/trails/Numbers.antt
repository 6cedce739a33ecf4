-- Laws of checking the entry of a number.
use mathlib.Core.Path.{◌≡◌, refl, sym, ap, subst, ◌∙◌}
use Prim.Native.Nat.{ℕ, ◌+◌, ◌≤◌, ◌<◌}
use mathlib.Core.List.{List}
use mathlib.Core.Option.{Option, none, some}
use native.Mathlib.Omega.{arith}
use lib.ListN.{length, get_elem?}
use Rattle.std.specs.Prelude.{Option as Maybe, None}
use Rattle.answers.specs.Ask.{Trail, lookup, run}
use Rattle.rules.specs.Bytes.{Text}
use Rattle.rules.specs.Sizes.{max_unresolved}
use Rattle.rules.specs.Tree.{Pieces, no_pieces, node_piece, substituted}
use Rattle.rules.specs.Values.{Answer}
use Rattle.rules.specs.Settled.{Given}
use Rattle.rules.specs.Unresolved.{Unresolved}
use Rattle.rules.specs.Documents.{Setting, rule_of}
use Rattle.theory_text.specs.Choices.{get_elem-none}
use Rattle.theory.specs.DistinctAnswers.{laid-distinct}
use Rattle.theory.specs.Resolving.{laid-within}
use Rattle.theory_check.specs.Steps.{check-needs, check-refused}
use Rattle.text_chars.specs.declared.DocAt.{DocAt}
use Rattle.eval_results.specs.declared.extents.Extent.{Extent}
use Rattle.eval_frames.specs.Nodes.{PiecesBelow}
use Rattle.eval_frames.specs.Weights.{most_weight, root_below, pieces-below}
use Rattle.eval_state.specs.Index.{ItemIs}
use Rattle.eval_state.specs.State.{State}
use Rattle.eval_question_laws.specs.Clauses as question
use Rattle.eval_unresolved.specs.Clauses as outcome
use Rattle.eval_results.specs.Sizes.Outcomes.{OutcomeWithin}
use Rattle.eval_results.specs.declared.sizes.Outcome.{Outcome}
use Rattle.check_entries.specs.Clauses as entry
use Rattle.check_entries.specs.declared.Reached.{Reached}
use Rattle.job_check.specs.Trails.Contracts.{Known, TrailAsked, CaseAsked, CaseIs}

-- ---- the question that is asked

pieces-fit : (known : ℕ → Option Answer) (ps : Pieces) → PiecesBelow known most_weight ps → question.PiecesFit known 0 ps
pieces-fit known no_pieces f = tt
pieces-fit known (node_piece place gap n ps) f = (omega (arith, f.0), pieces-fit known ps f.1)
pieces-fit known (substituted gap x ps) f = pieces-fit known ps f

module _ {E T B trail text : List ℕ} {b : ℕ} {at : Reached} {x : Setting} {key : ℕ → Text} {items : ℕ} {S : Trail Answer}
    (K : Known x E) (R : entry.Right x key items T B trail text at S) (N : entry.Open x trail S b) {item : ℕ} (I : ItemIs T b item) where
  questioned : (u : Unresolved) → get_elem? x.document.unresolved b ≡ some u → question.Questioned x key items T B E S 0 item b u
  questioned u e = record {
    state = R.state;
    listed = e;
    at = I.is x key items B S R.state N.inside;
    read = K.read b u e;
    nested = K.nested;
    variables = K.variables;
    entered = K.entered;
    environment = K.environment;
    within = laid-within x R.state.document.read 0 0 S R.check.laid;
    distinct = λ c v e. laid-distinct x R.state.document.read 0 0 S R.check.laid c (some v) e;
    fits = record {
      tree = omega (arith, root_below R.state);
      pieces = pieces-fit (lookup S) u.pieces (pieces-below R.state b u e);
      pair = omega arith;
    };
  }

  -- what it comes to
  answered : {w w' B' after : List ℕ} {r : Outcome} → outcome.OutcomeIs T E 0 item w w' B B' r after
      → State x key items T B' S × outcome.OutcomeCase key items T after (run (lookup S) (rule_of x b)) r
  answered {w} {w'} {B'} {after} {r} O = go (get_elem? x.document.unresolved b) refl
    where
      go : (o : Option Unresolved) → get_elem? x.document.unresolved b ≡ o
          → State x key items T B' S × outcome.OutcomeCase key items T after (run (lookup S) (rule_of x b)) r
      go none e = absurd (omega (arith, N.inside, get_elem-none x.document.unresolved b e))
      go (some u) e = O.is x key items S b u (questioned u e)

-- with the bytes of the two objects that merge changed
again : {x : Setting} {key : ℕ → Text} {items : ℕ} {T B B' trail text : List ℕ} {at : Reached} {S : Trail Answer}
    → entry.Right x key items T B trail text at S → State x key items T B' S → entry.Right x key items T B' trail text at S
again R H = record { state = H; check = R.check; used = R.used; text-used = R.text-used }

-- ---- its outcomes

module _ {T B room : List ℕ} {o : Outcome} {b : ℕ} {at : Reached} {trail text : List ℕ} (A : CaseAsked T B room o b at trail text) where
  pub answer-asked : {e : Extent} → o ≡ Outcome.Done e → entry.AnswerAsked T B room e.out b at trail text
  answer-asked {e} q =
      let w : OutcomeWithin (Outcome.Done e) = subst OutcomeWithin q A.within in
      record {
        full = record { whole = A.whole; rec = w.0; text = w.1 };
        number = A.number;
        entry = A.entry;
        trail-short = A.trail-short;
        texts = A.texts;
        text-short = A.text-short;
        table = A.table;
        bytes = A.bytes;
      }

  pub undefined-asked : entry.UndefinedAsked T b at trail
  undefined-asked = record { number = A.number; entry = A.entry; short = A.trail-short; table = A.table }

  -- what was matched
  case-so : (key : ℕ → Text) (items : ℕ) (g : Given Answer) {q : Outcome} → o ≡ q → outcome.OutcomeCase key items T room g o → outcome.OutcomeCase key items T room g q
  case-so key items g e C = subst (λ (q : Outcome). outcome.OutcomeCase key items T room g q) e C

  pub case-done : {e : Extent} {T' B' : List ℕ} {r : Maybe Reached} → o ≡ Outcome.Done e → entry.AnswerIs room e.out b at trail text T T' B B' r
      → CaseIs room o b at trail text T T' B B' r
  case-done q P = record {
    is = λ x key items S R N C. let D = case-so key items (run (lookup S) (rule_of x b)) q C in P.is x key items S D.held R N D.is D.finished;
    further = P.further;
  }

  pub case-undefined : {T' : List ℕ} {r : Maybe Reached} → o ≡ Outcome.Undefined → entry.UndefinedIs b at trail T T' r → CaseIs room o b at trail text T T' B B r
  case-undefined q P = record {
    is = λ x key items S R N C. P.is x key items B text S R N (case-so key items (run (lookup S) (rule_of x b)) q C);
    further = P.further text A.texts;
  }

  pub case-needs : {d : ℕ} → o ≡ Outcome.Needs d → CaseIs room o b at trail text T T B B None
  case-needs {d} q = record {
    is = λ x key items S R N C table.
        check-needs R.check table (omega (arith, R.used, A.entry)) d
        (ap (λ (n : ℕ). run (lookup S) (rule_of x n)) (sym N.is) ∙ case-so key items (run (lookup S) (rule_of x b)) q C);
    further = tt;
  }

  pub case-refused : {n : ℕ} {p : DocAt} → o ≡ Outcome.Refused n p → CaseIs room o b at trail text T T B B None
  case-refused {n} {p} q = record {
    is = λ x key items S R N C table.
        let D = case-so key items (run (lookup S) (rule_of x b)) q C in
        check-refused R.check table (omega (arith, R.used, A.entry)) D.refusal (ap (λ (n : ℕ). run (lookup S) (rule_of x n)) (sym N.is) ∙ D.is);
    further = tt;
  }

pub ruleset cases = (answer-asked, undefined-asked, case-done, case-undefined, case-needs, case-refused)

-- ---- a number that has no answer yet

pub record NumberAsked (T B E w room : List ℕ) (b : ℕ) (at : Reached) (trail text : List ℕ) : Type 0 where
  pub lent : TrailAsked T B E w room b trail text
  pub number : b < max_unresolved
  pub entry : at.used.0 + 3 ≤ length trail
  pub texts : at.text.0 ≤ length text

pub record NumberIs (E : List ℕ) (b : ℕ) (at : Reached) (trail text T T' B B' : List ℕ) (r : Maybe Reached) : Type 0 where
  pub is : (x : Setting) (key : ℕ → Text) (items : ℕ) (S : Trail Answer) → Known x E → entry.Right x key items T B trail text at S → entry.Open x trail S b
      → entry.CheckedBy x key items T' B' trail text r
  pub further : entry.Further trail text at r

module _ {T B E w room : List ℕ} {b : ℕ} {at : Reached} {trail text : List ℕ} (A : NumberAsked T B E w room b at trail text) {item : ℕ} (I : ItemIs T b item) where
  pub outcome-asked : question.Asked B E w room 0 item
  outcome-asked =
      let L = A.lent in
      record {
        whole = L.whole;
        bytes = L.bytes;
        most = L.most;
        environment = L.environment;
        work = L.work;
        used = omega arith;
        low = I.low;
        high = I.high;
      }

  module _ {w' B₁ after : List ℕ} {o : Outcome} (O : outcome.OutcomeIs T E 0 item w w' B B₁ o after) where
    pub case-asked : CaseAsked T B₁ after o b at trail text
    case-asked =
        let L = A.lent in
        record {
          whole = O.whole;
          within = O.within;
          number = A.number;
          entry = A.entry;
          trail-short = L.trail-short;
          texts = A.texts;
          text-short = L.text-short;
          table = L.table;
          bytes = omega (arith, L.bytes, O.bytes);
        }

    pub number_is : {T' B' : List ℕ} {r : Maybe Reached} → CaseIs after o b at trail text T T' B₁ B' r → NumberIs E b at trail text T T' B B' r
    number_is P = record {
      is = λ x key items S K R N. let (H, C) = answered K R N I O in P.is x key items S (again R H) N C;
      further = P.further;
    }

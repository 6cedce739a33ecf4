-- Laws of the job: its inputs are read, then the sheet is held against the document.
use Rattle.std.specs.Prelude.{Result, Ok, Err}
use mathlib.Core.Path.{◌≡◌, sym, ◌∙◌, ap, subst}
use mathlib.Core.Bool.{Bool, true}
use mathlib.Core.List.{List}
use Prim.Native.Nat.{ℕ, ◌≤◌}
use native.Mathlib.Omega.{arith}
use lib.ListN.{length}
use Rattle.std.specs.Prelude.{Result, Err}
use Rattle.answers.specs.Theory.Sound.{clash}
use Rattle.rules.specs.Sizes.{max_room}
use Rattle.rules.specs.Refusals.{Refusal, number_of, place_of}
use Rattle.rules.specs.Documents.{Setting, valid, refused, inputs}
use Rattle.rules.specs.Jobs as J
use Rattle.rules.specs.Jobs.{verdict, check_job}
use Rattle.theory.specs.Heights.{setting-height}
use Rattle.theory.specs.JobRefusals.{Bounds, bad, good, bounds, lent-short}
use Rattle.theory.specs.ReadingEnds.{inputs_end}
use Rattle.text_chars.specs.declared.Refusal.{Refusal as Refused}
use Rattle.text_environment.specs.Answers.{accepted-is}
use Rattle.read_documents.specs.declared.Reading.{Reading}
use Rattle.read_laws.specs.Listing.{listed-as-read}
use Rattle.eval_writer.specs.Clauses.{Room}
use Rattle.eval_writer.specs.Copies.Contracts.{most_bytes}
use Rattle.eval_stack.specs.Model.{Work}
use Rattle.eval_state.specs.Memories.{job_table, job_bytes}
use Rattle.job_results.specs.Clauses.{CheckIs}
use Rattle.job_inputs.specs.Clauses.{Ready, TaskCase, TaskIs}
use Rattle.job_check.specs.Trails.Contracts.{Known, SheetAsked, SheetIs}
use Rattle.job_check.specs.Clauses.{parts_fit, PartsFit}

others-true : (others : Bool) (s e : List ℕ) (x : Setting) → inputs others s e ≡ valid x → others ≡ true
others-true others s e x h = go (bounds others s e)
  where
    go : Bounds others s e → others ≡ true
    go (bad z _) = clash (cc (h, z))
    go (good t _ _) = t

-- a refusal of the inputs is the job's
refused-so : (s e trail table text : List ℕ) (number place : ℕ) (x : Refusal) → inputs (parts_fit trail table text) s e ≡ refused x → number ≡ number_of x
    → place ≡ place_of x → J.refused_at s number place ≡ check_job s e trail table text
unfolding check_job verdict
refused-so s e trail table text number place x h n p = rw (check_job, h, verdict, n, p)

module _ {s e trail table text T B T₁ B₁ : List ℕ} {fit : Bool} {r : Result Reading Refused} (F : PartsFit trail table text fit)
    (K : TaskIs fit s e T B T₁ B₁ r) where
  abbrev case-so : {q : Result Reading Refused} → r ≡ q → TaskCase fit s e T₁ B₁ q
  case-so z = subst (λ (q : Result Reading Refused). TaskCase fit s e T₁ B₁ q) z K.is

  pub check-refused : {d : Refused} → r ≡ Err d → CheckIs s e trail table text (Err d)
  check-refused {d} z =
      let (x, h, n, p) = case-so z in
      record {
        is = refused-so s e trail table text d.number d.place.0 x (ap (λ (b : Bool). inputs b s e) (sym F.is) ∙ h) n p;
        refusal = λ q y.
            let k : d ≡ q = cc (y) in
            let m : d.number ≡ q.number = ap (λ (r : Refused). r.number) k in omega (arith, inputs_end fit s e x h, n, m);
      }

  module _ {v : Reading} (z : r ≡ Ok v) where
    abbrev x : Setting
    x = (case-so z).0

    ready : Ready fit s e T₁ B₁ v.items x
    ready = (case-so z).1

    short : (length trail ≤ max_room) × (length table ≤ max_room) × (length text ≤ max_room)
    short = lent-short s e trail table text (sym F.is ∙ others-true fit s e x ready.read)

    pub sheet-asked : (w room : List ℕ) → job_table ≤ length T → job_bytes ≤ length B → length B ≤ most_bytes → Work w → Room room
        → SheetAsked T₁ B₁ e w room v.unresolved trail text
    sheet-asked w room t b m k l =
        let u = ready.variables in
        record {
          lent = record {
            whole = l;
            table = omega (arith, K.kept_table);
            bytes = omega (arith, K.kept-bytes);
            most = omega (arith, K.kept-bytes);
            environment = (accepted-is e u.0 u.1).0;
            work = k;
            few = omega (arith, (case-so z).2, ready.state.document.read.at_most);
            trail-short = short.0;
            text-short = short.2;
          };
        }

    known : Known x e
    known = record {
      read = listed-as-read fit s e x ready.read;
      nested = setting-height fit s e x ready.read;
      variables = ready.variables.0;
      entered = ready.variables.1;
      environment = ready.variables.2;
    }

    pub check-is : {w : Result (Unit {0}) Refused} → SheetIs e v.unresolved trail table text T₁ B₁ w → CheckIs s e trail table text w
    unfolding check_job
    check-is {w} P =
        let h : inputs (parts_fit trail table text) s e ≡ valid x = ap (λ (b : Bool). inputs b s e) (sym F.is) ∙ ready.read in
        record { is = rw (check_job, h) (P.is x _ v.items known (case-so z).2 ready.state s); refusal = P.refusal }

pub ruleset checks = (check-refused, sheet-asked, check-is)

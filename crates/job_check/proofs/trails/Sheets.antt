-- Laws of a sheet that is held against a document in memory.
use mathlib.Core.Path.{◌≡◌, sym, ap, ◌∙◌, subst}
use mathlib.Core.Bool.{Bool, true, false}
use mathlib.Core.List.{List}
use Prim.Native.Nat.{ℕ, ◌≤◌}
use native.Mathlib.Omega.{arith}
use Rattle.std.specs.Prelude.{Option as Maybe, Some, None, Result, Ok, Err}
use Rattle.answers.specs.Theory.Sound.{clash}
use Rattle.rules.specs.Documents.{Setting, valid}
use Rattle.rules.specs.Jobs.{verdict}
use Rattle.rules.specs.Checking.{accepted}
use Rattle.text_chars.specs.declared.Refusal.{Refusal}
use Rattle.text_chars.specs.Cursor.{doc, refusal}
use Rattle.check_entries.specs.declared.Reached.{Reached}
use Rattle.job_results.specs.Answers.{verdict_of}
use Rattle.job_root.specs.Clauses.{CheckRootAsked, CheckRootIs}
use Rattle.job_check.specs.Trails.Contracts.{TrailAsked, TrailIs, SheetAsked, SheetIs}

-- ---- verdicts

accepted-so : (x : Setting) (trail table text : List ℕ) → accepted x trail table text ≡ true
    → (s : List ℕ) → verdict_of s (Ok tt) ≡ verdict s trail table text (valid x)
unfolding verdict
accepted-so x trail table text e s = rw (verdict, e)

abbrev pub not_accepted : Result (Unit {0}) Refusal
not_accepted = Err (refusal 17 (doc 0))

wrong-so : (x : Setting) (trail table text : List ℕ) → accepted x trail table text ≡ false
    → (s : List ℕ) → verdict_of s not_accepted ≡ verdict s trail table text (valid x)
unfolding verdict
wrong-so x trail table text e s = rw (verdict, e)

not-accepted-is : (x : Refusal) → not_accepted ≡ Err x → 1 ≤ x.number
not-accepted-is x e =
    let k : refusal 17 (doc 0) ≡ x = cc (e) in
    let n : 17 ≡ x.number = ap (λ (y : Refusal). y.number) k in omega arith

-- ---- the sheet

pub trail-asked : {T B E w room : List ℕ} {count : ℕ} {trail text : List ℕ} → SheetAsked T B E w room count trail text
    → TrailAsked T B E w room count trail text
trail-asked A = A.lent

module _ {E : List ℕ} {count : ℕ} {trail text T T₁ B B₁ w room : List ℕ} {r : Maybe Reached} (M : TrailIs E count trail text T T₁ B B₁ w room r) where
  trail-so : {q : Maybe Reached} → r ≡ q → TrailIs E count trail text T T₁ B B₁ w room q
  trail-so e = subst (λ (q : Maybe Reached). TrailIs E count trail text T T₁ B B₁ w room q) e M

  pub sheet-wrong : (table : List ℕ) → r ≡ None → SheetIs E count trail table text T B not_accepted
  sheet-wrong table e = record {
    is = λ x key items K c H. wrong-so x trail table text ((trail-so e).is x key items K c H table);
    refusal = not-accepted-is;
  }

  module _ {at : Reached} (e : r ≡ Some at) where
    pub root-asked : CheckRootAsked B₁ w room at.text.0 text
    root-asked =
        let P = (trail-so e).behind in
        let L = P.lent in
        record { whole = L.whole; bytes = L.bytes; most = L.most; work = L.work; inside = P.texts; short = L.text-short }

    module _ {table : List ℕ} {b : Bool} (R : CheckRootIs T₁ B₁ at.text.0 table text b) where
      pub sheet-right : b ≡ true → SheetIs E count trail table text T B (Ok tt)
      sheet-right t = record {
        is = λ x key items K c H.
            let (S, P, full) = (trail-so e).is x key items K c H in
            accepted-so x trail table text (sym (R.is x key items trail S P.state P.check full P.text-used K.nested) ∙ t);
        refusal = λ x z. clash (cc (z));
      }

      pub sheet-other : b ≡ false → SheetIs E count trail table text T B not_accepted
      sheet-other t = record {
        is = λ x key items K c H.
            let (S, P, full) = (trail-so e).is x key items K c H in
            wrong-so x trail table text (sym (R.is x key items trail S P.state P.check full P.text-used K.nested) ∙ t);
        refusal = not-accepted-is;
      }

pub ruleset sheets = (trail-asked, sheet-wrong, root-asked, sheet-right, sheet-other)

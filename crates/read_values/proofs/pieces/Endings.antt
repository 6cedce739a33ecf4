-- One law for each answer at a value's end.
use Rattle.std.specs.Prelude.{Ok, Err}
use mathlib.Core.Path.{◌≡◌, refl, sym, ◌∙◌}
use mathlib.Core.Bool.{Bool, true, false}
use mathlib.Core.List.{List}
use mathlib.Core.Logic.{inl, inr}
use Prim.Native.Nat.{ℕ, ◌-◌}
use Rattle.answers.specs.Theory.Sound.{clash}
use Rattle.text_chars.specs.Cursor.{refusal}
use Rattle.text_chars.specs.declared.DocAt.{DocAt}
use Rattle.text_chars.specs.declared.Cursor.{Cursor}
use Rattle.read_grammar.specs.Decisions.{NotAllowedIs}
use Rattle.read_values.specs.Runs.{Judged, JudgeIs}
use Rattle.read_values.specs.declared.Run.{Run}
use Rattle.read_values.specs.declared.Outcome.{Outcome}
use Rattle.read_values.specs.Pieces.Pieces.{FinishIs}

module _ {s : List ℕ} {run : Run} {items start used : ℕ} {r : Outcome} (h : JudgeIs run r) where
  pub finish-nothing : {k : ℕ} {p : DocAt} → r ≡ Outcome.Nothing → NotAllowedIs s p.0 k
      → FinishIs s p.0 run items start used (Err (refusal k p))
  finish-nothing e a = record { is = λ ps o. let t : Judged ps Outcome.Nothing = rw e at (h.is ps o) in inl (t, a.number, a.place) }

  pub finish-mixed : {at : ℕ} {p : DocAt} → r ≡ Outcome.Mixed p → FinishIs s at run items start used (Err (refusal 11 p))
  finish-mixed {at} {p} e = record {
    is = λ ps o. let t : Judged ps (Outcome.Mixed p) = rw e at (h.is ps o) in inr (refl, t at items);
  }

  module _ {c : Cursor} {k : ℕ} {b : Bool} (e : r ≡ Outcome.Value k b) where
    pub finish-simple : b ≡ true → FinishIs s c.at.0 run items start used (Ok (record { next = c; items = items; kind = k; text = record { 0 = start }; size = record { 0 = used - start } }))
    finish-simple f = record {
      is = λ ps o.
          let t : Judged ps (Outcome.Value k b) = rw e at (h.is ps o) in
          (refl, refl, (b, t.0, t.1, t.2 c.at.0 items, λ z. (refl, refl), λ z. clash (cc (sym f ∙ z))));
    }

    pub finish-other : b ≡ false → FinishIs s c.at.0 run items start used (Ok (record { next = c; items = items; kind = k; text = record { 0 = 0 }; size = record { 0 = 0 } }))
    finish-other f = record {
      is = λ ps o.
          let t : Judged ps (Outcome.Value k b) = rw e at (h.is ps o) in
          (refl, refl, (b, t.0, t.1, t.2 c.at.0 items, λ z. clash (cc (sym f ∙ z)), λ z. (refl, refl)));
    }

pub ruleset finishes = (finish-nothing, finish-mixed, finish-simple, finish-other)

-- One law for each answer of the reader of one piece more.
use Rattle.std.specs.Prelude.{Result, Ok, Err, Some, None}
use Rattle.std.specs.declared.option.Option.{Option}
use mathlib.Core.Path.{◌≡◌, refl, ap, ◌∙◌}
use Prim.Native.Nat.{ℕ, ◌+◌, ◌-◌, ◌≤◌, ◌<◌}
use mathlib.Core.List.{List}
use native.Mathlib.Omega.{arith}
use lib.ListN.{length}
use Rattle.text_chars.specs.declared.Refusal.{Refusal}
use Rattle.text_chars.specs.Parts.{part, back, part_length, back-length}
use Rattle.read_values.specs.declared.Run.{Run}
use Rattle.read_values.specs.Pieces.Pieces.{AddPieceIs}
use Rattle.read_steps.specs.Steps.{PutPieceIs, Placeable, FinishPieceAsked, Placed, FinishPieceIs}
use Rattle.read_values.specs.declared.pieces.PieceItem.{PieceItem}
use Rattle.read_values.specs.declared.pieces.ValueStep.{ValueStep}
use Rattle.read_cycle.specs.Clauses.{PieceAsked, FoundIs, Pieced, PieceIs, StepAsked, Stepped, StepIs}
use Rattle.read_cycle.specs.Measures.{need}
use Rattle.read_cycle.proofs.Stepping.{more-read}

module _ {s : List ℕ} {at from used : ℕ} {run : Run} {left items : ℕ} {x t : List ℕ} (a : StepAsked s at from used run left items x t) where
  pub step-table : 8 ≤ length x
  step-table = omega (arith, a.table-room, a.few)

  pub step-text : at - from ≤ length t
  step-text = omega (arith, a.text-room, a.before, a.inside, a.forward)

  pub step-asks : PieceAsked s at (used + (at - from)) left items (part 8 x) (part (at - from) t)
  step-asks = record {
    short = a.short;
    inside = a.inside;
    nested = a.nested;
    few = a.few;
    before = omega (arith, a.before, a.forward);
    table-room = omega (arith, a.table-room, step-table, part_length 8 x);
    text-room = omega (arith, a.text-room, step-text, part_length (at - from) t);
  }

  module _ {y z : List ℕ} {r : Result (Option PieceItem) Refusal} (m : PieceIs s at (used + (at - from)) left items (part 8 x) (part (at - from) t) y z r) where
    kept_table : length (back 8 x y) ≡ length x
    kept_table = back-length 8 x y step-table m.kept_table

    kept-text : length (back (at - from) t z) ≡ length t
    kept-text = back-length (at - from) t z step-text m.kept-text

    pub step-placed : FinishPieceAsked s at from used run items r (back 8 x y) (back (at - from) t z)
    step-placed = record { is = go r refl }
      where
        go : (q : Result (Option PieceItem) Refusal) → r ≡ q → Placeable s at from used run items (back 8 x y) (back (at - from) t z) q
        go (Ok None) e = tt
        go (Err d) e = tt
        go (Ok (Some f)) e =
            let found : FoundIs s at (used + (at - from)) left items y z f = rw e at m.is in (
              record {
                short = a.short;
                inside = a.inside;
                forward = a.forward;
                more = omega (arith, found.reached.more);
                few = found.reached.few;
                kind = found.small;
                key = omega (arith, a.before, a.forward, a.short, found.reached.forward, found.reached.inside);
                at = found.at-fits;
                size = found.size_fits;
                number = found.number_fits;
                table-room = omega (arith, step-table, kept_table);
                text-room = omega (arith, step-text, kept-text);
              },
              record {
                few = omega (arith, a.counted, a.few);
                end = omega (arith, found.reached.inside, a.short);
                at = found.at-fits;
                size = found.size_fits;
              },
            )

    module _ {x' t' : List ℕ} {v : Result (Option ValueStep) Refusal} (q : FinishPieceIs s at from used run items r (back 8 x y) (back (at - from) t z) x' t' v) where
      found-more : (f : PieceItem) → FoundIs s at (used + (at - from)) left items y z f → PutPieceIs s at from used items f (back 8 x y) (back (at - from) t z) x' t'
          → (w : ValueStep) → AddPieceIs run at f w → Stepped s at from used run left items x' t' (Ok (Some w))
      found-more f found p w n = rw (n.next, n.items) (more-read a found m.kept_table m.kept-text p n.run-is n.simple n.other)

      go : (b : Result (Option PieceItem) Refusal) → r ≡ b → StepIs s at from used run left items x t x' t' v
      go (Ok None) e =
          let u : Pieced s at (used + (at - from)) left items y z (Ok None) = rw e at m.is in
          let w : Placed s at from used run items (back 8 x y) (back (at - from) t z) x' t' v (Ok None) = rw e at q.is in
          record { is = rw w.0 u; kept_table = ap length w.1 ∙ kept_table; kept-text = ap length w.2 ∙ kept-text }
      go (Err d) e =
          let u : Pieced s at (used + (at - from)) left items y z (Err d) = rw e at m.is in
          let w : Placed s at from used run items (back 8 x y) (back (at - from) t z) x' t' v (Err d) = rw e at q.is in
          record { is = rw w.0 u; kept_table = ap length w.1 ∙ kept_table; kept-text = ap length w.2 ∙ kept-text }
      go (Ok (Some f)) e =
          let found : FoundIs s at (used + (at - from)) left items y z f = rw e at m.is in
          let w : Placed s at from used run items (back 8 x y) (back (at - from) t z) x' t' v (Ok (Some f)) = rw e at q.is in
          record {
            is = rw w.1.1 (found-more f found w.0 w.1.0 w.1.2);
            kept_table = w.0.item.kept ∙ kept_table;
            kept-text = w.0.gap.kept ∙ kept-text;
          }

      pub step-done : StepIs s at from used run left items x t x' t' v
      step-done = go r refl

pub step_falls : (s : List ℕ) (at t : ℕ) → need 2 s at ≡ t → need 1 s at < t
step_falls s at t e = omega arith

pub ruleset a-step = (step-table, step-text, step-asks, step-placed, step-done, step_falls)

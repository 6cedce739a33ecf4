-- One law for each answer of positions, and for the walk to a place.
use mathlib.Core.Path.{◌≡◌, sym, ap, subst, ◌∙◌}
use mathlib.Core.List.{List}
use Prim.Native.Nat.{ℕ, ◌+◌, ◌-◌, ◌≤◌, ◌<◌, min}
use native.Mathlib.Omega.{arith}
use lib.ListN.{length}
use borrow.Author.Tests.{lt-ltb, le-ltb, eq-eqb, ne_eqb}
use Rattle.std.specs.Prelude.{Option, Some, None}
use Rattle.rules.specs.Sizes.{max_document}
use Rattle.rules.specs.Characters.{character_at, next_place}
use Rattle.rules.specs.Positions.{line_at, column_at, line_behind, column_behind}
use Rattle.theory_text.specs.Places.{next-forward}
use Rattle.theory_text.specs.Positions.{Walked, walk_start, walk_more, walk-line, walk-column, line-at-end, column-at-end}
use Rattle.text_chars.specs.Cursor.{cur, step_at, StepMoved, StepIs}
use Rattle.text_chars.specs.Seen.{at-end}
use Rattle.text_chars.specs.Positions.{StartIs, PositionAsked, position_past, PositionStepIs, EndIs, PositionIs}
use Rattle.text_chars.specs.declared.Step.{Step}
use Rattle.text_chars.specs.declared.Position.{Position}

-- ---- a step

module _ {s : List ℕ} (p : Position) {r : Option Step} (h : StepIs s p.cursor.at.0 r) where
  abbrev at : ℕ
  at = p.cursor.at.0

  module _ {t : Step} (e : r ≡ Some t) where
    parts : (at < length s) × (t.ch ≡ character_at s at) × (t.next ≡ cur (next_place s at))
    unfolding step_at
    parts =
        let m : StepMoved (length s) at (Some t) = rw e at h.moved in
        let here : Step = record { ch = character_at s at; next = cur (next_place s at) } in
        let q : step_at s at ≡ Some here = rw (lt-ltb at (length s) m.0, step_at) in
        let k = h.is in
        let d : t ≡ here = cc in
        (m.0, ap (λ (x : Step). x.ch) d, ap (λ (x : Step). x.next) d)

    past : (line column : ℕ) → line ≡ line_behind t.ch p.line → column ≡ column_behind t.ch p.column
        → PositionStepIs s p (record { cursor = t.next; line = line; column = column })
    unfolding position_past
    past line column l k =
        let (i, j, d) = parts in
        record { is = rw (lt-ltb at (length s) i, position_past, d, ← j, l, k) }

    pub step-newline : t.ch ≡ 10 → PositionStepIs s p (record { cursor = t.next; line = p.line + 1; column = 1 })
    unfolding line_behind column_behind
    step-newline n = past (p.line + 1) 1 (rw (eq-eqb t.ch 10 n, line_behind)) (rw (eq-eqb t.ch 10 n, column_behind))

    pub step-same-line : (t.ch ≡ 10 → ⊥) → PositionStepIs s p (record { cursor = t.next; line = p.line; column = p.column + 1 })
    unfolding line_behind column_behind
    step-same-line n = past p.line (p.column + 1) (rw (ne_eqb t.ch 10 n, line_behind)) (rw (ne_eqb t.ch 10 n, column_behind))

  pub step_stays : r ≡ None → PositionStepIs s p p
  unfolding position_past
  step_stays e = record { is = rw (le-ltb p.cursor.at.0 (length s) (at-end h e), position_past) }

pub ruleset position-steps = (step-newline, step-same-line, step_stays)

-- ---- the walk to a place, or to the end where that comes before it

-- what the loop keeps
pub record Walking (s : List ℕ) (end : ℕ) (p : Position) : Type 0 where
  pub walked : Walked s end p.cursor.at.0 p.line p.column
  pub within : end ≤ length s

module _ {s : List ℕ} {place end : ℕ} (E : EndIs s place end) where
  pub walking_start : {p : Position} → StartIs p → Walking s end p
  walking_start {p} h =
      subst (λ (q : Position). Walking s end q) (sym h.is) (record { walked = walk_start s end; within = omega (arith, E.is) })

  pub walking-done : {p : Position} → Walking s end p → end ≤ p.cursor.at.0 → PositionIs s place p
  walking-done {p} w h =
      let l : min end (length s) ≤ p.cursor.at.0 = omega arith in
      record {
        line = walk-line w.walked l ∙ ap (line_at s) E.is ∙ line-at-end s place;
        column = walk-column w.walked l ∙ ap (column_at s) E.is ∙ column-at-end s place;
      }

module _ {s : List ℕ} {end : ℕ} (p : Position) (w : Walking s end p) (h : p.cursor.at.0 < end) where
  pub walking-asked : length s ≤ max_document → PositionAsked s p
  walking-asked l = record {
    short = l;
    low = omega (arith, w.within, w.walked.low);
    left = omega (arith, w.within, w.walked.left);
  }

  module _ {q : Position} (k : PositionStepIs s p q) where
    inner : p.cursor.at.0 < length s
    inner = omega (arith, w.within)

    stepped : q ≡ record {
      cursor = cur (next_place s p.cursor.at.0);
      line = line_behind (character_at s p.cursor.at.0) p.line;
      column = column_behind (character_at s p.cursor.at.0) p.column;
    }
    unfolding position_past
    stepped = k.is ∙ rw (lt-ltb p.cursor.at.0 (length s) inner, position_past)

    pub walking-more : Walking s end q
    walking-more =
        subst (λ (q : Position). Walking s end q) (sym stepped)
        (record { walked = walk_more w.walked (omega (arith, w.within)); within = w.within })

    pub walking-less : end - q.cursor.at.0 < end - p.cursor.at.0
    walking-less =
        let e : q.cursor.at.0 ≡ next_place s p.cursor.at.0 = ap (λ (q : Position). q.cursor.at.0) stepped in
        omega (arith, e, h, next-forward s p.cursor.at.0 inner)

pub ruleset walks = (walking_start, walking-done, walking-asked, walking-more, walking-less)

-- A law for each place where a function returns, and for what is lent on: one piece, and either.
use mathlib.Core.Path.{◌≡◌, refl, ◌∙◌}
use Prim.Native.Nat.{ℕ, ◌+◌}
use mathlib.Core.Bool.{Bool, true, false}
use mathlib.Core.List.{List}
use Rattle.std.specs.Prelude.{Ok, Err}
use native.Mathlib.Omega.{arith}
use lib.ListN.{length}
use Rattle.text_chars.specs.Cursor.{refusal}
use Rattle.text_chars.specs.declared.DocAt.{DocAt}
use Rattle.eval_results.specs.declared.extents.Extent.{Extent}
use Rattle.eval_results.specs.declared.values.Worked.{Worked}
use Rattle.eval_groups.specs.Select.Levels.{same-below}
use Rattle.eval_results.specs.Sizes.Contracts.{sized_c}
use Rattle.eval_results.specs.Sizes.Outcomes.{OutcomeOfIs, outcome-within}
use Rattle.eval_results.specs.declared.sizes.Answered.{Answered}
use Rattle.eval_results.specs.declared.sizes.Outcome.{Outcome}
use Rattle.eval_value_laws.specs.Clauses.{Left}
use Rattle.eval_value_laws.specs.Frames.{left-then}
use Rattle.eval_pieces.specs.Clauses.{Lent, PieceIs}
use Rattle.eval_pieces.specs.declared.Piece.{Piece}
use Rattle.eval_pieces.specs.Cursor.Contracts.{SoleIs}
use Rattle.eval_unresolved.specs.Single.Contracts.{PieceAsked, PieceValue, PieceValueIs}
use Rattle.eval_question_laws.specs.Clauses.{Asked}
use Rattle.eval_unresolved.specs.Clauses.{OutcomeIs}
use Rattle.eval_unresolved.specs.Parts.{OutcomeFor, SoleAsked}
use Rattle.eval_question_laws.specs.Rules.{OnePiece}
use Rattle.eval_unresolved.specs.Sole.{sole-yes, sole-no, sole-done, sole-undefined, sole-needs, sole-missing}

-- ---- one piece

module _ {B E w b : List ℕ} {base item : ℕ} (A : SoleAsked B E w b base item) where
  pub sole-lent : Lent B E w base item (item + 1)
  sole-lent =
      let a = A.asked in
      record {
        bytes = a.bytes;
        environment = a.environment;
        work = a.work;
        used = a.used;
        low = a.low;
        high = a.high;
        piece = A.piece;
      }

  module _ {T : List ℕ} {w₁ : List ℕ} {piece : Piece} (h : PieceIs T B E base item (item + 1) w w₁ piece) where
    pub sole-asked : PieceAsked B E w₁ base b piece
    sole-asked =
        let a = A.asked in
        record {
          value = record { whole = a.whole; bytes = a.bytes; most = a.most; work = omega (arith, a.work, h.len); used = a.used };
          environment = a.environment;
          inside = h.inside;
        }

    module _ {w₂ a : List ℕ} {v : PieceValue} (k : PieceValueIs T B E base piece w₁ w₂ v b a) (l : length a ≡ length b) where
      left : Left base w w₂
      left = left-then (record { below = same-below base w w₁ h.same; len = h.len }) k.left

      pub sole-value : {s : Worked} {e : Extent} {q : Answered} {r : Outcome} → v ≡ Ok s → s ≡ Worked.Done e → q ≡ sized_c e → OutcomeOfIs q r
          → OutcomeFor OnePiece T E base item w w₂ B B r a
      sole-value {s} {e} z d y o =
          let p = rw y at o in
          record {
            left = left;
            bytes = refl;
            beside = λ j d m. refl;
            whole = l ∙ A.asked.whole;
            within = outcome-within (sized_c e) p;
            is = λ x key items S b u Q one. (Q.state, sole-done Q one h k A.asked.whole z d p);
          }

      pub sole_none : {s : Worked} → v ≡ Ok s → s ≡ Worked.Undefined → OutcomeFor OnePiece T E base item w w₂ B B Outcome.Undefined a
      sole_none z e = record {
        left = left;
        bytes = refl;
        beside = λ j d m. refl;
        whole = l ∙ A.asked.whole;
        within = tt;
        is = λ x key items S b u Q one. (Q.state, sole-undefined Q one h k z e);
      }

      pub sole-asks : {s : Worked} {d : ℕ} → v ≡ Ok s → s ≡ Worked.Needs d → OutcomeFor OnePiece T E base item w w₂ B B (Outcome.Needs d) a
      sole-asks z e = record {
        left = left;
        bytes = refl;
        beside = λ j d m. refl;
        whole = l ∙ A.asked.whole;
        within = tt;
        is = λ x key items S b u Q one. (Q.state, sole-needs Q one h k z e);
      }

      pub sole-refused : {number : ℕ} {place : DocAt} → v ≡ Err (refusal number place) → OutcomeFor OnePiece T E base item w w₂ B B (Outcome.Refused number place) a
      sole-refused z = record {
        left = left;
        bytes = refl;
        beside = λ j d m. refl;
        whole = l ∙ A.asked.whole;
        within = tt;
        is = λ x key items S b u Q one. (Q.state, sole-missing Q one h k z);
      }

pub ruleset sole-laws = (sole-lent, sole-asked, sole-value, sole_none, sole-asks, sole-refused)

-- ---- either

module _ {B E w b : List ℕ} {base item : ℕ} (A : Asked B E w b base item) {T : List ℕ} {f : Bool} (s : SoleIs T item f) where
  pub either-asked : f ≡ true → SoleAsked B E w b base item
  either-asked z = record { asked = A; piece = omega (arith, (s.yes z).some) }

  module _ {w' B' a : List ℕ} {r : Outcome} where
    pub either-one : f ≡ true → OutcomeFor OnePiece T E base item w w' B B' r a → OutcomeIs T E base item w w' B B' r a
    either-one z o = record {
      left = o.left;
      bytes = o.bytes;
      beside = o.beside;
      whole = o.whole;
      within = o.within;
      is = λ x key items S b u Q. o.is x key items S b u Q (sole-yes Q (s.yes z));
    }

    pub either-several : f ≡ false → OutcomeFor (λ ps. OnePiece ps → ⊥) T E base item w w' B B' r a → OutcomeIs T E base item w w' B B' r a
    either-several z o = record {
      left = o.left;
      bytes = o.bytes;
      beside = o.beside;
      whole = o.whole;
      within = o.within;
      is = λ x key items S b u Q. o.is x key items S b u Q (sole-no Q (s.no z));
    }

pub ruleset either-laws = (either-asked, either-one, either-several)

-- A law for each place where a function returns, and for what is lent on: several pieces.
use Prim.Native.Nat.{ℕ, ◌+◌, ◌-◌, ◌≤◌, ◌<◌}
use mathlib.Core.List.{List}
use native.Mathlib.Omega.{arith}
use lib.ListN.{length}
use Rattle.doc_items.specs.Room.{capacity}
use Rattle.eval_concat.specs.Model.{blank_join}
use Rattle.eval_concat.specs.declared.Join.{Join}
use Rattle.eval_concat.specs.Steps.Contracts.{JoinAsked}
use Rattle.eval_pieces.specs.Clauses.{Lent, Inside, PieceIs}
use Rattle.eval_pieces.specs.declared.Piece.{Piece}
use Rattle.eval_pieces.specs.Cursor.Contracts.{EndIs, NextIs}
use Rattle.eval_question_laws.specs.Clauses.{Asked}
use Rattle.eval_unresolved.specs.Pieces.Contracts.{NextAsked}
use Rattle.eval_unresolved.specs.Pieces.Several.{next-is, steady-more, LoopInv, loop-starts, loop-ends, loop-needs, loop-refused, loop-goes}

-- ---- one piece more

module _ {B E w b : List ℕ} {base item i : ℕ} {j : Join} (A : NextAsked B E w b base item i j) where
  pub next-lent : Lent B E w base item i
  next-lent =
      let a = A.asked in
      record {
        bytes = a.bytes;
        environment = a.environment;
        work = a.work;
        used = a.used;
        low = a.low;
        high = a.high;
        piece = A.piece;
      }

  pub next-asked : {T w₁ : List ℕ} {piece : Piece} → PieceIs T B E base item i w w₁ piece → JoinAsked B w₁ b base i j
  next-asked h =
      let a = A.asked in
      record {
        whole = a.whole;
        bytes = a.bytes;
        most = a.most;
        work = omega (arith, a.work, h.len);
        used = a.used;
        item = A.piece;
        steady = A.steady;
      }

pub next-inside : {T B E : List ℕ} {base item i : ℕ} {w w₁ : List ℕ} {piece : Piece} → PieceIs T B E base item i w w₁ piece
    → Inside base (length E) piece
next-inside h = h.inside

pub ruleset next-laws = (next-lent, next-asked, next-is)

-- ---- the loop

module _ {B E w b : List ℕ} {base item : ℕ} (A : Asked B E w b base item) where
  pub loop-first : {T : List ℕ} → LoopInv T E base item B w (item + 1) (blank_join 0) B w b
  loop-first = loop-starts A.whole

  pub loop-asked : {T B₁ w₁ b₁ : List ℕ} {i end : ℕ} {j : Join} → LoopInv T E base item B w i j B₁ w₁ b₁ → EndIs T item end → i < end
      → NextAsked B₁ E w₁ b₁ base item i j
  loop-asked I e l = record {
    asked = record {
      whole = I.whole;
      bytes = omega (arith, A.bytes, I.bytes);
      most = omega (arith, A.most, I.bytes);
      environment = A.environment;
      work = omega (arith, A.work, I.left.len);
      used = A.used;
      low = A.low;
      high = A.high;
    };
    piece = omega (arith, e.is);
    steady = steady-more (omega (arith, e.is)) (omega (arith, e.is)) I.steady;
  }

pub end-upto : {T : List ℕ} {item end : ℕ} → EndIs T item end → end ≤ capacity
end-upto e = omega (arith, e.is)

pub loop-less : {T : List ℕ} {i end next : ℕ} → NextIs T i end next → i < end → end - next < end - i
loop-less n l = omega (arith, n.more, n.upto)

pub ruleset loop-laws = (loop-first, loop-asked, end-upto, loop-less, loop-ends, loop-needs, loop-refused, loop-goes)

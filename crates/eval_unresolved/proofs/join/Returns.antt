-- A law for each place where the function returns.
use mathlib.Core.Path.{◌≡◌, refl, sym, ◌∙◌}
use Prim.Native.Nat.{ℕ, ◌+◌, ◌-◌, ◌^◌, ◌≤◌, ◌<◌}
use mathlib.Core.List.{List}
use Rattle.std.specs.Prelude.{Ok, Err}
use mathlib.Core.Option.{Option, none, some}
use native.Mathlib.Omega.{arith}
use lib.ListN.{length, take, drop}
use lib.Seq.{slice}
use Rattle.answers.specs.Ask.{lookup, value, missing, refused}
use Rattle.answers.specs.Theory.Sound.{clash}
use Rattle.rules.specs.Pieces.{scalar_text}
use Rattle.rules.specs.Refusals.{placed}
use Rattle.rules.specs.Tree.{string}
use Rattle.rules.specs.Values.{Answer, scalar}
use Rattle.rules.specs.Settled.{Given}
use Rattle.text_chars.specs.Parts.{part_slice}
use Rattle.text_chars.specs.Cursor.{refusal}
use Rattle.text_chars.specs.declared.DocAt.{DocAt}
use Rattle.text_chars.specs.declared.EnvAt.{EnvAt}
use Rattle.text_chars.specs.declared.EnvLen.{EnvLen}
use Rattle.eval_stack.specs.Model.{entries}
use Rattle.eval_memory.specs.Finished.{Memory}
use Rattle.eval_concat.specs.Clauses.{TextJoinedIs, NothingIs}
use Rattle.eval_concat.specs.declared.Join.{Join}
use Rattle.eval_concat.specs.Model.{Joined}
use Rattle.eval_state.specs.Memories.{answers_of}
use Rattle.eval_pieces.specs.Clauses.{MergedOf, PieceCase, Inside}
use Rattle.eval_pieces.specs.declared.Piece.{Piece}
use Rattle.eval_concat.specs.Steps.Contracts.{Stepped, StepOfIs, JoinAsked, JoinStepIs}
use Rattle.eval_concat.specs.declared.steps.JoinStep.{JoinStep}
use Rattle.eval_concat_arrays.specs.Clauses.{OneJoinedIs}
use Rattle.eval_concat_arrays.specs.Steps.{gap-asked, undefined-step, missing-step, refused-step, scalar-step, text-grows, nothing-grows}

-- ---- what is lent

module _ (base len : ℕ) {piece : Piece} (I : Inside base len piece) where
  pub text-inside : {start : EnvAt} {size : EnvLen} → piece ≡ Piece.Text start size → start.0 + size.0 ≤ len
  text-inside {start} {size} z = let i : Inside base len (Piece.Text start size) = rw z at I in i

  pub text-fits : {start : EnvAt} {size : EnvLen} → piece ≡ Piece.Text start size → len < 2 ^ 64 → start.0 + size.0 < 2 ^ 64
  text-fits z l = omega (arith, text-inside z)

  pub one-low : {top c : ℕ} → piece ≡ Piece.One top c → base ≤ top
  one-low {top} {c} z = let i : Inside base len (Piece.One top c) = rw z at I in i.0

  pub one-high : {top c : ℕ} → piece ≡ Piece.One top c → top ≤ entries
  one-high {top} {c} z = let i : Inside base len (Piece.One top c) = rw z at I in i.1

  pub merged-low : {lo hi : ℕ} → piece ≡ Piece.Merged lo hi → base ≤ lo
  merged-low {lo} {hi} z = let i : Inside base len (Piece.Merged lo hi) = rw z at I in i.0

  pub merged-upto : {lo hi : ℕ} → piece ≡ Piece.Merged lo hi → lo ≤ hi
  merged-upto {lo} {hi} z = let i : Inside base len (Piece.Merged lo hi) = rw z at I in i.1

  pub merged-high : {lo hi : ℕ} → piece ≡ Piece.Merged lo hi → hi ≤ entries
  merged-high {lo} {hi} z = let i : Inside base len (Piece.Merged lo hi) = rw z at I in i.2

pub ruleset lending = (gap-asked, text-inside, text-fits, one-low, one-high, merged-low, merged-upto, merged-high)

-- ---- what it comes to

-- the same of another case
recase : {T : List ℕ} {base i : ℕ} {j : Join} {One Other : Memory → (ℕ → Option Answer) → Given Answer → Type 0} {w w' B B' b a : List ℕ} {r : Stepped}
    → ((M : Memory) (known : ℕ → Option Answer) (g : Given Answer) → Other M known g → One M known g)
    → JoinStepIs T base i j One w w' B B' b a r → JoinStepIs T base i j Other w w' B B' b a r
recase f s = record {
  left = s.left;
  bytes = s.bytes;
  beside = s.beside;
  whole = s.whole;
  grows = s.grows;
  is = λ x key items S place gap J g G C. s.is x key items S place gap J g G (f _ _ g C);
}

module _ (E : List ℕ) {T : List ℕ} {base i : ℕ} {j : Join} {w b : List ℕ} {piece : Piece} {Case : Memory → (ℕ → Option Answer) → Given Answer → Type 0}
    (case : (M : Memory) (known : ℕ → Option Answer) (g : Given Answer) → Case M known g → PieceCase M known E w g piece) where
  pub piece-one : {B w' a : List ℕ} {r : Stepped} {top c : ℕ} → piece ≡ Piece.One top c → OneJoinedIs T base i top c j w w' B b a r
      → JoinStepIs T base i j Case w w' B B b a r
  piece-one {top = top} {c} z s =
      recase (λ M known g C. let y : PieceCase M known E w g (Piece.One top c) = rw z at (case M known g C) in y) s.step

  pub piece-merged : {B B' w' a : List ℕ} {r : Stepped} {lo hi : ℕ} → piece ≡ Piece.Merged lo hi
      → JoinStepIs T base i j (λ M known g. MergedOf M known w lo hi g) w w' B B' b a r
      → JoinStepIs T base i j Case w w' B B' b a r
  piece-merged {lo = lo} {hi} z s =
      recase (λ M known g C. let y : PieceCase M known E w g (Piece.Merged lo hi) = rw z at (case M known g C) in y) s

  module _ {B : List ℕ} (A : JoinAsked B w b base i j) where
    pub piece-text : {a : List ℕ} {r : Stepped} {start : EnvAt} {size : EnvLen} {q : Joined} → piece ≡ Piece.Text start size
        → TextJoinedIs T B i (take (start.0 + size.0 - start.0) (drop start.0 E)) j b a q → StepOfIs q r → length a ≡ length b
        → JoinStepIs T base i j Case w w B B b a r
    unfolding scalar_text
    piece-text {a} {r} {start} {size} {q} z m s k =
        let f = start.0 in
        let e = start.0 + size.0 in
        let y : TextJoinedIs T B i (slice f e E) j b a q = rw (part_slice E f e (omega arith)) at m in
        record {
          left = record { below = λ n u v. refl; len = refl };
          bytes = refl;
          beside = λ n d h. refl;
          whole = k ∙ A.whole;
          grows = λ n h u v l. text-grows y n (sym s.is ∙ h) u v;
          is = λ x key items S place gap J g G C.
              let p : g ≡ value (some (scalar (string (slice f e E)))) = rw z at (case (answers_of key items T B) (lookup S) g C) in
              rw s.is (scalar-step G a A.whole (string (slice f e E)) q p y);
        }

    pub piece-undefined : {a : List ℕ} {r : Stepped} {q : Joined} → piece ≡ Piece.Undefined → NothingIs T B i j b a q → StepOfIs q r
        → length a ≡ length b → JoinStepIs T base i j Case w w B B b a r
    piece-undefined {a} {r} {q} z m s k = record {
      left = record { below = λ n u v. refl; len = refl };
      bytes = refl;
      beside = λ n d h. refl;
      whole = k ∙ A.whole;
      grows = λ n h u v l. nothing-grows A.steady.tested m n (sym s.is ∙ h) u v l;
      is = λ x key items S place gap J g G C.
          let p : g ≡ value none = rw z at (case (answers_of key items T B) (lookup S) g C) in
          rw s.is (undefined-step G a A.whole q p m);
    }

    pub piece-needs : {n : ℕ} → piece ≡ Piece.Needs n
        → JoinStepIs T base i j Case w w B B b b (Ok (JoinStep.Needs n))
    piece-needs {n} z = record {
      left = record { below = λ n u v. refl; len = refl };
      bytes = refl;
      beside = λ n d h. refl;
      whole = A.whole;
      grows = λ n h u v l. clash (cc (h));
      is = λ x key items S place gap J g G C.
          let p : g ≡ missing n = rw z at (case (answers_of key items T B) (lookup S) g C) in
          missing-step G b n p;
    }

    pub piece-missing : {at : DocAt} → piece ≡ Piece.Missing at
        → JoinStepIs T base i j Case w w B B b b (Err (refusal 9 at))
    piece-missing {at} z = record {
      left = record { below = λ n u v. refl; len = refl };
      bytes = refl;
      beside = λ n d h. refl;
      whole = A.whole;
      grows = λ n h u v l. clash (cc (h));
      is = λ x key items S place gap J g G C.
          let p : g ≡ refused (placed 9 at.0) = rw z at (case (answers_of key items T B) (lookup S) g C) in
          refused-step G b 9 at.0 p;
    }

-- A law for each place where the function returns.
use mathlib.Core.Path.{◌≡◌, sym, ap, ◌∙◌}
use Prim.Native.Nat.{ℕ, ◌+◌, ◌*◌, ◌%◌}
use mathlib.Core.Bool.{true, false}
use mathlib.Core.List.{List, [], ◌∷◌, ◌++◌}
use native.Mathlib.Omega.{arith}
use lib.ListN.{length}
use Rattle.rules.specs.Bytes.{Text}
use Rattle.rules.specs.Tree.{Scalar, null, boolean, number, string}
use Rattle.rules.specs.Pieces.{scalar_text}
use Rattle.rules.specs.Sheet.{two}
use Rattle.doc_items.specs.Codes.{code_of}
use Rattle.doc_items.specs.Writing.{ReadIs}
use Rattle.sheet_kept.specs.Kept.{simple}
use Rattle.eval_writer.specs.Model.{word_at}
use Rattle.eval_writer.specs.Clauses.{Wrote, Written}
use Rattle.eval_writer.specs.Building.{written-null, written-false, written-true, written-number, written-string}
use Rattle.eval_writer.specs.declared.Out.{Out}
use Rattle.eval_leaves.specs.Clauses.{HoldsSimple, SimpleIs}

module _ {T B : List ℕ} {i k : ℕ} (h : ReadIs T (8 * i) k) where
  -- what the kind tells
  code : (x : Scalar) → HoldsSimple T B i x → k % 16 ≡ code_of x
  code x q = ap (λ (n : ℕ). n % 16) h.is ∙ q.kind

  pub simple-null : {o r : Out} {b a : List ℕ} → k % 16 ≡ 1 → Wrote (1 ∷ []) [] o r b a → SimpleIs T B i o r b a
  simple-null {o} {r} {b} {a} e w = record { is = λ key x q. go key x (sym e ∙ code x q) }
    where
      go : (key : ℕ → Text) (x : Scalar) → 1 ≡ code_of x → Written key (simple x) o r b a
      go key null z = written-null w
      go key (boolean false) z = absurd (omega arith)
      go key (boolean true) z = absurd (omega arith)
      go key (number t) z = absurd (omega arith)
      go key (string t) z = absurd (omega arith)

  pub simple-false : {o r : Out} {b a : List ℕ} → k % 16 ≡ 2 → Wrote (2 ∷ []) [] o r b a → SimpleIs T B i o r b a
  simple-false {o} {r} {b} {a} e w = record { is = λ key x q. go key x (sym e ∙ code x q) }
    where
      go : (key : ℕ → Text) (x : Scalar) → 2 ≡ code_of x → Written key (simple x) o r b a
      go key null z = absurd (omega arith)
      go key (boolean false) z = written-false w
      go key (boolean true) z = absurd (omega arith)
      go key (number t) z = absurd (omega arith)
      go key (string t) z = absurd (omega arith)

  pub simple-true : {o r : Out} {b a : List ℕ} → k % 16 ≡ 3 → Wrote (3 ∷ []) [] o r b a → SimpleIs T B i o r b a
  simple-true {o} {r} {b} {a} e w = record { is = λ key x q. go key x (sym e ∙ code x q) }
    where
      go : (key : ℕ → Text) (x : Scalar) → 3 ≡ code_of x → Written key (simple x) o r b a
      go key null z = absurd (omega arith)
      go key (boolean false) z = absurd (omega arith)
      go key (boolean true) z = written-true w
      go key (number t) z = absurd (omega arith)
      go key (string t) z = absurd (omega arith)

  -- one with a text
  module _ {at n : ℕ} (f : ReadIs T (8 * i + 4) at) (g : ReadIs T (8 * i + 5) n) where
    word : (x : Scalar) → HoldsSimple T B i x → word_at B at n ≡ scalar_text x
    word x q = rw (f.is, g.is) q.text

    pub simple-number : {o r : Out} {b a : List ℕ} → k % 16 ≡ 4 → Wrote (4 ∷ two o.text.0 ++ two n) ((n, word_at B at n) ∷ []) o r b a → SimpleIs T B i o r b a
    unfolding scalar_text
    simple-number {o} {r} {b} {a} e w = record { is = λ key x q. go key x (sym e ∙ code x q) (g.is ∙ q.len) (word x q) }
      where
        go : (key : ℕ → Text) (x : Scalar) → 4 ≡ code_of x → n ≡ length (scalar_text x) → word_at B at n ≡ scalar_text x → Written key (simple x) o r b a
        go key null z l t = absurd (omega arith)
        go key (boolean false) z l t = absurd (omega arith)
        go key (boolean true) z l t = absurd (omega arith)
        go key (number y) z l t = written-number B at l t w
        go key (string y) z l t = absurd (omega arith)

    pub simple-string : {o r : Out} {b a : List ℕ} → (k % 16 ≡ 1 → ⊥) → (k % 16 ≡ 2 → ⊥) → (k % 16 ≡ 3 → ⊥) → (k % 16 ≡ 4 → ⊥)
        → Wrote (5 ∷ two o.text.0 ++ two n) ((n, word_at B at n) ∷ []) o r b a → SimpleIs T B i o r b a
    unfolding scalar_text
    simple-string {o} {r} {b} {a} n1 n2 n3 n4 w = record { is = λ key x q. go key x (code x q) (g.is ∙ q.len) (word x q) }
      where
        go : (key : ℕ → Text) (x : Scalar) → k % 16 ≡ code_of x → n ≡ length (scalar_text x) → word_at B at n ≡ scalar_text x → Written key (simple x) o r b a
        go key null z l t = absurd (n1 z)
        go key (boolean false) z l t = absurd (n2 z)
        go key (boolean true) z l t = absurd (n3 z)
        go key (number y) z l t = absurd (n4 z)
        go key (string y) z l t = written-string B at l t w

pub ruleset simple-laws = (simple-null, simple-false, simple-true, simple-number, simple-string)

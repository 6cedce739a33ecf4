-- Items of the document that hold simple values.
use Rattle.std.specs.Prelude.{◌≡◌, refl, ◌⊎◌, ℕ, suc, ◌+◌, ◌*◌, ◌-◌, ◌%◌, ◌≤◌, true, false, List, [], ◌∷◌, length, get_or, take, drop}
use Rattle.std.proofs.Common.{sym, ap, ◌∙◌, inl, inr, arith, drop-cons, le-leb}
use Rattle.rules.specs.Bytes.{Text}
use Rattle.rules.specs.Tree.{Scalar, null, boolean, number, string, simple}
use Rattle.doc_items.specs.Codes.{code_of}
use Rattle.doc_items.specs.Holds.{Spells, TextAt, NodeAt}
use Rattle.doc_items.specs.Parts.{numbers, letters}
use Rattle.eval_writer.specs.Model.{word_at}
use Rattle.eval_leaves.specs.Clauses.{HoldsSimple}

spelled : (B : List ℕ) (o : ℕ) (t : Text) → o + length t ≤ length B → Spells (letters 0 B) o t → take (length t) (drop o B) ≡ t
spelled B o [] l s = refl
spelled B o (c ∷ t) l s =
    let e : o - 0 ≡ o = omega arith in
    let f : get_or B o 0 ≡ c = ap (λ (n : ℕ). get_or B n 0) (sym e) ∙ s.0 in
    let g : suc o ≡ o + 1 = omega arith in
    ap (take (suc (length t))) (drop-cons B o 0 (omega arith))
    ∙ ap (λ (x : ℕ). x ∷ take (length t) (drop (suc o) B)) f
    ∙ ap (λ (x : List ℕ). c ∷ x) (ap (λ (n : ℕ). take (length t) (drop n B)) g ∙ spelled B (o + 1) t (omega arith) s.1)

-- a text of the document lies in the job's bytes
pub text-word : (B : List ℕ) {hi o z : ℕ} {t : Text} → hi ≤ length B → TextAt (letters 0 B) 0 hi o z t → word_at B o z ≡ t
unfolding word_at
text-word B {hi} {o} {z} {t} l x =
    let u : o + z ≤ length B = omega (arith, x.upto) in
    let v : o + length t ≤ length B = omega (arith, x.size) in
    rw (le-leb (o + z) (length B) u) (ap (λ (n : ℕ). take n (drop o B)) x.size ∙ spelled B o t v x.bytes)

code-small : (x : Scalar) → code_of x ≤ 5
code-small null = omega arith
code-small (boolean false) = omega arith
code-small (boolean true) = omega arith
code-small (number t) = omega arith
code-small (string t) = omega arith

-- as a member, or as a piece
pub holds-simple : (T B : List ℕ) (hi role i : ℕ) (N : ℕ → ℕ → Type 0) (x : Scalar) → (role ≡ 0) ⊎ (role ≡ 16) → hi ≤ length B
    → NodeAt (numbers T) (letters 0 B) 0 hi N role i (simple x) → HoldsSimple T B i x
holds-simple T B hi role i N x r l n =
    record {
      kind = go r;
      len = n.1.size;
      text = text-word B l n.1;
    }
  where
    go : (role ≡ 0) ⊎ (role ≡ 16) → get_or T (8 * i) 0 % 16 ≡ code_of x
    go (inl e) = omega (arith, n.0, code-small x)
    go (inr e) = omega (arith, n.0, code-small x)

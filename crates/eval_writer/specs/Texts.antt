-- A text that stands in the bytes, as the bytes that a place and a length name.
use Rattle.std.specs.Prelude.{◌≡◌, refl, ℕ, suc, ◌+◌, ◌-◌, ◌≤◌, List, [], ◌∷◌, length, get_or, take, drop}
use Rattle.std.proofs.Common.{sym, ap, ◌∙◌, arith, drop-cons, le-leb}
use Rattle.rules.specs.Bytes.{Text}
use Rattle.doc_items.specs.Holds.{Spells, TextAt}
use Rattle.doc_items.specs.Parts.{letters}
use Rattle.eval_writer.specs.Model.{word_at}

pub spelled-part : (X : List ℕ) (o : ℕ) (t : Text) → o + length t ≤ length X → Spells (letters 0 X) o t → take (length t) (drop o X) ≡ t
spelled-part X o [] l s = refl
spelled-part X o (b ∷ t) l s =
    let z : o - 0 ≡ o = omega arith in
    let e : o + 1 ≡ suc o = omega arith in
    let first : get_or X o 0 ≡ b = ap (λ (n : ℕ). get_or X n 0) (sym z) ∙ s.0 in
    let rest : take (length t) (drop (suc o) X) ≡ t = rw e at (spelled-part X (o + 1) t (omega arith) s.1) in
    ap (take (suc (length t))) (drop-cons X o 0 (omega arith)) ∙ ap (λ (c : ℕ). c ∷ take (length t) (drop (suc o) X)) first
    ∙ ap (λ (u : Text). b ∷ u) rest

module _ (X : List ℕ) {lo hi o z : ℕ} {t : Text} (l : hi ≤ length X) (h : TextAt (letters 0 X) lo hi o z t) where
  pub text-part : take z (drop o X) ≡ t
  text-part = ap (λ (n : ℕ). take n (drop o X)) h.size ∙ spelled-part X o t (omega (arith, h.upto, h.size)) h.bytes

  pub word-is : word_at X o z ≡ t
  unfolding word_at
  word-is = rw (le-leb (o + z) (length X) (omega (arith, h.upto))) text-part

-- The text that the code takes is the rules' `scalar_text`: of an item that holds a simple value, and of a simple value that is kept.
use Rattle.std.specs.Prelude.{◌≡◌, ℕ, ◌+◌, ◌*◌, ◌/◌, ◌%◌, ◌≤◌, ◌<◌, true, false, List, ◌∷◌, eqb, drop}
use Rattle.std.proofs.Math.Path.{refl}
use Rattle.std.proofs.Common.{arith}
use Rattle.std.proofs.Math.ListN.{length, get_or}
use Rattle.std.proofs.Math.Seq.{take-append_seam}
use borrow.Author.Tests.{le-leb}
use Rattle.rules.specs.Bytes.{Text}
use Rattle.rules.specs.Pieces.{scalar_text}
use Rattle.rules.specs.Tree.{Scalar, null, boolean, number, string, simple}
use Rattle.rules.specs.Values.{own_text}
use Rattle.rules.specs.Sheet.{two, text_record, scalar_record}
use Rattle.theory.specs.Layout.{two_back}
use Rattle.doc_items.specs.Holds.{NodeAt}
use Rattle.doc_items.specs.Parts.{numbers, letters}
use Rattle.sheet_kept.specs.Standing.{Stands}
use Rattle.sheet_forms.specs.Model.{pair_c}
use Rattle.sheet_forms.specs.Ends.{at-0, at_n}
use Rattle.eval_writer.specs.Model.{word_at}
use Rattle.eval_writer.specs.Texts.{word-is}
use Rattle.eval_concat.specs.Scalar.Contracts.{record_text}

pub item-text : (T X : List ℕ) (lo hi : ℕ) (N : ℕ → ℕ → Type 0) (role c : ℕ) (x : Scalar) → hi ≤ length X
    → NodeAt (numbers T) (letters 0 X) lo hi N role c (simple x) → word_at X (get_or T (8 * c + 4) 0) (get_or T (8 * c + 5) 0) ≡ scalar_text x
item-text T X lo hi N role c x l s = word-is X l s.1

module _ (X : List ℕ) (tb p u : ℕ) where
  plain-text : (b : ℕ) (rest : List ℕ) → drop p X ≡ b ∷ rest → get_or X p 0 ≡ b
  plain-text b rest h = at-0 X p (b ∷ rest) h

  -- two bytes of a record that stands there
  pair_of : (xs : List ℕ) (i n : ℕ) → drop p X ≡ xs → get_or xs i 0 ≡ n / 256 % 256 → get_or xs (i + 1) 0 ≡ n % 256 → n < 65536 → pair_c X (p + i) ≡ n
  pair_of xs i n h a b l =
      let e : p + i + 1 ≡ p + (i + 1) = omega arith in
      rw (e, at_n X p xs h i, at_n X p xs h (i + 1), a, b) (two_back n l)

  word-text : (k : ℕ) (x : Text) → eqb k 1 ≡ false → eqb k 2 ≡ false → eqb k 3 ≡ false → Stands X tb (text_record k u x) x p u → record_text X tb p ≡ x
  unfolding record_text text_record two word_at
  word-text k x e f g h =
      let xs = k ∷ u / 256 % 256 ∷ u % 256 ∷ length x / 256 % 256 ∷ length x % 256 ∷ h.rest in
      let s = h.small in
      let z : get_or X p 0 ≡ k = at-0 X p xs h.records in
      let a : pair_c X (p + 1) ≡ u = pair_of xs 1 u h.records refl refl (omega arith) in
      let c : pair_c X (p + 3) ≡ length x = pair_of xs 3 (length x) h.records refl refl (omega arith) in
      let i = h.inside in
      rw (record_text, z, e, f, g, a, c, le-leb (tb + u + length x) (length X) i, h.text) (take-append_seam x h.after)

  pub record-text : (x : Scalar) → Stands X tb (scalar_record u x) (own_text x) p u → record_text X tb p ≡ scalar_text x
  unfolding record_text scalar_record own_text scalar_text
  record-text null h = rw (record_text, plain-text 1 h.rest h.records)
  record-text (boolean false) h = rw (record_text, plain-text 2 h.rest h.records)
  record-text (boolean true) h = rw (record_text, plain-text 3 h.rest h.records)
  record-text (number t) h = word-text 4 t refl refl refl h
  record-text (string t) h = word-text 5 t refl refl refl h

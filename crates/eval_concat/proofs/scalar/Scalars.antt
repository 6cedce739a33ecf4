-- One law for each answer.
use mathlib.Core.Path.{◌≡◌, sym, ap, ◌∙◌}
use Prim.Native.Nat.{ℕ, ◌+◌, ◌*◌, ◌-◌, ◌≤◌, ◌<◌}
use mathlib.Core.List.{List, [], ◌∷◌}
use native.Mathlib.Omega.{arith}
use lib.ListN.{length, get_or, take, drop}
use borrow.Author.Tests.{le-leb, lt-leb, ne_eqb}
use Rattle.rules.specs.Bytes.{Text}
use Rattle.doc_items.specs.Writing.{ReadIs}
use Rattle.eval_writer.specs.Model.{word_at}
use Rattle.sheet_forms.specs.Clauses.{PairIs}
use Rattle.eval_concat.specs.Model.{Joined}
use Rattle.eval_concat.specs.Clauses.{TextJoinedIs}
use Rattle.eval_concat.specs.declared.Join.{Join}
use Rattle.eval_concat.specs.Scalar.Contracts.{WordJoinedIs, ItemJoinedIs, record_text, RecordJoinedIs}

module _ {T X : List ℕ} {i : ℕ} {j : Join} {b a : List ℕ} {r : Joined} where
  -- the same text by another name
  as-text : {s t : Text} → s ≡ t → TextJoinedIs T X i s j b a r → TextJoinedIs T X i t j b a r
  as-text e h = rw e at h

  pub word_none : {at n : ℕ} → length X < at + n → TextJoinedIs T X i [] j b a r → WordJoinedIs T X i at n j b a r
  unfolding word_at
  word_none {at} {n} l h = record { is = as-text (sym (rw (word_at, lt-leb (at + n) (length X) l))) h }

  pub word_some : {at n : ℕ} → at + n ≤ length X → TextJoinedIs T X i (take (at + n - at) (drop at X)) j b a r → WordJoinedIs T X i at n j b a r
  unfolding word_at
  word_some {at} {n} l h =
      let z : at + n - at ≡ n = omega arith in
      record { is = as-text (ap (λ (m : ℕ). take m (drop at X)) z ∙ sym (rw (word_at, le-leb (at + n) (length X) l))) h }

  pub item-word : {c at n : ℕ} → ReadIs T (8 * c + 4) at → ReadIs T (8 * c + 5) n → WordJoinedIs T X i at n j b a r → ItemJoinedIs T X i c j b a r
  item-word {c} p q h = record { is = as-text (rw (p.is, q.is)) h.is }

  module _ {tb p k : ℕ} (e : k ≡ get_or X p 0) where
    pub record-null : k ≡ 1 → TextJoinedIs T X i (110 ∷ 117 ∷ 108 ∷ 108 ∷ []) j b a r → RecordJoinedIs T X i tb p j b a r
    unfolding record_text
    record-null f h = record { is = as-text (sym (rw (record_text, sym e ∙ f))) h }

    pub record-false : k ≡ 2 → TextJoinedIs T X i (102 ∷ 97 ∷ 108 ∷ 115 ∷ 101 ∷ []) j b a r → RecordJoinedIs T X i tb p j b a r
    unfolding record_text
    record-false f h = record { is = as-text (sym (rw (record_text, sym e ∙ f))) h }

    pub record-true : k ≡ 3 → TextJoinedIs T X i (116 ∷ 114 ∷ 117 ∷ 101 ∷ []) j b a r → RecordJoinedIs T X i tb p j b a r
    unfolding record_text
    record-true f h = record { is = as-text (sym (rw (record_text, sym e ∙ f))) h }

    pub record-word : {f n : ℕ} → (k ≡ 1 → ⊥) → (k ≡ 2 → ⊥) → (k ≡ 3 → ⊥) → PairIs X (p + 1) f → PairIs X (p + 3) n
        → WordJoinedIs T X i (tb + f) n j b a r → RecordJoinedIs T X i tb p j b a r
    unfolding record_text
    record-word u v w y z h = record {
      is = as-text
          (rw (y.is, z.is) (sym (rw (
            record_text,
            ne_eqb (get_or X p 0) 1 (λ q. u (e ∙ q)),
            ne_eqb (get_or X p 0) 2 (λ q. v (e ∙ q)),
            ne_eqb (get_or X p 0) 3 (λ q. w (e ∙ q)),
          ))))
          h.is;
    }

pub ruleset word_laws = (word_none, word_some)

pub ruleset record-laws = (record-null, record-false, record-true, record-word)

-- Reading texts: laws for `bucket`, `same_bytes` and `has_key`, one for each return.
use mathlib.Core.Path.{◌≡◌, refl, sym, ap, ◌∙◌}
use mathlib.Core.Bool.{Bool, true, false}
use mathlib.Core.List.{List, ◌∷◌}
use Prim.Native.Nat.{ℕ, ◌+◌, ◌-◌, ◌*◌, ◌%◌, ◌≤◌, ◌<◌}
use native.Mathlib.Omega.{arith}
use lib.ListN.{length}
use Rattle.rules.specs.Bytes.{Text, byte_at, same}
use Rattle.text_chars.specs.Cursor.{ByteIs}
use Rattle.doc_items.specs.Writing.{ReadIs}
use Rattle.doc_items.specs.Parts.{numbers}
use Rattle.eval_keys.specs.Texts.{same_not, same_more, same-less, text_of, text-length, text-step, hash_bound, hash_from, bucket_by, bucket_of}
use Rattle.eval_keys.specs.Columns.{key_text}
use Rattle.eval_keys.specs.Clauses.{BucketIs, SameIs, HasKeyIs}

-- ---- buckets: what is left of a text gives what all of it gives

pub record HashInv (X : List ℕ) (at len hash i : ℕ) : Type 0 where
  pub is : hash_from 0 (text_of (byte_at X) at len) ≡ hash_from hash (text_of (byte_at X) (at + i) (len - i))
  pub upto : i ≤ len
  pub small : hash < hash_bound

pub hash-start : {X : List ℕ} {at len : ℕ} → HashInv X at len 0 0
hash-start {X} {at} {len} =
    let p : at + 0 ≡ at = omega arith in
    let r : len - 0 ≡ len = omega arith in
    record { is = rw (p, r) refl; upto = omega arith; small = omega arith }

module _ {X : List ℕ} {at len hash i : ℕ} (I : HashInv X at len hash i) where
  pub hash-again : {b : ℕ} → i < len → ByteIs X (at + i) b → HashInv X at len ((hash * 31 + b) % hash_bound) (i + 1)
  unfolding hash_from
  hash-again {b} l p = record {
    is = I.is ∙ ap (hash_from hash) (text-step (byte_at X) at i len l) ∙ rw p.is refl;
    upto = omega arith;
    small = omega arith;
  }

  pub bucket-done : len ≤ i → BucketIs X at len (bucket_by hash)
  unfolding bucket_of hash_from text_of
  bucket-done l =
      let e : len - i ≡ 0 = omega arith in
      let h : hash_from 0 (text_of (byte_at X) at len) ≡ hash = I.is ∙ rw e refl in
      record { is = ap bucket_by (sym h); small = omega arith }

pub ruleset hashes = (hash-start, hash-again, bucket-done)

-- ---- texts of one length: what is left to compare gives what all give

pub record SameInv (X : List ℕ) (from at len i : ℕ) : Type 0 where
  pub is : same (text_of (byte_at X) from len) (text_of (byte_at X) at len) ≡ same (text_of (byte_at X) (from + i) (len - i)) (text_of (byte_at X) (at + i) (len - i))
  pub upto : i ≤ len

pub same_start : {X : List ℕ} {from at len : ℕ} → SameInv X from at len 0
same_start {X} {from} {at} {len} =
    let p : from + 0 ≡ from = omega arith in
    let q : at + 0 ≡ at = omega arith in
    let r : len - 0 ≡ len = omega arith in
    record { is = rw (p, q, r) refl; upto = omega arith }

module _ {X : List ℕ} {from at len i : ℕ} (I : SameInv X from at len i) where
  module _ {c d : ℕ} (l : i < len) (p : ByteIs X (from + i) c) (q : ByteIs X (at + i) d) where
    abbrev rest : ℕ → Text
    rest o = text_of (byte_at X) (o + (i + 1)) (len - (i + 1))

    step : same (text_of (byte_at X) from len) (text_of (byte_at X) at len) ≡ same (c ∷ rest from) (d ∷ rest at)
    step =
        I.is
        ∙ ap (λ (s : Text). same s (text_of (byte_at X) (at + i) (len - i))) (text-step (byte_at X) from i len l)
        ∙ ap (same (byte_at X (from + i) ∷ rest from)) (text-step (byte_at X) at i len l)
        ∙ rw (p.is, q.is) refl

    pub same-differ : (c ≡ d → ⊥) → SameIs X from at len false
    same-differ n = record { is = sym (step ∙ same-less c d (rest from) (rest at) n) }

    pub same-again : c ≡ d → SameInv X from at len (i + 1)
    same-again e = record { is = step ∙ same_more c d (rest from) (rest at) e; upto = omega arith }

  pub same-done : len ≤ i → SameIs X from at len true
  unfolding same text_of
  same-done l = let e : len - i ≡ 0 = omega arith in record { is = sym (I.is ∙ rw e refl) }

pub ruleset sames = (same_start, same-differ, same-again, same-done)

-- ---- an item's key

module _ {T X : List ℕ} {i at len : ℕ} where
  pub has_same : {from size : ℕ} {r : Bool} → ReadIs T (8 * i + 2) from → ReadIs T (8 * i + 3) size → size ≡ len → SameIs X from at len r
      → HasKeyIs X T i at len r
  has_same {from} {size} {r} a b e s = record { is = s.is ∙ rw (sym a.is, sym b.is, e) refl }

  pub has_other : {size : ℕ} → ReadIs T (8 * i + 3) size → (size ≡ len → ⊥) → HasKeyIs X T i at len false
  has_other {size} b n = record {
    is = sym (same_not (key_text X T i) (text_of (byte_at X) at len)
        (λ q. n (b.is ∙ sym (text-length (byte_at X) (numbers T (8 * i + 2)) (numbers T (8 * i + 3))) ∙ ap length q ∙ text-length (byte_at X) at len)));
  }

pub ruleset keys = (has_same, has_other)

-- Numbering the items: laws for `clear`, `add_number`, `number_key` and `number_keys`, one for each return.
use mathlib.Core.Path.{◌≡◌, refl, sym, ap, ◌∙◌}
use mathlib.Core.Bool.{Bool, true, false}
use mathlib.Core.List.{List, ◌++◌}
use Prim.Native.Nat.{ℕ, ◌+◌, ◌*◌, ◌-◌, ◌≤◌, ◌<◌}
use native.Mathlib.Omega.{arith}
use lib.Dec.{ltb}
use lib.ListN.{length, set, take, drop, replicate, length-set, length-drop, length-replicate, get_or-replicate, get_or-append}
use lib.Seq.{length-take-le, get_or-take, get_or-drop}
use Rattle.std.proofs.Common.{get_or-append-add}
use borrow.Author.Tests.{lt-ltb, le-ltb, ltb-true, ltb-false}
use borrow.Rule.Slice.PartMut.{mid_of, put_mid, post_of, same_len_mid}
use Rattle.rules.specs.Bytes.{byte_at}
use Rattle.doc_items.specs.Room.{capacity}
use Rattle.doc_items.specs.Parts.{numbers}
use Rattle.doc_items.specs.Writing.{ReadIs}
use Rattle.eval_keys.specs.Texts.{text_of, bucket_count, bucket_of}
use Rattle.eval_keys.specs.Columns.{keys_at, buckets_at, links_at, Room, is_field, key_text}
use Rattle.eval_keys.specs.Numbers.{NoneBefore, Found, absent, here, Numbered, number_of, Kept}
use Rattle.eval_keys.specs.Finding.{first-is}
use Rattle.eval_keys.specs.Stores.{with_number, link-length, link-kept, set-kept, number-skip, number-old, number-new, number-none}
use Rattle.eval_keys.specs.Clauses.{BucketIs, FindIs, ClearIs, AddIs, NumberKeyIs, NumberKeysIs}

-- ---- zeros

module _ (from end : ℕ) (T ys : List ℕ) (l : from ≤ end) (h : end ≤ length T) (e : ys ≡ replicate (length (mid_of from (end - from) T)) 0) where
  part-length : length (mid_of from (end - from) T) ≡ end - from
  part-length = length-take-le (end - from) (drop from T) (omega (arith, length-drop from T))

  zeros-length : length ys ≡ length (mid_of from (end - from) T)
  zeros-length = ap length e ∙ length-replicate (length (mid_of from (end - from) T)) 0

  low-length : length (take from T) ≡ from
  low-length = length-take-le from T (omega arith)

  -- a number of the part, and one behind it
  inside : (k : ℕ) → numbers (put_mid from (end - from) T ys) (from + k) ≡ numbers (ys ++ post_of from (end - from) T) k
  inside k =
      ap (λ (n : ℕ). numbers (put_mid from (end - from) T ys) (n + k)) (sym low-length)
      ∙ get_or-append-add (take from T) (ys ++ post_of from (end - from) T) k 0

  zero-at : (k : ℕ) → k < end - from → numbers (put_mid from (end - from) T ys) (from + k) ≡ 0
  zero-at k u =
      inside k ∙ get_or-append ys (post_of from (end - from) T) 0 k (omega (arith, zeros-length, part-length))
      ∙ ap (λ (z : List ℕ). numbers z k) e
      ∙ get_or-replicate (length (mid_of from (end - from) T)) k 0 0 (omega (arith, part-length))

  behind : (m : ℕ) → numbers (put_mid from (end - from) T ys) (end + m) ≡ numbers T (end + m)
  behind m =
      let a : end + m ≡ from + (end - from + m) = omega arith in
      ap (numbers (put_mid from (end - from) T ys)) a ∙ inside (end - from + m)
      ∙ ap (λ (n : ℕ). numbers (ys ++ post_of from (end - from) T) (n + m)) (sym (zeros-length ∙ part-length))
      ∙ get_or-append-add ys (post_of from (end - from) T) m 0
      ∙ get_or-drop (end - from) (drop from T) m 0 ∙ get_or-drop from T (end - from + m) 0 ∙ ap (numbers T) (sym a)

  pub clear-is : ClearIs from end T (put_mid from (end - from) T ys)
  clear-is = record {
    zero = λ j u v. let a : j ≡ from + (j - from) = omega arith in ap (numbers (put_mid from (end - from) T ys)) a ∙ zero-at (j - from) (omega arith);
    kept = λ j o. go j o (ltb j from) refl (ltb j end) refl;
    len = same_len_mid from (end - from) T ys zeros-length;
  }
    where
      go : (j : ℕ) → (from ≤ j → j < end → ⊥) → (a : Bool) → ltb j from ≡ a → (b : Bool) → ltb j end ≡ b
          → numbers (put_mid from (end - from) T ys) j ≡ numbers T j
      go j o true p b q =
          let u : j < from = ltb-true j from p in
          get_or-append (take from T) (ys ++ post_of from (end - from) T) 0 j (omega (arith, low-length)) ∙ get_or-take from T j 0 u
      go j o false p true q = absurd (o (ltb-false j from p) (ltb-true j end q))
      go j o false p false q =
          let v : end ≤ j = ltb-false j end q in
          let a : j ≡ end + (j - end) = omega arith in
          ap (numbers (put_mid from (end - from) T ys)) a ∙ behind (j - end) ∙ ap (numbers T) (sym a)

-- ---- a new number

module _ (T : List ℕ) (b i n : ℕ) where
  pub in-links : Room T → i < capacity → links_at + i < length (set T (keys_at + i) i)
  in-links r h = omega (arith, length-set T (keys_at + i) i)

  pub in-buckets : Room T → b < bucket_count → buckets_at + b < length (set (set T (keys_at + i) i) (links_at + i) n)
  in-buckets r h = omega (arith, length-set T (keys_at + i) i, length-set (set T (keys_at + i) i) (links_at + i) n)

  pub add_is : ReadIs T (buckets_at + b) n → AddIs b i T (set (set (set T (keys_at + i) i) (links_at + i) n) (buckets_at + b) i)
  unfolding with_number
  add_is r =
      let e : set (set (set T (keys_at + i) i) (links_at + i) n) (buckets_at + b) i ≡ with_number b i T =
      ap (λ (m : ℕ). set (set (set T (keys_at + i) i) (links_at + i) m) (buckets_at + b) i) r.is in
      record { is = e; len = ap length e ∙ link-length T b i }

pub ruleset adds = (in-links, in-buckets, add_is)

-- ---- one item

module _ {X T : List ℕ} {i at len b k : ℕ} (room : Room T) (low : 1 ≤ i) (high : i < capacity) (o : ReadIs T (8 * i + 2) at) (z : ReadIs T (8 * i + 3) len)
    (h : BucketIs X at len b) (f : FindIs X T at len k) {kind : ℕ} (y : ReadIs T (8 * i) kind) (small : kind < 16) where
  field : is_field T i ≡ true
  field = rw (sym y.is) (lt-ltb kind 16 small)

  text : text_of (byte_at X) at len ≡ key_text X T i
  text = rw (o.is, z.is) refl

  found : Numbered X T i → Found (is_field T) (key_text X T) (key_text X T i) i k
  found N =
      let e : number_of X T i (key_text X T i) ≡ k = ap (number_of X T i) (sym text) ∙ sym (f.is i N) in
      rw e at (first-is (is_field T) (key_text X T) (key_text X T i) i)

  pub number-link : {T' : List ℕ} → k ≡ 0 → AddIs b i T T' → NumberKeyIs X i T T'
  number-link {T'} e p = record {
    numbered = λ N. rw p.is (number-new X T i room low high N b field (h.is ∙ ap bucket_of text) (none (found N)));
    kept = rw p.is (link-kept T b i room h.small high);
    len = p.len;
  }
    where
      none : Found (is_field T) (key_text X T) (key_text X T i) i k → NoneBefore (is_field T) (key_text X T) (key_text X T i) i
      none (absent a n) = n
      none (here a g c s n) = absurd (omega arith)

  pub number_put : (k ≡ 0 → ⊥) → NumberKeyIs X i T (set T (keys_at + i) k)
  number_put d = record { numbered = λ N. old N (found N); kept = set-kept T i k; len = length-set T (keys_at + i) k }
    where
      old : Numbered X T i → Found (is_field T) (key_text X T) (key_text X T i) i k → Numbered X (set T (keys_at + i) k) (i + 1)
      old N (absent a n) = absurd (d a)
      old N (here a g c s n) = number-old X T i room low high N k a g c s n

pub number-other : {X T : List ℕ} {i kind : ℕ} → Room T → 1 ≤ i → i < capacity → ReadIs T (8 * i) kind → 16 ≤ kind → NumberKeyIs X i T T
number-other {X} {T} {i} {kind} room low high y l = record {
  numbered = λ N. number-skip X T i room low high N (rw (sym y.is) (le-ltb kind 16 l));
  kept = λ j o. refl;
  len = refl;
}

pub ruleset number_keys = (number-link, number_put, number-other)

-- ---- all items

pub record NumbersInv (X : List ℕ) (items : ℕ) (T₀ T : List ℕ) (i : ℕ) : Type 0 where
  pub numbered : Numbered X T i
  pub kept : Kept 1 i T₀ T
  pub len : length T ≡ length T₀
  pub low : 1 ≤ i
  pub upto : i ≤ items + 1

pub numbers-start : (X : List ℕ) {items : ℕ} {T T₁ : List ℕ} → ClearIs buckets_at links_at T T₁ → NumbersInv X items T₁ T₁ 1
numbers-start X {items} {T} {T₁} c = record {
  numbered = number-none X T₁ (λ b h. c.zero (buckets_at + b) (omega arith) (omega arith));
  kept = λ j o. refl;
  len = refl;
  low = omega arith;
  upto = omega arith;
}

module _ {X : List ℕ} {items : ℕ} {T₀ T : List ℕ} {i : ℕ} (I : NumbersInv X items T₀ T i) where
  pub numbers-again : {T' : List ℕ} → i ≤ items → NumberKeyIs X i T T' → NumbersInv X items T₀ T' (i + 1)
  numbers-again {T'} h p =
      let l : 1 ≤ i = I.low in
      record {
        numbered = p.numbered I.numbered;
        kept = λ j o. p.kept j (record { keys = λ y z. o.keys (omega arith) z; buckets = o.buckets; links = λ y z. o.links (omega arith) z })
            ∙ I.kept j (record { keys = λ y z. o.keys y (omega arith); buckets = o.buckets; links = λ y z. o.links y (omega arith) });
        len = p.len ∙ I.len;
        low = omega arith;
        upto = omega arith;
      }

  pub numbers-done : {S : List ℕ} → ClearIs buckets_at links_at S T₀ → items < i → NumberKeysIs X items S T
  numbers-done {S} c h =
      let u : i ≤ items + 1 = I.upto in
      let e : i ≡ items + 1 = omega arith in
      record {
        numbered = rw e at I.numbered;
        kept = λ j o. (rw e at I.kept) j o ∙ c.kept j o.buckets;
        len = I.len ∙ c.len;
      }

pub ruleset numberings = (numbers-start, numbers-again, numbers-done)

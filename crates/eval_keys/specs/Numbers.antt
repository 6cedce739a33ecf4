-- The numbers of keys. tx gives each item's key text; the items with keys are those from 1 on that fd tells.
use Rattle.std.specs.Prelude.{◌≡◌, Bool, true, cond, List, ℕ, zero, suc, ◌+◌, ◌≤◌, ◌<◌, eqb}
use Rattle.rules.specs.Bytes.{Text, same}
use Rattle.doc_items.specs.Parts.{numbers}
use Rattle.eval_keys.specs.Texts.{bucket_of}
use Rattle.eval_keys.specs.Columns.{keys_at, buckets_at, links_at, key_at, newest_at, link_at, is_field, key_text}

-- no item before e has the text s
abbrev pub NoneBefore : (ℕ → Bool) → (ℕ → Text) → Text → ℕ → Type 0
NoneBefore fd tx s e = (j : ℕ) → 1 ≤ j → fd j ≡ true → j < e → tx j ≡ s → ⊥

-- the first item before n with the text s, 0 if there is none
unfoldable pub first_of : (ℕ → Bool) → (ℕ → Text) → Text → ℕ → ℕ
unfolding same
first_of fd tx s zero = 0
first_of fd tx s (suc n) = let r = first_of fd tx s n in cond (eqb r 0) (cond (fd n) (cond (same (tx n) s) n 0) 0) r

-- the same, said of a number
pub data Found (fd : ℕ → Bool) (tx : ℕ → Text) (s : Text) (n r : ℕ) : Type 0 where
  absent : r ≡ 0 → NoneBefore fd tx s n → Found fd tx s n r
  here : 1 ≤ r → fd r ≡ true → r < n → tx r ≡ s → NoneBefore fd tx s r → Found fd tx s n r

-- r is a number: the first item with its text
pub record IsNumber (fd : ℕ → Bool) (tx : ℕ → Text) (r : ℕ) : Type 0 where
  pub low : 1 ≤ r
  pub field : fd r ≡ true
  pub none : NoneBefore fd tx (tx r) r

-- r is the number of the item i
pub record NumberOf (fd : ℕ → Bool) (tx : ℕ → Text) (i r : ℕ) : Type 0 where
  pub low : 1 ≤ r
  pub field : fd r ≡ true
  pub upto : r ≤ i
  pub same : tx r ≡ tx i
  pub none : NoneBefore fd tx (tx i) r

-- the items before n have their numbers
pub record Given (fd : ℕ → Bool) (tx : ℕ → Text) (ks : ℕ → ℕ) (n : ℕ) : Type 0 where
  pub at : (i : ℕ) → 1 ≤ i → fd i ≡ true → i < n → NumberOf fd tx i (ks i)

-- ---- chains: bu gives a text's bucket, bk a bucket's newest number, ln a number's link

module _ (bu : Text → ℕ) (fd : ℕ → Bool) (tx : ℕ → Text) where
  -- q is a number before n whose bucket is b
  pub record InBucket (n b q : ℕ) : Type 0 where
    pub num : IsNumber fd tx q
    pub high : q < n
    pub bucket : bu (tx q) ≡ b

  -- A bucket's newest number is its greatest, a link is the next lower number of the bucket; 0 ends both.
  pub record Chains (bk ln : ℕ → ℕ) (n : ℕ) : Type 0 where
    pub newest : (s : Text) → 1 ≤ bk (bu s) → InBucket n (bu s) (bk (bu s))
    pub all : (j : ℕ) → IsNumber fd tx j → j < n → j ≤ bk (bu (tx j))
    pub falls : (r : ℕ) → IsNumber fd tx r → r < n → ln r < r
    pub next : (r : ℕ) → IsNumber fd tx r → r < n → 1 ≤ ln r → InBucket n (bu (tx r)) (ln r)
    pub rest : (r : ℕ) → IsNumber fd tx r → r < n → (j : ℕ) → IsNumber fd tx j → j < r → bu (tx j) ≡ bu (tx r) → j ≤ ln r

  -- a walk for the text s has come to q
  pub record Walk (n : ℕ) (s : Text) (q : ℕ) : Type 0 where
    pub stands : 1 ≤ q → InBucket n (bu s) q
    pub below : (j : ℕ) → IsNumber fd tx j → j < n → tx j ≡ s → j ≤ q

-- ---- on the table T and the texts X

-- the items before n have their numbers, and each number is found by its bucket
pub record Numbered (X T : List ℕ) (n : ℕ) : Type 0 where
  pub given : Given (is_field T) (key_text X T) (key_at T) n
  pub chains : Chains bucket_of (is_field T) (key_text X T) (newest_at T) (link_at T) n

-- the number of a text, 0 if no field before n has it
abbrev pub number_of : List ℕ → List ℕ → ℕ → Text → ℕ
number_of X T n s = first_of (is_field T) (key_text X T) s n

-- what numbering the items from a to before e leaves as it is
pub record Outside (a e j : ℕ) : Type 0 where
  pub keys : keys_at + a ≤ j → j < keys_at + e → ⊥
  pub buckets : buckets_at ≤ j → j < links_at → ⊥
  pub links : links_at + a ≤ j → j < links_at + e → ⊥

abbrev pub Kept : ℕ → ℕ → List ℕ → List ℕ → Type 0
Kept a e T T' = (j : ℕ) → Outside a e j → numbers T' j ≡ numbers T j

-- What a numbered table is good for: numbers tell keys apart as their texts do, whatever else is written into the table.
use Rattle.std.specs.Prelude.{◌≡◌, refl, Bool, true, false, List, ℕ, ◌+◌, ◌*◌, ◌≤◌, ◌<◌, ltb, eqb}
use Rattle.std.proofs.Common.{sym, ap, ◌∙◌, arith, eq-eqb, ne_eqb}
use Rattle.rules.specs.Bytes.{Text, byte_at, same}
use Rattle.theory.specs.Layout.{same-eq}
use Rattle.doc_items.specs.Room.{capacity}
use Rattle.doc_items.specs.Parts.{numbers}
use Rattle.eval_keys.specs.Texts.{by_less, same_false, text_of, text_same, bucket_count, bucket_of, bucket-small}
use Rattle.eval_keys.specs.Columns.{keys_at, buckets_at, links_at, firsts_at, key_at, newest_at, link_at, is_field, key_text}
use Rattle.eval_keys.specs.Numbers.{Found, absent, here, NumberOf, Numbered, number_of}
use Rattle.eval_keys.specs.Finding.{found-is, first-is}
use Rattle.eval_keys.specs.Adding.{first-same, chain_same, chain-moved}
use Rattle.eval_keys.specs.Stores.{text-kept}
use Rattle.eval_keys.specs.Clauses.{FindIs}

-- ---- numbers

-- a number is the first item with its text, so two items with one text have one number
number-unique : (fd : ℕ → Bool) (tx : ℕ → Text) (i j r q : ℕ) → NumberOf fd tx i r → NumberOf fd tx j q → tx i ≡ tx j → r ≡ q
number-unique fd tx i j r q F G e =
    let a : 1 ≤ r = F.low in
    let b : 1 ≤ q = G.low in
    by_less (r ≡ q) r q (λ l. absurd (G.none r a F.field l (F.same ∙ e)))
    (λ l. by_less (r ≡ q) q r (λ m. absurd (F.none q b G.field m (G.same ∙ sym e))) (λ m. omega arith))

module _ {X T : List ℕ} {n : ℕ} (N : Numbered X T n) where
  module _ (i : ℕ) (low : 1 ≤ i) (field : is_field T i ≡ true) (high : i < n) where
    -- the number of a field: that of a field with its text, up to it, which is its own number
    pub number-low : 1 ≤ key_at T i
    number-low = (N.given.at i low field high).low

    pub number-upto : key_at T i ≤ i
    number-upto = (N.given.at i low field high).upto

    pub number-text : key_text X T (key_at T i) ≡ key_text X T i
    number-text = (N.given.at i low field high).same

    pub number-own : key_at T (key_at T i) ≡ key_at T i
    number-own =
        let F = N.given.at i low field high in
        let l : 1 ≤ key_at T i = F.low in
        let u : key_at T i ≤ i = F.upto in
        number-unique (is_field T) (key_text X T) (key_at T i) i (key_at T (key_at T i)) (key_at T i) (N.given.at (key_at T i) l F.field (omega arith)) F F.same

    -- it is the number of its text
    pub number_is : key_at T i ≡ number_of X T n (key_text X T i)
    number_is =
        let F = N.given.at i low field high in
        let u : key_at T i ≤ i = F.upto in
        found-is (is_field T) (key_text X T) (key_text X T i) n (key_at T i) (here F.low F.field (omega arith) F.same F.none)

    -- A field's number is a text's exactly if its key is the text, which may be any.
    pub number-tells : (s : Text) → eqb (key_at T i) (number_of X T n s) ≡ same (key_text X T i) s
    number-tells s = go (same (key_text X T i) s) refl
      where
        other : same (key_text X T i) s ≡ false → key_at T i ≡ number_of X T n s → ⊥
        other e q = absent-not (first-is (is_field T) (key_text X T) s n)
          where
            absent-not : Found (is_field T) (key_text X T) s n (number_of X T n s) → ⊥
            absent-not (absent z h) = let l = number-low in omega arith
            absent-not (here l f h t m) = same_false (key_text X T i) s e (sym number-text ∙ ap (key_text X T) q ∙ t)

        go : (b : Bool) → same (key_text X T i) s ≡ b → eqb (key_at T i) (number_of X T n s) ≡ b
        go true e = eq-eqb (key_at T i) (number_of X T n s) (number_is ∙ ap (number_of X T n) (same-eq (key_text X T i) s e))
        go false e = ne_eqb (key_at T i) (number_of X T n s) (other e)

    -- so it is what `find` gives for its text, and for no other
    pub find-tells : {at len r : ℕ} → FindIs X T at len r → eqb (key_at T i) r ≡ same (key_text X T i) (text_of (byte_at X) at len)
    find-tells {at} {len} {r} f = ap (eqb (key_at T i)) (f.is n N) ∙ number-tells (text_of (byte_at X) at len)

  -- two fields have one number exactly if their keys are the same
  pub same_number : (i j : ℕ) → 1 ≤ i → is_field T i ≡ true → i < n → 1 ≤ j → is_field T j ≡ true → j < n
      → eqb (key_at T i) (key_at T j) ≡ same (key_text X T i) (key_text X T j)
  same_number i j a f b c g d = ap (eqb (key_at T i)) (number_is j c g d) ∙ number-tells i a f b (key_text X T j)

-- a text's number is 0, or below n
pub number_small : (X T : List ℕ) (n : ℕ) (s : Text) → 1 ≤ n → number_of X T n s < n
number_small X T n s l = go (first-is (is_field T) (key_text X T) s n)
  where
    go : Found (is_field T) (key_text X T) s n (number_of X T n s) → number_of X T n s < n
    go (absent z h) = omega arith
    go (here a f h t m) = h

-- so is what `find` gives
pub find-small : {X T : List ℕ} {n at len r : ℕ} → Numbered X T n → FindIs X T at len r → 1 ≤ n → r < n
find-small {X} {T} {n} {at} {len} {r} N f l = rw (f.is n N) (number_small X T n (text_of (byte_at X) at len) l)

-- ---- texts that are keys of fields, as the keys of answers are

module _ (X T : List ℕ) (n : ℕ) where
  pub record Known (s : Text) : Type 0 where
    pub item : ℕ
    pub low : 1 ≤ item
    pub high : item < n
    pub field : is_field T item ≡ true
    pub text : key_text X T item ≡ s

  pub known-number : Numbered X T n → (s : Text) (K : Known s) → key_at T K.item ≡ number_of X T n s
  known-number N s K = number_is N K.item K.low K.field K.high ∙ ap (number_of X T n) K.text

  pub known-low : Numbered X T n → (s : Text) → Known s → 1 ≤ number_of X T n s
  known-low N s K = rw (known-number N s K) at (number-low N K.item K.low K.field K.high)

  pub known_tells : Numbered X T n → (s t : Text) → Known s → eqb (number_of X T n s) (number_of X T n t) ≡ same s t
  known_tells N s t K =
      ap (λ (m : ℕ). eqb m (number_of X T n t)) (sym (known-number N s K))
      ∙ number-tells N K.item K.low K.field K.high t ∙ ap (λ (u : Text). same u t) K.text

-- ---- other tables and texts that agree

pub numbered-same : {X T : List ℕ} (X' T' : List ℕ) {n : ℕ} → ((j : ℕ) → 1 ≤ j → j < n → is_field T' j ≡ is_field T j)
    → ((j : ℕ) → 1 ≤ j → j < n → key_text X' T' j ≡ key_text X T j) → ((j : ℕ) → 1 ≤ j → j < n → key_at T' j ≡ key_at T j)
    → ((b : ℕ) → b < bucket_count → newest_at T' b ≡ newest_at T b) → ((j : ℕ) → 1 ≤ j → j < n → link_at T' j ≡ link_at T j)
    → Numbered X T n → Numbered X' T' n
numbered-same {X} {T} X' T' {n} fields texts keys news links N = record {
  given = record {
    at = λ i l k h. rw (keys i l h) (first-same (is_field T) (is_field T') (key_text X T) (key_text X' T') n fields texts i (key_at T i) l h
        (N.given.at i l (sym (fields i l h) ∙ k) h));
  };
  chains = chain-moved bucket_of (is_field T') (key_text X' T') (newest_at T') (link_at T') n
      (chain_same (is_field T) (is_field T') (key_text X T) (key_text X' T') n fields texts bucket_of N.chains)
      (λ s. news (bucket_of s) (bucket-small s)) links;
}

-- The index and the answers, what stands from firsts_at on, and the texts from hi on may be overwritten.
pub numbered-stays : {X T : List ℕ} (X' T' : List ℕ) {n : ℕ} (hi : ℕ) → n ≤ capacity
    → ((j : ℕ) → j < 8 * capacity → numbers T' j ≡ numbers T j) → ((j : ℕ) → keys_at ≤ j → j < firsts_at → numbers T' j ≡ numbers T j)
    → ((p : ℕ) → p < hi → byte_at X' p ≡ byte_at X p) → ((j : ℕ) → 1 ≤ j → j < n → numbers T (8 * j + 2) + numbers T (8 * j + 3) ≤ hi)
    → Numbered X T n → Numbered X' T' n
numbered-stays {X} {T} X' T' {n} hi few low high bytes ends N =
    numbered-same X' T' (λ j l h. ap (λ (k : ℕ). ltb k 16) (low (8 * j) (omega arith)))
    (λ j l h. text-kept X' T T' j (low (8 * j + 2) (omega arith)) (low (8 * j + 3) (omega arith))
    ∙ text_same (byte_at X) (byte_at X') (numbers T (8 * j + 2)) (numbers T (8 * j + 3)) (λ p a b. bytes p (let e = ends j l h in omega arith)))
    (λ j l h. high (keys_at + j) (omega arith) (omega arith)) (λ b h. high (buckets_at + b) (omega arith) (omega arith))
    (λ j l h. high (links_at + j) (omega arith) (omega arith)) N

-- the same texts
pub numbered-kept : {X T : List ℕ} (T' : List ℕ) {n : ℕ} → n ≤ capacity → ((j : ℕ) → j < firsts_at → numbers T' j ≡ numbers T j)
    → Numbered X T n → Numbered X T' n
numbered-kept {X} {T} T' {n} few kept N =
    numbered-same X T' (λ j l h. ap (λ (k : ℕ). ltb k 16) (kept (8 * j) (omega arith)))
    (λ j l h. text-kept X T T' j (kept (8 * j + 2) (omega arith)) (kept (8 * j + 3) (omega arith)))
    (λ j l h. kept (keys_at + j) (omega arith)) (λ b h. kept (buckets_at + b) (omega arith)) (λ j l h. kept (links_at + j) (omega arith)) N

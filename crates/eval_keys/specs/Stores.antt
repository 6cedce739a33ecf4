-- One more item on the table: what the stores leave, and that they keep the numbers and the chains.
use Rattle.std.specs.Prelude.{◌≡◌, refl, true, false, List, ℕ, ◌+◌, ◌*◌, ◌≤◌, ◌<◌, ltb, length, get_or, set}
use Rattle.std.proofs.Common.{sym, ap, ◌∙◌, arith}
use Rattle.std.proofs.Math.ListN.{length-set}
use Rattle.std.proofs.Math.Seq.{get_or-set_same, get_or-set_other}
use Rattle.doc_items.specs.Room.{capacity}
use Rattle.eval_keys.specs.Texts.{both, bucket_count, bucket_of, bucket-small}
use Rattle.eval_keys.specs.Columns.{keys_at, buckets_at, links_at, Room, key_at, newest_at, link_at, is_field, key_text}
use Rattle.eval_keys.specs.Numbers.{NoneBefore, NumberOf, Numbered, Kept}
use Rattle.eval_keys.specs.Adding.{chain_same, chain-old, chain-new, given-more}

-- i is a new number, of the bucket b
unfoldable pub with_number : ℕ → ℕ → List ℕ → List ℕ
with_number b i T = set (set (set T (keys_at + i) i) (links_at + i) (get_or T (buckets_at + b) 0)) (buckets_at + b) i

-- ---- what the stores leave

module _ (T : List ℕ) (b i : ℕ) where
  pub link-length : length (with_number b i T) ≡ length T
  unfolding with_number
  link-length =
      length-set (set (set T (keys_at + i) i) (links_at + i) (get_or T (buckets_at + b) 0)) (buckets_at + b) i
      ∙ length-set (set T (keys_at + i) i) (links_at + i) (get_or T (buckets_at + b) 0)
      ∙ length-set T (keys_at + i) i

  link-other : (j : ℕ) → (j ≡ keys_at + i → ⊥) → (j ≡ links_at + i → ⊥) → (j ≡ buckets_at + b → ⊥) → get_or (with_number b i T) j 0 ≡ get_or T j 0
  unfolding with_number
  link-other j k l n =
      get_or-set_other (set (set T (keys_at + i) i) (links_at + i) (get_or T (buckets_at + b) 0)) (buckets_at + b) j i 0 n
      ∙ get_or-set_other (set T (keys_at + i) i) (links_at + i) j (get_or T (buckets_at + b) 0) 0 l
      ∙ get_or-set_other T (keys_at + i) j i 0 k

  module _ (room : Room T) (few : b < bucket_count) (high : i < capacity) where
    link-key : key_at (with_number b i T) i ≡ i
    unfolding with_number
    link-key =
        get_or-set_other (set (set T (keys_at + i) i) (links_at + i) (get_or T (buckets_at + b) 0)) (buckets_at + b) (keys_at + i) i 0 (λ e. omega arith)
        ∙ get_or-set_other (set T (keys_at + i) i) (links_at + i) (keys_at + i) (get_or T (buckets_at + b) 0) 0 (λ e. omega arith)
        ∙ get_or-set_same T (keys_at + i) i 0 (omega arith)

    link-next : link_at (with_number b i T) i ≡ newest_at T b
    unfolding with_number
    link-next =
        get_or-set_other (set (set T (keys_at + i) i) (links_at + i) (get_or T (buckets_at + b) 0)) (buckets_at + b) (links_at + i) i 0 (λ e. omega arith)
        ∙ get_or-set_same (set T (keys_at + i) i) (links_at + i) (get_or T (buckets_at + b) 0) 0 (omega (arith, length-set T (keys_at + i) i))

    link-newest : newest_at (with_number b i T) b ≡ i
    unfolding with_number
    link-newest = get_or-set_same (set (set T (keys_at + i) i) (links_at + i) (get_or T (buckets_at + b) 0)) (buckets_at + b) i 0
        (omega (arith, length-set T (keys_at + i) i, length-set (set T (keys_at + i) i) (links_at + i) (get_or T (buckets_at + b) 0)))

    pub link-kept : Kept i (i + 1) T (with_number b i T)
    link-kept j o = link-other j (λ e. o.keys (omega arith) (omega arith)) (λ e. o.links (omega arith) (omega arith)) (λ e. o.buckets (omega arith) (omega arith))

pub set-kept : (T : List ℕ) (i k : ℕ) → Kept i (i + 1) T (set T (keys_at + i) k)
set-kept T i k j o = get_or-set_other T (keys_at + i) j k 0 (λ e. o.keys (omega arith) (omega arith))

-- an item's key stays
pub text-kept : (X T T' : List ℕ) (j : ℕ) → get_or T' (8 * j + 2) 0 ≡ get_or T (8 * j + 2) 0 → get_or T' (8 * j + 3) 0 ≡ get_or T (8 * j + 3) 0
    → key_text X T' j ≡ key_text X T j
text-kept X T T' j a b = rw (a, b) refl

-- the texts of the items stay where the columns stay
pub texts-kept : (X T T' : List ℕ) (a e j : ℕ) → j < capacity → Kept a e T T' → key_text X T' j ≡ key_text X T j
texts-kept X T T' a e j h K = text-kept X T T' j
    (K (8 * j + 2) (record { keys = λ y z. omega arith; buckets = λ y z. omega arith; links = λ y z. omega arith }))
    (K (8 * j + 3) (record { keys = λ y z. omega arith; buckets = λ y z. omega arith; links = λ y z. omega arith }))

pub fields-kept : (T T' : List ℕ) (a e j : ℕ) → j < capacity → Kept a e T T' → is_field T' j ≡ is_field T j
fields-kept T T' a e j h K = ap (λ (n : ℕ). ltb n 16)
    (K (8 * j) (record { keys = λ y z. omega arith; buckets = λ y z. omega arith; links = λ y z. omega arith }))

-- ---- the numbers and the chains

module _ (X T : List ℕ) (i : ℕ) (room : Room T) (low : 1 ≤ i) (high : i < capacity) (C : Numbered X T i) where
  -- it has no key
  pub number-skip : is_field T i ≡ false → Numbered X T (i + 1)
  number-skip f = record {
    given = given-more (is_field T) (is_field T) (key_text X T) (key_text X T) (key_at T) (key_at T) i (λ j y z. refl) (λ j y z. refl) (λ j y. refl)
        (λ k. both k f) C.given;
    chains = chain-old bucket_of (is_field T) (key_text X T) (newest_at T) (link_at T) (newest_at T) (link_at T) i C.chains (λ j y. refl)
        (λ N. both N.field f) (λ s. refl);
  }

  -- its text has the number k
  pub number-old : (k : ℕ) → 1 ≤ k → is_field T k ≡ true → k < i → key_text X T k ≡ key_text X T i → NoneBefore (is_field T) (key_text X T) (key_text X T i) k → Numbered X (set T (keys_at + i) k) (i + 1)
  number-old k l f h e m =
      let agree : (j : ℕ) → 1 ≤ j → j < i + 1 → key_text X (set T (keys_at + i) k) j ≡ key_text X T j =
      λ j y z. texts-kept X T (set T (keys_at + i) k) i (i + 1) j (omega arith) (set-kept T i k) in
      let tells : (j : ℕ) → 1 ≤ j → j < i + 1 → is_field (set T (keys_at + i) k) j ≡ is_field T j =
      λ j y z. fields-kept T (set T (keys_at + i) k) i (i + 1) j (omega arith) (set-kept T i k) in
      let F : NumberOf (is_field T) (key_text X T) i k = record { low = l; field = f; upto = omega arith; same = e; none = m } in
      let new : key_at (set T (keys_at + i) k) i ≡ k = get_or-set_same T (keys_at + i) k 0 (omega arith) in
      record {
        given = given-more (is_field T) (is_field (set T (keys_at + i) k)) (key_text X T) (key_text X (set T (keys_at + i) k)) (key_at T) (key_at (set T (keys_at + i) k)) i tells agree
            (λ j y. get_or-set_other T (keys_at + i) (keys_at + j) k 0 (λ q. omega arith)) (λ _. rw new F) C.given;
        chains = chain-old bucket_of (is_field (set T (keys_at + i) k)) (key_text X (set T (keys_at + i) k)) (newest_at T) (link_at T) (newest_at (set T (keys_at + i) k)) (link_at (set T (keys_at + i) k)) i
            (chain_same (is_field T) (is_field (set T (keys_at + i) k)) (key_text X T) (key_text X (set T (keys_at + i) k)) i (λ j y z. tells j y (omega arith)) (λ j y z. agree j y (omega arith)) bucket_of C.chains)
            (λ j y. get_or-set_other T (keys_at + i) (links_at + j) k 0 (λ q. omega arith))
            (λ N. N.none k l (tells k l (omega arith) ∙ f) h (agree k l (omega arith) ∙ e ∙ sym (agree i low (omega arith))))
            (λ s. get_or-set_other T (keys_at + i) (buckets_at + bucket_of s) k 0 (λ q. omega (arith, bucket-small s)));
      }

  -- it has a new text
  pub number-new : (b : ℕ) → is_field T i ≡ true → b ≡ bucket_of (key_text X T i) → NoneBefore (is_field T) (key_text X T) (key_text X T i) i → Numbered X (with_number b i T) (i + 1)
  number-new b f e m =
      let few : b < bucket_count = omega (arith, bucket-small (key_text X T i)) in
      let agree : (j : ℕ) → 1 ≤ j → j < i + 1 → key_text X (with_number b i T) j ≡ key_text X T j =
      λ j y z. texts-kept X T (with_number b i T) i (i + 1) j (omega arith) (link-kept T b i room few high) in
      let tells : (j : ℕ) → 1 ≤ j → j < i + 1 → is_field (with_number b i T) j ≡ is_field T j =
      λ j y z. fields-kept T (with_number b i T) i (i + 1) j (omega arith) (link-kept T b i room few high) in
      let here : key_text X (with_number b i T) i ≡ key_text X T i = agree i low (omega arith) in
      let F : NumberOf (is_field T) (key_text X T) i i = record { low = low; field = f; upto = omega arith; same = refl; none = m } in
      let bucket : bucket_of (key_text X (with_number b i T) i) ≡ b = ap bucket_of here ∙ sym e in
      record {
        given = given-more (is_field T) (is_field (with_number b i T)) (key_text X T) (key_text X (with_number b i T)) (key_at T) (key_at (with_number b i T)) i tells agree
            (λ j y. link-other T b i (keys_at + j) (λ q. omega arith) (λ q. omega arith) (λ q. omega arith))
            (λ _. rw (link-key T b i room few high) F) C.given;
        chains = chain-new bucket_of (is_field (with_number b i T)) (key_text X (with_number b i T)) (newest_at T) (link_at T) (newest_at (with_number b i T)) (link_at (with_number b i T)) i
            (chain_same (is_field T) (is_field (with_number b i T)) (key_text X T) (key_text X (with_number b i T)) i (λ j y z. tells j y (omega arith)) (λ j y z. agree j y (omega arith)) bucket_of C.chains)
            (λ j y. link-other T b i (links_at + j) (λ q. omega arith) (λ q. omega arith) (λ q. omega arith))
            (record { low = low; field = tells i low (omega arith) ∙ f; none = λ j y k z q. m j y (sym (tells j y (omega arith)) ∙ k) z (sym (agree j y (omega arith)) ∙ q ∙ here) })
            (ap (newest_at (with_number b i T)) bucket ∙ link-newest T b i room few high)
            (link-next T b i room few high ∙ sym (ap (newest_at T) bucket))
            (λ s d. link-other T b i (buckets_at + bucket_of s) (λ q. omega (arith, bucket-small s)) (λ q. omega (arith, bucket-small s))
            (λ q. d (let z : bucket_of s ≡ b = omega arith in z ∙ sym bucket)));
      }

-- no item yet, the buckets empty
pub number-none : (X T : List ℕ) → ((b : ℕ) → b < bucket_count → newest_at T b ≡ 0) → Numbered X T 1
number-none X T z = record {
  given = record { at = λ i l k h. absurd (omega arith) };
  chains = record {
    newest = λ s l. let e = z (bucket_of s) (bucket-small s) in absurd (omega arith);
    all = λ j N h. let l : 1 ≤ j = N.low in absurd (omega arith);
    falls = λ r N h. let l : 1 ≤ r = N.low in absurd (omega arith);
    next = λ r N h y. let l : 1 ≤ r = N.low in absurd (omega arith);
    rest = λ r N h j M y e. let l : 1 ≤ r = N.low in absurd (omega arith);
  };
}

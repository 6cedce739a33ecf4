-- The keys of a document that stands in memory (doc_items' Holds): what an item names as its key is the field's key in the tree, and
-- numbers tell fields apart as the rules' `same` does.
use Rattle.std.specs.Prelude.{◌≡◌, refl, List, [], ◌∷◌, ℕ, zero, suc, ◌+◌, ◌-◌, ◌*◌, ◌≤◌, ◌<◌, eqb, length, get_or}
use Rattle.std.proofs.Common.{sym, ap, ◌∙◌, arith, lt-ltb}
use Rattle.std.proofs.Math.Seq.{slice, slice_empty, slice-cons}
use Rattle.rules.specs.Bytes.{Text, byte_at, same}
use Rattle.rules.specs.Tree.{Node}
use Rattle.doc_items.specs.Room.{capacity}
use Rattle.doc_items.specs.Holds.{Spells, TextAt, NodeAt}
use Rattle.doc_items.specs.Parts.{numbers, letters}
use Rattle.doc_items.specs.Moving.{Grown, move-shown}
use Rattle.eval_keys.specs.Texts.{text_of}
use Rattle.eval_keys.specs.Columns.{keys_at, firsts_at, key_at}
use Rattle.eval_keys.specs.Numbers.{Numbered, number_of}
use Rattle.eval_keys.specs.Clauses.{FindIs, NumberKeysIs}
use Rattle.eval_keys.specs.Uses.{number-tells, find-tells}

-- ---- texts

-- inside a list nothing hangs on what stands past its end
inside : (X : List ℕ) (o d e : ℕ) → o < length X → get_or X o d ≡ get_or X o e
inside [] o d e l = absurd (omega arith)
inside (x ∷ X) zero d e l = refl
inside (x ∷ X) (suc o) d e l = inside X o d e (omega arith)

spelled : (X : List ℕ) (o : ℕ) (t : Text) → Spells (letters 0 X) o t → o + length t ≤ length X → text_of (byte_at X) o (length t) ≡ t
unfolding text_of
spelled X o [] s l = refl
spelled X o (b ∷ bs) s l =
    let z : o ≡ o - 0 = omega arith in
    let e : byte_at X o ≡ b = inside X o 256 0 (omega arith) ∙ ap (numbers X) z ∙ s.0 in
    ap (λ (c : ℕ). c ∷ text_of (byte_at X) (o + 1) (length bs)) e ∙ ap (λ (cs : Text). b ∷ cs) (spelled X (o + 1) bs s.1 (omega arith))

-- what stands at an offset is the text that offset and length name
pub text-is : (X : List ℕ) {lo hi o z : ℕ} {t : Text} → hi ≤ length X → TextAt (letters 0 X) lo hi o z t → text_of (byte_at X) o z ≡ t
text-is X {lo} {hi} {o} {z} {t} l x =
    ap (text_of (byte_at X) o) x.size ∙ spelled X o t x.bytes (omega (arith, x.upto, x.size))

-- it is the slice between the two
pub text-slice : (X : List ℕ) (o z : ℕ) → o + z ≤ length X → text_of (byte_at X) o z ≡ slice o (o + z) X
unfolding text_of
text-slice X o zero l = let e : o ≡ o + 0 = omega arith in sym (slice_empty o X) ∙ ap (λ (n : ℕ). slice o n X) e
text-slice X o (suc z) l =
    let p : o + 1 + z ≡ o + suc z = omega arith in
    let q : o + 1 ≡ suc o = omega arith in
    ap (λ (s : Text). byte_at X o ∷ s)
    (text-slice X (o + 1) z (omega arith) ∙ ap (λ (n : ℕ). slice (o + 1) n X) p ∙ ap (λ (n : ℕ). slice n (o + suc z) X) q)
    ∙ sym (slice-cons o (o + suc z) X 256 (omega arith) l)

-- ---- numbers tell fields apart as their keys' texts do

module _ {X T : List ℕ} {n lo hi : ℕ} (N : Numbered X T n) (room : hi ≤ length X) (i : ℕ) (low : 0 < i) (high : i < n) (kind : numbers T (8 * i) < 16)
    {k : Text} (key : TextAt (letters 0 X) lo hi (numbers T (8 * i + 2)) (numbers T (8 * i + 3)) k) where
  -- the number of any text
  pub key-tells : (t : Text) → eqb (key_at T i) (number_of X T n t) ≡ same k t
  key-tells t =
      number-tells N i (omega arith) (lt-ltb (numbers T (8 * i)) 16 kind) high t ∙ ap (λ (u : Text). same u t) (text-is X room key)

  -- what `find` gives for a text that stands in the job's bytes
  pub key-found : {o z r : ℕ} {t : Text} → FindIs X T o z r → TextAt (letters 0 X) lo hi o z t → eqb (key_at T i) r ≡ same k t
  key-found {o} {z} {r} {t} f x =
      find-tells N i (omega arith) (lt-ltb (numbers T (8 * i)) 16 kind) high f
      ∙ ap (λ (u : Text). same u (text_of (byte_at X) o z)) (text-is X room key) ∙ ap (same k) (text-is X room x)

  -- the same by slices
  pub key-slice : {o z r : ℕ} → FindIs X T o z r → o + z ≤ length X → eqb (key_at T i) r ≡ same k (slice o (o + z) X)
  key-slice {o} {z} {r} f l =
      find-tells N i (omega arith) (lt-ltb (numbers T (8 * i)) 16 kind) high f
      ∙ ap (λ (u : Text). same u (text_of (byte_at X) o z)) (text-is X room key) ∙ ap (same k) (text-slice X o z l)

-- ---- what numbering leaves as it is: items, index, answers

pub number-below : {X : List ℕ} {items : ℕ} {T T' : List ℕ} → NumberKeysIs X items T T' → (j : ℕ) → j < keys_at → numbers T' j ≡ numbers T j
number-below w j l = w.kept j (record { keys = λ y z. omega arith; buckets = λ y z. omega arith; links = λ y z. omega arith })

-- and what stands behind its columns
pub number-above : {X : List ℕ} {items : ℕ} {T T' : List ℕ} → items < capacity → NumberKeysIs X items T T' → (j : ℕ) → firsts_at ≤ j
    → numbers T' j ≡ numbers T j
number-above few w j l = w.kept j (record { keys = λ y z. omega arith; buckets = λ y z. omega arith; links = λ y z. omega arith })

-- so a node stands where it stood
pub node_stays : (g g' h : ℕ → ℕ) (lo hi : ℕ) (N : ℕ → ℕ → Type 0) (role i : ℕ) (n : Node) → ((j : ℕ) → j < 8 * capacity → g' j ≡ g j) → i < capacity
    → i + g (8 * i + 1) ≤ capacity → NodeAt g h lo hi N role i n → NodeAt g' h lo hi N role i n
node_stays g g' h lo hi N role i n same low high x =
    let M : Grown h h lo hi lo hi = record { low = omega arith; high = omega arith; text = λ p u v. refl } in
    let e : g' (8 * i + 1) ≡ g (8 * i + 1) = same (8 * i + 1) (omega arith) in
    move-shown N g g' M 0 n role (g (8 * i)) (g (8 * i + 4)) (g (8 * i + 5)) (g (8 * i + 7)) (i + 1) (i + g (8 * i + 1))
    (g' (8 * i)) (g' (8 * i + 4)) (g' (8 * i + 5)) (g' (8 * i + 7)) (i + 1) (i + g' (8 * i + 1))
    (same (8 * i) (omega arith)) (same (8 * i + 4) (omega arith)) (same (8 * i + 5) (omega arith)) (same (8 * i + 7) (omega arith))
    (omega arith) (omega arith) (λ k u v. let z : k + 8 * 0 ≡ k = omega arith in sym (ap g' z ∙ same k (omega arith))) x

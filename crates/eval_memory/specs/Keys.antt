-- Keys of the document by their numbers: a number names the item whose key text it stands for. T is the table, B the job's bytes, n how many
-- items there are, the root's included; `key` gives the text that a number names.
use Rattle.std.specs.Prelude.{◌≡◌, refl, Bool, true, false, List, [], ℕ, ◌+◌, ◌-◌, ◌*◌, ◌≤◌, ◌<◌, eqb, leb, length, take, drop}
use Rattle.std.proofs.Common.{sym, ap, ◌∙◌, arith, leb-true}
use Rattle.rules.specs.Bytes.{Text, byte_at, same}
use Rattle.text_chars.specs.Parts.{part_slice}
use Rattle.doc_items.specs.Parts.{numbers}
use Rattle.eval_keys.specs.Texts.{text_of}
use Rattle.eval_keys.specs.Columns.{is_field, key_text, key_at}
use Rattle.eval_keys.specs.Numbers.{Numbered, number_of}
use Rattle.eval_keys.specs.Clauses.{FindIs}
use Rattle.eval_keys.specs.Documents.{text-slice}
use Rattle.eval_keys.specs.Uses.{number-low, number-upto, number-own, number_is, number-tells, number-text}
use Rattle.eval_writer.specs.Model.{word_at}
use Rattle.eval_writer.specs.Keys.{KeyIn, KeysIn, AllKeysIn, FieldKeysIn}
use Rattle.sheet_kept.specs.Kept.{Held, simple, listed, keyed, Helds, no-helds, also, HeldFields, no_fields, field}

-- k is a key's number: an item that is its own number
pub record KeyNumber (T : List ℕ) (n k : ℕ) : Type 0 where
  pub low : 1 ≤ k
  pub high : k < n
  pub field : is_field T k ≡ true
  pub own : key_at T k ≡ k

-- ---- the number k stands for the text t: it tells the keys that have the text

abbrev pub Means : (ℕ → Text) → List ℕ → ℕ → ℕ → Text → Type 0
Means key T n k t = (j : ℕ) → KeyNumber T n j → eqb j k ≡ same (key j) t

-- what a number names is the text of its item
pub key-is : (key : ℕ → Text) (T B : List ℕ) (k : ℕ) → KeyIn key T B k → key k ≡ key_text B T k
unfolding word_at text_of
key-is key T B k i = go (leb (o + length (key k)) (length B)) refl i.text
  where
    o : ℕ
    o = numbers T (8 * k + 2)

    go : (t : Bool) → leb (o + length (key k)) (length B) ≡ t → word_at B o (length (key k)) ≡ key k → key k ≡ key_text B T k
    go true e f =
        let l = leb-true (o + length (key k)) (length B) e in
        let z : length (key k) ≡ o + length (key k) - o = omega arith in
        sym f ∙ rw (word_at, e)
        (ap (λ (m : ℕ). take m (drop o B)) z ∙ part_slice B o (o + length (key k)) (omega arith)
        ∙ sym (text-slice B o (length (key k)) l) ∙ ap (text_of (byte_at B) o) (sym i.len))
    go false e f =
        let g : key k ≡ [] = sym f ∙ rw (word_at, e) refl in
        let z : numbers T (8 * k + 3) ≡ 0 = i.len ∙ ap length g in
        g ∙ sym (ap (text_of (byte_at B) o) z)

module _ {key : ℕ → Text} {T B : List ℕ} {n : ℕ} (N : Numbered B T n) (names : (j : ℕ) → KeyNumber T n j → KeyIn key T B j) where
  -- the number of a text stands for it
  pub number-means : (t : Text) → Means key T n (number_of B T n t) t
  number-means t j K =
      ap (λ (i : ℕ). eqb i (number_of B T n t)) (sym K.own) ∙ number-tells N j K.low K.field K.high t
      ∙ ap (λ (s : Text). same s t) (sym (key-is key T B j (names j K)))

  -- so does what `find` gives
  pub find-means : {at len r : ℕ} → FindIs B T at len r → Means key T n r (text_of (byte_at B) at len)
  find-means {at} {len} {r} f = rw (f.is n N) (number-means (text_of (byte_at B) at len))

  -- and a key's number for its text
  pub own-means : (k : ℕ) → KeyNumber T n k → Means key T n k (key k)
  own-means k K =
      let e : number_of B T n (key k) ≡ k =
      ap (number_of B T n) (key-is key T B k (names k K)) ∙ sym (number_is N k K.low K.field K.high) ∙ K.own in
      rw e at (number-means (key k))

  -- of a field, the number names its text
  module _ (i : ℕ) (low : 1 ≤ i) (fld : is_field T i ≡ true) (high : i < n) where
    pub field-number : KeyNumber T n (key_at T i)
    field-number =
        let F = N.given.at i low fld high in
        let u = number-upto N i low fld high in
        record { low = number-low N i low fld high; high = omega arith; field = F.field; own = number-own N i low fld high }

    pub field-name : key (key_at T i) ≡ key_text B T i
    field-name = key-is key T B (key_at T i) (names (key_at T i) field-number) ∙ number-text N i low fld high

-- ---- every key in a value

abbrev mutual
  pub EachKey : (ℕ → Type 0) → Held → Type 0
  EachKey P (simple x) = Unit {0}
  EachKey P (listed vs) = EachKeyOf P vs
  EachKey P (keyed ms) = EachField P ms

  pub EachKeyOf : (ℕ → Type 0) → Helds → Type 0
  EachKeyOf P no-helds = Unit {0}
  EachKeyOf P (also v vs) = EachKey P v × EachKeyOf P vs

  pub EachField : (ℕ → Type 0) → HeldFields → Type 0
  EachField P no_fields = Unit {0}
  EachField P (field k v ms) = P k × EachKey P v × EachField P ms

-- so the table has the keys' texts, as copying asks
module _ (key : ℕ → Text) (T B : List ℕ) (P : ℕ → Type 0) (names : (k : ℕ) → P k → KeyIn key T B k) where
  mutual
    pub keys_in : (v : Held) → EachKey P v → KeysIn key T B v
    keys_in (simple x) e = tt
    keys_in (listed vs) e = all_in vs e
    keys_in (keyed ms) e = fields_in ms e

    all_in : (vs : Helds) → EachKeyOf P vs → AllKeysIn key T B vs
    all_in no-helds e = tt
    all_in (also v vs) e = (keys_in v e.0, all_in vs e.1)

    fields_in : (ms : HeldFields) → EachField P ms → FieldKeysIn key T B ms
    fields_in no_fields e = tt
    fields_in (field k v ms) e = (names k e.0, keys_in v e.1, fields_in ms e.2)

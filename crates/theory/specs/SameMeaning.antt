-- The records of a value, read: what is read is the value's own, wherever its texts stand.
use Rattle.std.specs.Prelude.{◌≡◌, ℕ, zero, suc, ◌+◌, ◌≤◌, ◌<◌, Bool, false, ◌&&◌, ◌||◌, eqb}
use Rattle.std.proofs.Math.Path.{refl, ap, ap₂}
use Rattle.std.proofs.Common.{sym, ◌∙◌, arith, length-append}
use mathlib.Core.List.{List, [], ◌∷◌, ◌++◌, append_assoc, append-nil}
use Rattle.std.proofs.Math.Bool.{true}
use Rattle.std.proofs.Math.Dec.{leb}
use Rattle.std.proofs.Math.ListN.{length, drop, length-drop}
use Rattle.std.proofs.Math.Seq.{slice, take-append-add, take-append_seam, drop-append_seam}
use borrow.Author.Tests.{le-leb}
use Rattle.rules.specs.Bytes.{At, Text, within}
use Rattle.rules.specs.Tree.{Scalar, null, boolean, number, string}
use Rattle.rules.specs.Values.{Value, scalar, array_of, object_of, Values, no-values, val, Members, no-members, member}
use Rattle.rules.specs.Values.{count_values, count_members, scalar_records, record_size, value_record_sizes, member_record_sizes, text_size}
use Rattle.rules.specs.Values.{value_text_sizes, member_text_sizes}
use Rattle.rules.specs.Sheet.{two, pair_at, text_record, scalar_record, records, value_records, member_records, texts, value_texts, member_texts}
use Rattle.rules.specs.LookUp.{text_at}
use Rattle.rules.specs.Meaning.{Record, plain, with_number, worded, unread, first_record, bytes_of, records_in, records_of, MeanTheSame}
use Rattle.theory.specs.Layout.{pair-at, length-texts}

-- ---- one record after the other

-- every record takes a byte
bytes-some : (text : List ℕ) (b : ℕ) (s : List ℕ) → 1 ≤ bytes_of (first_record text (b ∷ s))
unfolding first_record bytes_of
bytes-some text b s =
    go (within 1 3 b) ((within 6 7 b || within 9 10 b) && leb 3 (length (b ∷ s))) ((within 4 5 b || eqb b 8) && leb 5 (length (b ∷ s)))
  where
    go : (p q r : Bool)
        → 1 ≤ bytes_of (elim p as (λ p. Record) [
          | true ↦ plain b
          | false ↦ elim q as (λ p. Record) [
            | true ↦ with_number b (pair_at (b ∷ s) 1)
            | false ↦ elim r as (λ p. Record) [ true ↦ worded b (pair_at (b ∷ s) 3) (text_at (b ∷ s) text 0) | false ↦ unread (b ∷ s) ]
          ]
        ])
    go true q r = omega arith
    go false true r = omega arith
    go false false true = omega arith
    go false false false = omega arith

-- so more steps than bytes change nothing
records-fuel : (text : List ℕ) (n m : ℕ) (s : List ℕ) → length s ≤ n → length s ≤ m → records_in n text s ≡ records_in m text s
unfolding records_in
records-fuel text zero zero s h k = refl
records-fuel text (suc n) zero [] h k = refl
records-fuel text zero (suc m) [] h k = refl
records-fuel text (suc n) (suc m) [] h k = refl
records-fuel text zero (suc m) (b ∷ s) h k = absurd (omega arith)
records-fuel text (suc n) zero (b ∷ s) h k = absurd (omega arith)
records-fuel text (suc n) (suc m) (b ∷ s) h k =
    let r = first_record text (b ∷ s) in
    let rest = drop (bytes_of r) (b ∷ s) in
    let shorter : length rest < length (b ∷ s) = omega (arith, length-drop (bytes_of r) (b ∷ s), bytes-some text b s) in
    ap {B = List Record} (λ rs. r ∷ rs) (records-fuel text n m rest (omega arith) (omega arith))

-- ---- where texts stand

pub at_left : {text : List ℕ} {o : ℕ} (s t : Text) → At text o (s ++ t) → At text o s
at_left s t (before, after, l, e) = (before, t ++ after, l, e ∙ ap (λ z. before ++ z) (append_assoc s t after))

pub at_right : {text : List ℕ} {o : ℕ} (s t : Text) (n : ℕ) → o + length s ≡ n → At text o (s ++ t) → At text n t
at_right s t n q (before, after, l, e) = (
  before ++ s,
  after,
  length-append before s ∙ ap (λ k. k + length s) l ∙ q,
  e ∙ ap (λ z. before ++ z) (append_assoc s t after) ∙ sym (append_assoc before s (t ++ after)),
)

pub slice_at : {text : List ℕ} {o : ℕ} (t : Text) → At text o t → slice o (o + length t) text ≡ t
slice_at t (before, after, l, e) =
    rw (e, ← l, take-append-add before (t ++ after) (length t), take-append_seam t after) (drop-append_seam before t)

-- ---- each kind of record

module _ (text : List ℕ) where
  -- a record and what follows it
  first-is : (b : ℕ) (s : List ℕ) (r : Record) (s' : List ℕ) → first_record text (b ∷ s) ≡ r → drop (bytes_of r) (b ∷ s) ≡ s'
      → records_of text (b ∷ s) ≡ r ∷ records_of text s'
  unfolding records_in
  first-is b s r s' e q =
      let first = first_record text (b ∷ s) in
      let rest = drop (bytes_of first) (b ∷ s) in
      let shorter : length rest < length (b ∷ s) = omega (arith, length-drop (bytes_of first) (b ∷ s), bytes-some text b s) in
      ap {B = List Record} (λ rs. first ∷ rs) (records-fuel text (length s) (length rest) rest (omega arith) (omega arith))
      ∙ ap₂ {C = List Record} (λ f rs. f ∷ records_of text rs) e (ap (λ f. drop (bytes_of f) (b ∷ s)) e ∙ q)

  read_plain : (kind : ℕ) (s : List ℕ) → within 1 3 kind ≡ true → records_of text (kind ∷ s) ≡ plain kind ∷ records_of text s
  unfolding first_record bytes_of
  read_plain kind s e = first-is kind s (plain kind) s (rw (first_record, e)) refl

  pub read-numbered : (kind n : ℕ) (s : List ℕ) → within 1 3 kind ≡ false → within 6 7 kind || within 9 10 kind ≡ true → n < 65536
      → records_of text (kind ∷ (two n ++ s)) ≡ with_number kind n ∷ records_of text s
  unfolding first_record bytes_of two
  read-numbered kind n s e f small =
      let whole : leb 3 (length (kind ∷ (two n ++ s))) ≡ true = le-leb 3 (length (kind ∷ (two n ++ s))) (omega arith) in
      first-is kind (two n ++ s) (with_number kind n) s
      (rw (first_record, e, f, whole) (ap (with_number kind) (pair-at (kind ∷ []) s n 1 small refl))) refl

  read-worded : (kind o : ℕ) (t : Text) (s : List ℕ) → within 1 3 kind ≡ false → within 6 7 kind || within 9 10 kind ≡ false
      → within 4 5 kind || eqb kind 8 ≡ true → o + length t < 65536 → At text o t
      → records_of text (text_record kind o t ++ s) ≡ worded kind (length t) t ∷ records_of text s
  unfolding first_record bytes_of text_record
  read-worded kind o t s e f g small stands =
      let body = two o ++ (two (length t) ++ s) in
      let whole : leb 5 (length (kind ∷ body)) ≡ true = le-leb 5 (length (kind ∷ body)) (omega arith) in
      let offset : pair_at (kind ∷ body) 1 ≡ o = pair-at (kind ∷ []) (two (length t) ++ s) o 1 (omega arith) refl in
      let size : pair_at (kind ∷ body) 3 ≡ length t = pair-at (kind ∷ two o) s (length t) 3 (omega arith) refl in
      let its-text : text_at (kind ∷ body) text 0 ≡ t = rw (text_at, offset, size) (slice_at t stands) in
      first-is kind body (worded kind (length t) t) s
      (rw (first_record, e, f, whole, g) (ap₂ (worded kind) size its-text)) refl

-- ---- values

-- there are no more members than bytes
scalar-some : (x : Scalar) → 1 ≤ scalar_records x
unfolding scalar_records
scalar-some null = omega arith
scalar-some (boolean b) = omega arith
scalar-some (number t) = omega arith
scalar-some (string t) = omega arith

record-some : (v : Value) → 1 ≤ record_size v
unfolding record_size
record-some (scalar x) = scalar-some x
record-some (array_of vs) = omega arith
record-some (object_of ms) = omega arith

pub count-values : (vs : Values) → count_values vs ≤ value_record_sizes vs
unfolding count_values record_size
count-values no-values = omega arith
count-values (val v vs) = omega (arith, record-some v, count-values vs)

pub count-members : (ms : Members) → count_members ms ≤ member_record_sizes ms
unfolding count_members record_size
count-members no-members = omega arith
count-members (member k v ms) = omega (arith, count-members ms)

abbrev pub scalar_meaning : Scalar → Record
scalar_meaning null = plain 1
scalar_meaning (boolean false) = plain 2
scalar_meaning (boolean true) = plain 3
scalar_meaning (number t) = worded 4 (length t) t
scalar_meaning (string t) = worded 5 (length t) t

-- a value's records in all but their text offsets, and then others
abbrev mutual
  pub meaning : Value → List Record → List Record
  meaning (scalar x) rs = scalar_meaning x ∷ rs
  meaning (array_of vs) rs = with_number 6 (count_values vs) ∷ value_meanings vs rs
  meaning (object_of ms) rs = with_number 7 (count_members ms) ∷ member_meanings ms rs

  pub value_meanings : Values → List Record → List Record
  value_meanings no-values rs = rs
  value_meanings (val v vs) rs = meaning v (value_meanings vs rs)

  pub member_meanings : Members → List Record → List Record
  member_meanings no-members rs = rs
  member_meanings (member k v ms) rs = worded 8 (length k) k ∷ meaning v (member_meanings ms rs)

module _ (text : List ℕ) where
  read-scalar : (x : Scalar) (o : ℕ) (s : List ℕ) → At text o (texts (scalar x)) → o + text_size (scalar x) < 65536
      → records_of text (scalar_record o x ++ s) ≡ scalar_meaning x ∷ records_of text s
  unfolding texts text_size scalar_record
  read-scalar null o s stands small = read_plain text 1 s refl
  read-scalar (boolean false) o s stands small = read_plain text 2 s refl
  read-scalar (boolean true) o s stands small = read_plain text 3 s refl
  read-scalar (number t) o s stands small = read-worded text 4 o t s refl refl refl small stands
  read-scalar (string t) o s stands small = read-worded text 5 o t s refl refl refl small stands

  mutual
    unfolding records record_size texts text_size

    -- a value's records are read as its own
    pub read-value : (v : Value) (o : ℕ) (s : List ℕ) → At text o (texts v) → o + text_size v < 65536 → record_size v < 65536
        → records_of text (records o v ++ s) ≡ meaning v (records_of text s)
    read-value (scalar x) o s stands small few = read-scalar x o s stands small
    read-value (array_of vs) o s stands small few =
        read-numbered text 6 (count_values vs) (value_records o vs ++ s) refl refl (omega (arith, count-values vs))
        ∙ ap {B = List Record} (λ rs. with_number 6 (count_values vs) ∷ rs) (read-values vs o s stands small (omega arith))
    read-value (object_of ms) o s stands small few =
        read-numbered text 7 (count_members ms) (member_records o ms ++ s) refl refl (omega (arith, count-members ms))
        ∙ ap {B = List Record} (λ rs. with_number 7 (count_members ms) ∷ rs) (read-members ms o s stands small (omega arith))

    read-values : (vs : Values) (o : ℕ) (s : List ℕ) → At text o (value_texts vs) → o + value_text_sizes vs < 65536
        → value_record_sizes vs < 65536 → records_of text (value_records o vs ++ s) ≡ value_meanings vs (records_of text s)
    read-values no-values o s stands small few = refl
    read-values (val v vs) o s stands small few =
        let o' = o + text_size v in
        let stands' = at_right (texts v) (value_texts vs) o' (ap (λ n. o + n) (length-texts v)) stands in
        ap (records_of text) (append_assoc (records o v) (value_records o' vs) s)
        ∙ read-value v o (value_records o' vs ++ s) (at_left (texts v) (value_texts vs) stands) (omega arith) (omega arith)
        ∙ ap (meaning v) (read-values vs o' s stands' (omega arith) (omega arith))

    read-members : (ms : Members) (o : ℕ) (s : List ℕ) → At text o (member_texts ms) → o + member_text_sizes ms < 65536
        → member_record_sizes ms < 65536 → records_of text (member_records o ms ++ s) ≡ member_meanings ms (records_of text s)
    read-members no-members o s stands small few = refl
    read-members (member k v ms) o s stands small few =
        let o' = o + length k in
        let o'' = o' + text_size v in
        let front = at_left (k ++ texts v) (member_texts ms) stands in
        let key-size : o + length (k ++ texts v) ≡ o'' = omega (arith, length-append k (texts v), length-texts v) in
        let rest = member_records o'' ms in
        ap (λ z. records_of text (text_record 8 o k ++ z)) (append_assoc (records o' v) rest s)
        ∙ read-worded text 8 o k (records o' v ++ (rest ++ s)) refl refl refl (omega arith) (at_left k (texts v) front)
        ∙ ap {B = List Record} (λ rs. worded 8 (length k) k ∷ rs)
        (read-value v o' (rest ++ s) (at_right k (texts v) o' refl front) (omega arith) (omega arith)
        ∙ ap (meaning v) (read-members ms o'' s (at_right (k ++ texts v) (member_texts ms) o'' key-size stands) (omega arith) (omega arith)))

  -- a value's table is read as the value
  pub read_table : (v : Value) (o : ℕ) → At text o (texts v) → o + text_size v < 65536 → record_size v < 65536
      → records_of text (records o v) ≡ meaning v []
  unfolding records_in
  read_table v o stands small few = ap (records_of text) (sym (append-nil (records o v))) ∙ read-value v o [] stands small few

-- a value's tables mean the same, wherever its texts stand
pub mean-the-same : (v : Value) (o o' : ℕ) (text text' : List ℕ) → At text o (texts v) → At text' o' (texts v)
    → o + text_size v < 65536 → o' + text_size v < 65536 → record_size v < 65536
    → MeanTheSame (records o v) text (records o' v) text'
mean-the-same v o o' text text' stands stands' small small' few =
    read_table text v o stands small few ∙ sym (read_table text' v o' stands' small' few)

-- texts that end a text part
pub at-end : (before t : Text) (o : ℕ) → length before ≡ o → At (before ++ t) o t
at-end before t o e = (before, [], e, ap (λ z. before ++ z) (sym (append-nil t)))

-- so do the tables after any texts of a trail
pub tables-mean-the-same : (v : Value) (t t' : Text) → length t + text_size v ≤ 32768 → length t' + text_size v ≤ 32768 → record_size v ≤ 32768
    → MeanTheSame (records (length t) v) (t ++ texts v) (records (length t') v) (t' ++ texts v)
tables-mean-the-same v t t' small small' few =
    mean-the-same v (length t) (length t') (t ++ texts v) (t' ++ texts v) (at-end t (texts v) (length t) refl) (at-end t' (texts v) (length t') refl)
    (omega arith) (omega arith) (omega arith)

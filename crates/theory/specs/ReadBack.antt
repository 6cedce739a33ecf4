-- A sheet determines its entries and its root's value: what is read of its parts leads back to them.
use Rattle.std.specs.Prelude.{◌≡◌, ℕ, zero, suc, ◌+◌, max, ◌≤◌, ◌<◌, true, false, eqb}
use Rattle.std.proofs.Math.Path.{refl, sym, ap}
use Rattle.std.proofs.Common.{◌∙◌, ap₂, arith, add-zero}
use mathlib.Core.List.{List, [], ◌∷◌, ◌++◌, append_assoc, append-nil, tail}
use Rattle.std.proofs.Math.Option.{none, some}
use Rattle.std.proofs.Math.ListN.{length, length-append}
use Rattle.answers.specs.Ask.{Trail}
use Rattle.rules.specs.Bytes.{Text, At}
use Rattle.rules.specs.Tree.{Scalar, null, boolean, number, string}
use Rattle.rules.specs.Values.{Value, scalar, array_of, object_of, Values, no-values, val, Members, no-members, member, Answer}
use Rattle.rules.specs.Values.{count_values, count_members, record_size, text_size, nesting_of, deepest_value, deepest_member}
use Rattle.rules.specs.Sheet.{records, texts, entry_record, entry_size, answer_texts, answer_text_size, trail_size, trail_text_size, trail_records}
use Rattle.rules.specs.Sheet.{trail_texts}
use Rattle.rules.specs.Checking.{is_sheet}
use Rattle.rules.specs.Meaning.{Record, plain, with_number, worded, unread, records_in, records_of, MeanTheSame}
use Rattle.theory.specs.Layout.{Numbered, is_sheet-inv, length-records, length-texts, length-trail_records, length-trail_texts}
use Rattle.theory.specs.SameMeaning.{at_left, at_right, scalar_meaning, meaning, value_meanings, member_meanings, read-numbered}
use Rattle.theory.specs.SameMeaning.{read-value, read_table}

-- ---- the value of some records: the first number is how many containers may stand inside one another

word_of : Record → Text
word_of (plain kind) = []
word_of (with_number kind n) = []
word_of (worded kind n t) = t
word_of (unread s) = []

first_word : List Record → Text
unfolding word_of
first_word [] = []
first_word (r ∷ rs) = word_of r

values_back : (List Record → Value × List Record) → ℕ → List Record → Values × List Record
values_back one zero rs = (no-values, rs)
values_back one (suc n) rs =
    let (v, rs') = one rs in
    let (vs, rs'') = values_back one n rs' in
    (val v vs, rs'')

members_back : (List Record → Value × List Record) → ℕ → List Record → Members × List Record
unfolding first_word
members_back one zero rs = (no-members, rs)
members_back one (suc n) rs =
    let (v, rs') = one (tail rs) in
    let (ms, rs'') = members_back one n rs' in
    (member (first_word rs) v ms, rs'')

value_back : ℕ → List Record → Value × List Record
unfolding values_back members_back
value_back zero rs = (scalar null, rs)
value_back (suc n) [] = (scalar null, [])
value_back (suc n) (plain kind ∷ rs) = (scalar (elim (eqb kind 1) [ true ↦ null | false ↦ boolean (eqb kind 3) ]), rs)
value_back (suc n) (worded kind k t ∷ rs) = (scalar (elim (eqb kind 4) [ true ↦ number t | false ↦ string t ]), rs)
value_back (suc n) (with_number kind k ∷ rs) =
    elim (eqb kind 6) [
      | true ↦ let (vs, rs') = values_back (value_back n) k rs in (array_of vs, rs')
      | false ↦ let (ms, rs') = members_back (value_back n) k rs in (object_of ms, rs')
    ]
value_back (suc n) (unread s ∷ rs) = (scalar null, rs)

scalar-back : (x : Scalar) (n : ℕ) (rs : List Record) → value_back (suc n) (scalar_meaning x ∷ rs) ≡ (scalar x, rs)
unfolding value_back
scalar-back null n rs = refl
scalar-back (boolean false) n rs = refl
scalar-back (boolean true) n rs = refl
scalar-back (number t) n rs = refl
scalar-back (string t) n rs = refl

mutual
  unfolding value_back nesting_of count_values count_members

  value-back : (v : Value) (n : ℕ) (rs : List Record) → nesting_of v ≤ n → value_back (suc n) (meaning v rs) ≡ (v, rs)
  value-back (scalar x) n rs deep = scalar-back x n rs
  value-back (array_of vs) zero rs deep = absurd (omega arith)
  value-back (array_of vs) (suc n) rs deep = ap (λ p. (array_of p.0, p.1)) (values-back vs n rs (omega arith))
  value-back (object_of ms) zero rs deep = absurd (omega arith)
  value-back (object_of ms) (suc n) rs deep = ap (λ p. (object_of p.0, p.1)) (members-back ms n rs (omega arith))

  values-back : (vs : Values) (n : ℕ) (rs : List Record) → deepest_value vs ≤ n
      → values_back (value_back (suc n)) (count_values vs) (value_meanings vs rs) ≡ (vs, rs)
  values-back no-values n rs deep = refl
  values-back (val v vs) n rs deep =
      rw (value-back v n (value_meanings vs rs) (omega arith), values-back vs n rs (omega arith))

  members-back : (ms : Members) (n : ℕ) (rs : List Record) → deepest_member ms ≤ n
      → members_back (value_back (suc n)) (count_members ms) (member_meanings ms rs) ≡ (ms, rs)
  members-back no-members n rs deep = refl
  members-back (member k v ms) n rs deep =
      rw (value-back v n (member_meanings ms rs) (omega arith), members-back ms n rs (omega arith))

-- no two values have the same records
pub one-meaning : (v w : Value) (rs rs' : List Record) → meaning v rs ≡ meaning w rs' → v ≡ w
one-meaning v w rs rs' e =
    let n = max (nesting_of v) (nesting_of w) in
    ap (λ p. p.0) (sym (value-back v n rs (omega arith)) ∙ ap (value_back (suc n)) e ∙ value-back w n rs' (omega arith))

module _ (v w : Value) (o o' : ℕ) (small : o + text_size v < 65536) (small' : o' + text_size w < 65536) (few : record_size v < 65536)
    (few' : record_size w < 65536) where
  -- records of one text part that begin alike are one value's
  pub records-back : (text s s' : List ℕ) → At text o (texts v) → At text o' (texts w) → records o v ++ s ≡ records o' w ++ s' → v ≡ w
  records-back text s s' stands stands' e =
      one-meaning v w (records_of text s) (records_of text s')
      (sym (read-value text v o s stands small few) ∙ ap (records_of text) e ∙ read-value text w o' s' stands' small' few')

  -- tables that mean the same are one value's
  pub one-value-meant : (text text' : List ℕ) → At text o (texts v) → At text' o' (texts w)
      → MeanTheSame (records o v) text (records o' w) text' → v ≡ w
  one-value-meant text text' stands stands' e =
      one-meaning v w [] [] (sym (read_table text v o stands small few) ∙ e ∙ read_table text' w o' stands' small' few')

-- ---- the trail

abbrev pub entry_meaning : ℕ → Answer → List Record → List Record
entry_meaning b none rs = with_number 10 b ∷ rs
entry_meaning b (some v) rs = with_number 9 b ∷ meaning v rs

abbrev pub trail_meaning : Trail Answer → List Record → List Record
trail_meaning [] rs = rs
trail_meaning (e ∷ S) rs = trail_meaning S (entry_meaning e.0 e.1 rs)

module _ (text : List ℕ) where
  read-entry : (b : ℕ) (a : Answer) (o : ℕ) (s : List ℕ) → At text o (answer_texts a) → o + answer_text_size a < 65536 → entry_size a < 65536
      → b < 65536 → records_of text (entry_record o b a ++ s) ≡ entry_meaning b a (records_of text s)
  unfolding entry_record entry_size answer_texts answer_text_size
  read-entry b none o s stands small few holds = read-numbered text 10 b s refl refl holds
  read-entry b (some v) o s stands small few holds =
      read-numbered text 9 b (records o v ++ s) refl refl holds
      ∙ ap {B = List Record} (λ rs. with_number 9 b ∷ rs) (read-value text v o s stands small (omega arith))

  read-trail : (S : Trail Answer) (s : List ℕ) → At text 0 (trail_texts S) → trail_text_size S < 65536 → trail_size S < 65536 → Numbered S
      → records_of text (trail_records S ++ s) ≡ trail_meaning S (records_of text s)
  unfolding trail_records trail_texts trail_text_size trail_size
  read-trail [] s stands small few numbers = refl
  read-trail (e ∷ S) s stands small few numbers =
      let (b, a) = e in
      let o = trail_text_size S in
      let size : 0 + length (trail_texts S) ≡ o = omega (arith, length-trail_texts S) in
      ap (records_of text) (append_assoc (trail_records S) (entry_record o b a) s)
      ∙ read-trail S (entry_record o b a ++ s) (at_left (trail_texts S) (answer_texts a) stands) (omega arith) (omega arith) numbers.1
      ∙ ap (trail_meaning S)
      (read-entry b a o s (at_right (trail_texts S) (answer_texts a) o size stands) (omega arith) (omega arith) numbers.0)

-- the entries of some records, after others; the second number is how many there may be
trail_back : ℕ → ℕ → Trail Answer → List Record → Trail Answer
unfolding value_back
trail_back deep zero S rs = S
trail_back deep (suc n) S [] = S
trail_back deep (suc n) S (plain kind ∷ rs) = S
trail_back deep (suc n) S (worded kind k t ∷ rs) = S
trail_back deep (suc n) S (unread s ∷ rs) = S
trail_back deep (suc n) S (with_number kind b ∷ rs) =
    elim (eqb kind 10) [
      | true ↦ trail_back deep n ((b, none) ∷ S) rs
      | false ↦ let (v, rs') = value_back deep rs in trail_back deep n ((b, some v) ∷ S) rs'
    ]

deepest_entry : Trail Answer → ℕ
deepest_entry [] = 0
deepest_entry (e ∷ S) = max (elim e.1 [ none ↦ 0 | some v ↦ nesting_of v ]) (deepest_entry S)

entry-back : (b : ℕ) (a : Answer) (deep n : ℕ) (S : Trail Answer) (rs : List Record) → deepest_entry ((b, a) ∷ S) ≤ deep
    → trail_back (suc deep) (suc n) S (entry_meaning b a rs) ≡ trail_back (suc deep) n ((b, a) ∷ S) rs
unfolding trail_back deepest_entry
entry-back b none deep n S rs d = refl
entry-back b (some v) deep n S rs d = rw (value-back v deep rs (omega arith))

trail-back : (S : Trail Answer) (deep n : ℕ) (rs : List Record) → deepest_entry S ≤ deep
    → trail_back (suc deep) (n + length S) [] (trail_meaning S rs) ≡ trail_back (suc deep) n S rs
unfolding deepest_entry
trail-back [] deep n rs d = rw (add-zero n)
trail-back (e ∷ S) deep n rs d =
    let count : n + length (e ∷ S) ≡ suc n + length S = omega arith in
    ap (λ k. trail_back (suc deep) k [] (trail_meaning (e ∷ S) rs)) count
    ∙ trail-back S deep (suc n) (entry_meaning e.0 e.1 rs) (omega arith)
    ∙ entry-back e.0 e.1 deep n S rs d

end_back : (deep n : ℕ) (S : Trail Answer) → trail_back deep n S [] ≡ S
unfolding trail_back
end_back deep zero S = refl
end_back deep (suc n) S = refl

-- no two trails have the same records
pub one-trail-meaning : (S S' : Trail Answer) → trail_meaning S [] ≡ trail_meaning S' [] → S ≡ S'
one-trail-meaning S S' e =
    let deep = max (deepest_entry S) (deepest_entry S') in
    let swap : length S' + length S ≡ length S + length S' = omega arith in
    sym (end_back (suc deep) (length S') S) ∙ sym (trail-back S deep (length S') [] (omega arith))
    ∙ ap₂ (λ n rs. trail_back (suc deep) n [] rs) swap e
    ∙ trail-back S' deep (length S) [] (omega arith) ∙ end_back (suc deep) (length S) S'

-- ---- sheets

module _ (trail table text : List ℕ) (short : length trail ≤ 32768) (short' : length table ≤ 32768) (short'' : length text ≤ 32768) where
  -- what is read of a sheet's parts
  pub sheet-read : (S : Trail Answer) (v : Value) → is_sheet S v trail table text ≡ true → Numbered S
      → (records_of text trail ≡ trail_meaning S []) × (records_of text table ≡ meaning v [])
  unfolding records_in
  sheet-read S v e numbers =
      let (trail_is, table_is, text-is) = is_sheet-inv S v trail table text e in
      let stands : At text 0 (trail_texts S ++ texts v) = ([], [], refl, text-is ∙ sym (append-nil (trail_texts S ++ texts v))) in
      let offset : 0 + length (trail_texts S) ≡ trail_text_size S = omega (arith, length-trail_texts S) in
      let few : trail_size S ≤ 32768 = omega (arith, ap length trail_is, length-trail_records S) in
      let few' : record_size v ≤ 32768 = omega (arith, ap length table_is, length-records (trail_text_size S) v) in
      let small : trail_text_size S + text_size v ≤ 32768 =
      omega (arith, ap length text-is, length-append (trail_texts S) (texts v), length-trail_texts S, length-texts v) in (
        ap (records_of text) (trail_is ∙ sym (append-nil (trail_records S)))
            ∙ read-trail text S [] (at_left (trail_texts S) (texts v) stands) (omega arith) (omega arith) numbers,
        ap (records_of text) table_is
            ∙ read_table text v (trail_text_size S) (at_right (trail_texts S) (texts v) (trail_text_size S) offset stands) (omega arith) (omega arith),
      )

  -- three parts that may be lent are the sheet of one trail and one value
  pub sheet-back : (S S' : Trail Answer) (v v' : Value) → is_sheet S v trail table text ≡ true → is_sheet S' v' trail table text ≡ true
      → Numbered S → Numbered S' → (S ≡ S') × (v ≡ v')
  sheet-back S S' v v' e e' numbers numbers' =
      let (t, u) = sheet-read S v e numbers in
      let (t', u') = sheet-read S' v' e' numbers' in
      (one-trail-meaning S S' (sym t ∙ t'), one-meaning v v' [] [] (sym u ∙ u'))

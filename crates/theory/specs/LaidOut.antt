-- A value that is laid out in a table is whole there: it ends where its records end, at any levels that are enough.
use Rattle.std.specs.Prelude.{◌≡◌, ℕ, zero, suc, ◌+◌, ◌≤◌, ◌<◌, Bool, true, false}
use Rattle.std.proofs.Math.Path.{refl, ap}
use Rattle.std.proofs.Common.{◌∙◌, arith}
use mathlib.Core.List.{List, [], ◌∷◌, ◌++◌, append_assoc}
use Rattle.std.proofs.Math.Option.{Option, some}
use Rattle.std.proofs.Math.ListN.{length, length-append}
use Rattle.std.proofs.lemmas.List.{get_or_at}
use Rattle.rules.specs.Bytes.{Text, byte_at, At}
use Rattle.rules.specs.Tree.{Scalar, null, boolean, number, string}
use Rattle.rules.specs.Values.{Value, scalar, array_of, object_of, Values, no-values, val, Members, no-members, member}
use Rattle.rules.specs.Values.{count_values, count_members, scalar_records, record_size, value_record_sizes, member_record_sizes}
use Rattle.rules.specs.Values.{text_size, value_text_sizes, member_text_sizes, nesting_of, deepest_value, deepest_member}
use Rattle.rules.specs.Sheet.{two, pair_at, text_record, scalar_record, records, value_records, member_records, texts, value_texts, member_texts}
use Rattle.rules.specs.LookUp.{after_text, after_members, after_value, text_at}
use Rattle.theory.specs.Layout.{pair-at, length-records, length-texts}
use Rattle.theory.specs.SameMeaning.{at_left, at_right, slice_at, count-values, count-members}
use Rattle.theory.specs.TableSteps.{container_kind, text-ends, members-zero, members-next, value-plain, value-worded, value-holds}

-- ---- what stands in a list of bytes

module _ {s : List ℕ} {at : ℕ} where
  pub at_byte : (b : ℕ) (t : List ℕ) → At s at (b ∷ t) → byte_at s at ≡ b
  at_byte b t (before, after, l, e) = rw e (get_or_at before b (t ++ after) 256 at l)

  pub at_pair : (n : ℕ) (t : List ℕ) → n < 65536 → At s at (two n ++ t) → pair_at s at ≡ n
  at_pair n t small (before, after, l, e) =
      ap (λ z. pair_at z at) (e ∙ ap (λ z. before ++ z) (append_assoc (two n) t after)) ∙ pair-at before (t ++ after) n at small l

  pub at-inside : (t : List ℕ) → At s at t → at + length t ≤ length s
  at-inside t (before, after, l, e) = omega (arith, ap length e, length-append before (t ++ after), length-append t after)

module _ (table text : List ℕ) where
  -- ---- one record

  module _ (kind o : ℕ) (t : Text) (at : ℕ) (small : o + length t < 65536) (stands : At table at (text_record kind o t)) where
    pub offset_at : pair_at table (at + 1) ≡ o
    unfolding text_record
    offset_at = at_pair o (two (length t)) (omega arith) (at_right (kind ∷ []) (two o ++ two (length t)) (at + 1) refl stands)

    pub length_at : pair_at table (at + 3) ≡ length t
    unfolding text_record two
    length_at = at_pair (length t) [] (omega arith) (at_right (kind ∷ two o) (two (length t)) (at + 3) refl stands)

    -- a text's record is whole
    pub text-laid : At text o t → after_text table (length text) kind at ≡ some (at + 5)
    unfolding text_record
    text-laid its-text =
        text-ends table (length text) kind at (at-inside (text_record kind o t) stands) (at_byte kind (two o ++ two (length t)) stands)
        (omega (arith, offset_at, length_at, at-inside t its-text))

    -- and refers to its text
    pub text-read : At text o t → text_at table text at ≡ t
    unfolding text_at
    text-read its-text = rw (text_at, offset_at, length_at) (slice_at t its-text)

  -- ---- values

  abbrev after : ℕ → ℕ → Option ℕ
  after levels at = after_value levels table (length text) at

  scalar-laid : (x : Scalar) (n o at : ℕ) → At table at (scalar_record o x) → At text o (texts (scalar x)) → o + text_size (scalar x) < 65536
      → after n at ≡ some (at + scalar_records x)
  unfolding scalar_record scalar_records texts text_size text_record
  scalar-laid null n o at stands its-text small =
      let k = at_byte 1 [] stands in value-plain table (length text) n at (omega arith) (omega arith)
  scalar-laid (boolean false) n o at stands its-text small =
      let k = at_byte 2 [] stands in value-plain table (length text) n at (omega arith) (omega arith)
  scalar-laid (boolean true) n o at stands its-text small =
      let k = at_byte 3 [] stands in value-plain table (length text) n at (omega arith) (omega arith)
  scalar-laid (number t) n o at stands its-text small =
      let k = at_byte 4 (two o ++ two (length t)) stands in
      value-worded table (length text) n at (omega arith) (omega arith)
      ∙ ap (λ b. after_text table (length text) b at) k ∙ text-laid 4 o t at small stands its-text
  scalar-laid (string t) n o at stands its-text small =
      let k = at_byte 5 (two o ++ two (length t)) stands in
      value-worded table (length text) n at (omega arith) (omega arith)
      ∙ ap (λ b. after_text table (length text) b at) k ∙ text-laid 5 o t at small stands its-text

  -- a container ends where its members end
  container-laid : (keyed : Bool) (n count at size : ℕ) (body : List ℕ) → count < 65536 → At table at (container_kind keyed ∷ two count ++ body)
      → after_members keyed (after n) table (length text) count (at + 3) ≡ some (at + 3 + size) → after (suc n) at ≡ some (at + (3 + size))
  unfolding two
  container-laid keyed n count at size body small stands e =
      let counted : pair_at table (at + 1) ≡ count =
      at_pair count body small (at_right (container_kind keyed ∷ []) (two count ++ body) (at + 1) refl stands) in
      let inside = at-inside (container_kind keyed ∷ two count ++ body) stands in
      value-holds table (length text) (suc n) at keyed (at_byte (container_kind keyed) (two count ++ body) stands) (omega arith)
      ∙ ap (λ c. after_members keyed (after n) table (length text) c (at + 3)) counted ∙ e
      ∙ ap {B = Option ℕ} some (omega arith)

  pub body_at : (kind count at : ℕ) (body : List ℕ) → At table at (kind ∷ two count ++ body) → At table (at + 3) body
  unfolding two
  body_at kind count at body stands = at_right (kind ∷ two count) body (at + 3) refl stands

  -- the places of a first value and of the others
  pub record FirstValue (v : Value) (vs : Values) (o at : ℕ) : Type 0 where
    pub value-stands : At table at (records o v)
    pub value-text : At text o (texts v)
    pub others-stand : At table (at + record_size v) (value_records (o + text_size v) vs)
    pub others-text : At text (o + text_size v) (value_texts vs)

  pub first-value : (v : Value) (vs : Values) (o at : ℕ) → At table at (value_records o (val v vs)) → At text o (value_texts (val v vs))
      → FirstValue v vs o at
  unfolding records texts
  first-value v vs o at stands its-text =
      let o' = o + text_size v in
      record {
        value-stands = at_left (records o v) (value_records o' vs) stands;
        value-text = at_left (texts v) (value_texts vs) its-text;
        others-stand = at_right (records o v) (value_records o' vs) (at + record_size v) (ap (λ n. at + n) (length-records o v)) stands;
        others-text = at_right (texts v) (value_texts vs) o' (ap (λ n. o + n) (length-texts v)) its-text;
      }

  -- the places of a first member, its key and its value, and of the others
  pub record FirstMember (k : Text) (v : Value) (ms : Members) (o at : ℕ) : Type 0 where
    pub key-stands : At table at (text_record 8 o k)
    pub key-text : At text o k
    pub value-stands : At table (at + 5) (records (o + length k) v)
    pub value-text : At text (o + length k) (texts v)
    pub others-stand : At table (at + 5 + record_size v) (member_records (o + length k + text_size v) ms)
    pub others-text : At text (o + length k + text_size v) (member_texts ms)

  pub first_member : (k : Text) (v : Value) (ms : Members) (o at : ℕ) → At table at (member_records o (member k v ms))
      → At text o (member_texts (member k v ms)) → FirstMember k v ms o at
  unfolding records texts text_record
  first_member k v ms o at stands its-text =
      let o' = o + length k in
      let o'' = o' + text_size v in
      let key = text_record 8 o k in
      let rest = member_records o'' ms in
      let front = at_left (key ++ records o' v) rest stands in
      let words = at_left (k ++ texts v) (member_texts ms) its-text in
      record {
        key-stands = at_left key (records o' v) front;
        key-text = at_left k (texts v) words;
        value-stands = at_right key (records o' v) (at + 5) refl front;
        value-text = at_right k (texts v) o' refl words;
        others-stand = at_right (key ++ records o' v) rest (at + 5 + record_size v) (omega (arith, length-records o' v)) stands;
        others-text =
            at_right (k ++ texts v) (member_texts ms) o'' (omega (arith, length-append k (texts v), length-texts v)) its-text;
      }

  mutual
    unfolding records record_size texts text_size nesting_of

    pub value-laid : (v : Value) (n o at : ℕ) → nesting_of v ≤ n → At table at (records o v) → At text o (texts v) → o + text_size v < 65536
        → record_size v < 65536 → after n at ≡ some (at + record_size v)
    value-laid (scalar x) n o at deep stands its-text small few = scalar-laid x n o at stands its-text small
    value-laid (array_of vs) zero o at deep stands its-text small few = absurd (omega arith)
    value-laid (array_of vs) (suc n) o at deep stands its-text small few =
        container-laid false n (count_values vs) at (value_record_sizes vs) (value_records o vs) (omega (arith, count-values vs)) stands
        (values-laid vs n o (at + 3) (omega arith) (body_at 6 (count_values vs) at (value_records o vs) stands) its-text small (omega arith))
    value-laid (object_of ms) zero o at deep stands its-text small few = absurd (omega arith)
    value-laid (object_of ms) (suc n) o at deep stands its-text small few =
        container-laid true n (count_members ms) at (member_record_sizes ms) (member_records o ms) (omega (arith, count-members ms)) stands
        (members-laid ms n o (at + 3) (omega arith) (body_at 7 (count_members ms) at (member_records o ms) stands) its-text small (omega arith))

    values-laid : (vs : Values) (n o at : ℕ) → deepest_value vs ≤ n → At table at (value_records o vs) → At text o (value_texts vs)
        → o + value_text_sizes vs < 65536 → value_record_sizes vs < 65536
        → after_members false (after n) table (length text) (count_values vs) at ≡ some (at + value_record_sizes vs)
    values-laid no-values n o at deep stands its-text small few =
        members-zero table (length text) (after n) false at ∙ ap {B = Option ℕ} some (omega arith)
    values-laid (val v vs) n o at deep stands its-text small few =
        let f = first-value v vs o at stands its-text in
        let next = at + record_size v in
        members-next table (length text) (after n) false (count_values vs) at at next refl
        (value-laid v n o at (omega arith) f.value-stands f.value-text (omega arith) (omega arith))
        ∙ values-laid vs n (o + text_size v) next (omega arith) f.others-stand f.others-text (omega arith) (omega arith)
        ∙ ap {B = Option ℕ} some (omega arith)

    members-laid : (ms : Members) (n o at : ℕ) → deepest_member ms ≤ n → At table at (member_records o ms) → At text o (member_texts ms)
        → o + member_text_sizes ms < 65536 → member_record_sizes ms < 65536
        → after_members true (after n) table (length text) (count_members ms) at ≡ some (at + member_record_sizes ms)
    members-laid no-members n o at deep stands its-text small few =
        members-zero table (length text) (after n) true at ∙ ap {B = Option ℕ} some (omega arith)
    members-laid (member k v ms) n o at deep stands its-text small few =
        let f = first_member k v ms o at stands its-text in
        let o' = o + length k in
        let next = at + 5 + record_size v in
        members-next table (length text) (after n) true (count_members ms) at (at + 5) next
        (text-laid 8 o k at (omega arith) f.key-stands f.key-text)
        (value-laid v n o' (at + 5) (omega arith) f.value-stands f.value-text (omega arith) (omega arith))
        ∙ members-laid ms n (o' + text_size v) next (omega arith) f.others-stand f.others-text (omega arith) (omega arith)
        ∙ ap {B = Option ℕ} some (omega arith)

-- a value's records anywhere in a table
pub between-laid : (p r text : List ℕ) (v : Value) (n o : ℕ) → nesting_of v ≤ n → At text o (texts v) → o + text_size v < 65536 → record_size v < 65536
    → after_value n (p ++ (records o v ++ r)) (length text) (length p) ≡ some (length p + record_size v)
between-laid p r text v n o deep its-text small few =
    value-laid (p ++ (records o v ++ r)) text v n o (length p) deep (p, r, refl, refl) its-text small few

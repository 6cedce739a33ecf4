-- The sheet's layout: how long its parts are, and numbers in two bytes read back.
use Rattle.std.specs.Prelude.{◌≡◌, refl, ℕ, ◌+◌, ◌*◌, ◌/◌, ◌%◌, ◌≤◌, ◌<◌, List, [], ◌∷◌, ◌++◌, Bool, true, false, ◌&&◌, ◌↔◌, eqb, length}
use Rattle.std.proofs.Common.{sym, ap, ◌∙◌, append_assoc, arith, length-append, get_or-append-add, eqb-true, eq-eqb}
use Rattle.std.proofs.Math.Option.{none, some}
use Rattle.std.proofs.Math.Seq.{get_or-append_seam}
use Rattle.answers.specs.Ask.{Trail}
use Rattle.answers.specs.Theory.Sound.{clash}
use Rattle.rules.specs.Bytes.{Text, same}
use Rattle.rules.specs.Tree.{Scalar, null, boolean, number, string}
use Rattle.rules.specs.Values.{Value, scalar, array_of, object_of, Values, no-values, val, Members, no-members, member, Answer}
use Rattle.rules.specs.Values.{scalar_records, record_size, value_record_sizes, member_record_sizes, text_size, value_text_sizes, member_text_sizes}
use Rattle.rules.specs.Sheet.{two, pair_at, scalar_record, records, value_records, member_records, texts, value_texts, member_texts}
use Rattle.rules.specs.Sheet.{entry_record, answer_texts, entry_size, answer_text_size, trail_size, trail_text_size, trail_records, trail_texts}
use Rattle.rules.specs.Checking.{is_sheet}

-- ---- tests

pub both_true : (a b : Bool) → a && b ≡ true → (a ≡ true) × (b ≡ true)
both_true true b e = (refl, e)
both_true false b e = clash (cc)

pub same-eq : (a b : Text) → same a b ≡ true → a ≡ b
unfolding same
same-eq [] [] e = refl
same-eq [] (y ∷ b) e = clash (cc)
same-eq (x ∷ a) [] e = clash (cc)
same-eq (x ∷ a) (y ∷ b) e = go (eqb x y) refl e (same-eq a b)
  where
    go : (t : Bool) → eqb x y ≡ t → elim t as (λ t. Bool) [ true ↦ same a b | false ↦ false ] ≡ true → (same a b ≡ true → a ≡ b) → x ∷ a ≡ y ∷ b
    go true q k ih = cc (eqb-true x y q, ih k)
    go false q k ih = clash (cc)

pub same_refl : (a : Text) → same a a ≡ true
unfolding same
same_refl [] = refl
same_refl (x ∷ a) = rw (same, eq-eqb x x refl) (same_refl a)

pub same-iff : (a b : Text) → (same a b ≡ true) ↔ (a ≡ b)
same-iff a b = (same-eq a b, λ e. rw e (same_refl b))

-- ---- a number in two bytes

pub length_two : (n : ℕ) → length (two n) ≡ 2
unfolding two
length_two n = refl

pub two_back : (n : ℕ) → n < 65536 → n / 256 % 256 * 256 + n % 256 ≡ n
two_back n small = omega arith

-- a number that stands in a list of bytes is read back
pub pair-at : (p r : List ℕ) (n at : ℕ) → n < 65536 → length p ≡ at → pair_at (p ++ (two n ++ r)) at ≡ n
unfolding pair_at two
pair-at p r n at small e =
    rw (← e, get_or-append_seam p (n / 256 % 256) (n % 256 ∷ r) 256, get_or-append-add p (two n ++ r) 1 256) (two_back n small)

-- ---- lengths

length-scalar : (o : ℕ) (x : Scalar) → length (scalar_record o x) ≡ scalar_records x
unfolding scalar_record scalar_records
length-scalar o null = refl
length-scalar o (boolean true) = refl
length-scalar o (boolean false) = refl
length-scalar o (number t) = refl
length-scalar o (string t) = refl

mutual
  unfolding records record_size

  pub length-records : (o : ℕ) (v : Value) → length (records o v) ≡ record_size v
  length-records o (scalar x) = length-scalar o x
  length-records o (array_of vs) = omega (arith, length-value_records o vs)
  length-records o (object_of ms) = omega (arith, length-member_records o ms)

  length-value_records : (o : ℕ) (vs : Values) → length (value_records o vs) ≡ value_record_sizes vs
  length-value_records o no-values = refl
  length-value_records o (val v vs) =
      rw (length-append, length-records o v, length-value_records (o + text_size v) vs)

  length-member_records : (o : ℕ) (ms : Members) → length (member_records o ms) ≡ member_record_sizes ms
  length-member_records o no-members = refl
  length-member_records o (member k v ms) =
      let o' = o + length k in
      let o'' = o' + text_size v in
      omega (arith, length-append (records o' v) (member_records o'' ms), length-records o' v, length-member_records o'' ms)

mutual
  unfolding texts text_size

  pub length-texts : (v : Value) → length (texts v) ≡ text_size v
  length-texts (scalar x) = refl
  length-texts (array_of vs) = length-value_texts vs
  length-texts (object_of ms) = length-member_texts ms

  length-value_texts : (vs : Values) → length (value_texts vs) ≡ value_text_sizes vs
  length-value_texts no-values = refl
  length-value_texts (val v vs) = rw (length-append, length-texts v, length-value_texts vs)

  length-member_texts : (ms : Members) → length (member_texts ms) ≡ member_text_sizes ms
  length-member_texts no-members = refl
  length-member_texts (member k v ms) =
      rw (length-append, length-append, length-texts v, length-member_texts ms)

pub length-entry : (o b : ℕ) (a : Answer) → length (entry_record o b a) ≡ entry_size a
unfolding entry_record entry_size
length-entry o b none = refl
length-entry o b (some v) = omega (arith, length-records o v)

pub length-answer_texts : (a : Answer) → length (answer_texts a) ≡ answer_text_size a
unfolding answer_texts answer_text_size
length-answer_texts none = refl
length-answer_texts (some v) = length-texts v

pub length-trail_records : (S : Trail Answer) → length (trail_records S) ≡ trail_size S
unfolding trail_records trail_size
length-trail_records [] = refl
length-trail_records (e ∷ S) =
    let o = trail_text_size S in
    omega (arith, length-append (trail_records S) (entry_record o e.0 e.1), length-trail_records S, length-entry o e.0 e.1)

pub length-trail_texts : (S : Trail Answer) → length (trail_texts S) ≡ trail_text_size S
unfolding trail_texts trail_text_size
length-trail_texts [] = refl
length-trail_texts (e ∷ S) =
    omega (arith, length-append (trail_texts S) (answer_texts e.1), length-trail_texts S, length-answer_texts e.1)

-- the number of an entry that stands in the trail is read back
number-after : (p r : List ℕ) (kind b at : ℕ) → b < 65536 → length p ≡ at → pair_at (p ++ (kind ∷ two b ++ r)) (at + 1) ≡ b
number-after p r kind b at small e =
    ap (λ s. pair_at s (at + 1)) (sym (append_assoc p (kind ∷ []) (two b ++ r)))
    ∙ pair-at (p ++ (kind ∷ [])) r b (at + 1) small (omega (arith, length-append p (kind ∷ [])))

pub number_at : (p r : List ℕ) (o b : ℕ) (a : Answer) (at : ℕ) → b < 65536 → length p ≡ at
    → pair_at (p ++ (entry_record o b a ++ r)) (at + 1) ≡ b
unfolding entry_record
number_at p r o b none at small e = number-after p r 10 b at small e
number_at p r o b (some v) at small e = number-after p (records o v ++ r) 9 b at small e

-- an entry takes at least three bytes
pub entry-some : (a : Answer) → 3 ≤ entry_size a
unfolding entry_size
entry-some none = omega arith
entry-some (some v) = omega arith

pub length-trail : (S : Trail Answer) → length S ≤ trail_size S
unfolding trail_size
length-trail [] = omega arith
length-trail (e ∷ S) = omega (arith, entry-some e.1, length-trail S)

-- numbers that two bytes hold
abbrev pub Numbered : Trail Answer → Type 0
Numbered [] = Unit {0}
Numbered (e ∷ S) = (e.0 < 65536) × Numbered S

-- ---- the layout is exact

pub is_sheet-inv : (S : Trail Answer) (v : Value) (trail table text : List ℕ) → is_sheet S v trail table text ≡ true
    → (trail ≡ trail_records S) × (table ≡ records (trail_text_size S) v) × (text ≡ trail_texts S ++ texts v)
unfolding is_sheet
is_sheet-inv S v trail table text e =
    let (h, k) = both_true _ _ e in
    let (f, g) = both_true _ _ h in
    (same-eq _ _ f, same-eq _ _ g, same-eq _ _ k)

pub is_sheet-intro : (S : Trail Answer) (v : Value)
    → is_sheet S v (trail_records S) (records (trail_text_size S) v) (trail_texts S ++ texts v) ≡ true
unfolding is_sheet
is_sheet-intro S v = rw (is_sheet, same_refl (trail_records S), same_refl (records (trail_text_size S) v), same_refl (trail_texts S ++ texts v))

-- One record of a value as kept, in both forms: what the code makes of its bytes is the rules' record.
use Rattle.std.specs.Prelude.{◌≡◌, ℕ, ◌+◌, ◌-◌, ◌/◌, ◌%◌, ◌≤◌, ◌<◌, List, [], ◌∷◌, ◌++◌, true, false, length, get_or}
use Rattle.std.proofs.Math.Path.{refl, ap}
use Rattle.std.proofs.Common.{sym, ◌∙◌, append_assoc, le-ltb}
use native.Mathlib.Omega.{arith}
use Rattle.std.proofs.Math.ListN.{drop}
use Rattle.std.proofs.lemmas.Bool.{lt-leb}
use Rattle.rules.specs.Bytes.{Text}
use Rattle.rules.specs.Tree.{Scalar, null, boolean, number, string}
use Rattle.rules.specs.Values.{record_size, value_record_sizes, member_record_sizes}
use Rattle.rules.specs.Sheet.{two, text_record}
use Rattle.theory.specs.Layout.{two_back}
use Rattle.sheet_kept.specs.Kept.{Held, simple, listed, keyed, Helds, no-helds, also, HeldFields, no_fields, field, named, named_all, named_fields}
use Rattle.sheet_kept.specs.Kept.{count_helds, count_fields, key_record}
use Rattle.sheet_kept.specs.InTurn.{Rec, plain, head, word, name, text_of, kept_rec, laid_rec, in_turn, texts_of, flat_scalar, flat, flat_all, flat_fields}
use Rattle.sheet_kept.specs.InTurn.{in_turn-append}
use Rattle.sheet_kept.proofs.InTurn.{kept-flat-all, kept-flat-fields}
use Rattle.sheet_kept.proofs.Sizes.{all-records, fields-records}
use Rattle.sheet_forms.specs.Model.{shape_of, count_c, members_c, text_c, head_c, counted_c, key_c, record_by, record_c, code_of, size_of, text_len_of}
use Rattle.sheet_forms.specs.Ends.{at-0, at_n, drop-behind, head-end, count-all, count-fields}
use Rattle.sheet_forms.specs.declared.Form.{Form}
use Rattle.sheet_forms.specs.declared.Shape.{Shape}
use Rattle.sheet_forms.specs.declared.Record.{Record}

-- as many members as a head says stand behind it, in as many bytes
pub record Counted (n m : ℕ) (rs : List Rec) : Type 0 where
  pub small : m < 65536
  pub is : (s : List ℕ) (p u : ℕ) (rest : List ℕ) → drop p s ≡ in_turn kept_rec u rs ++ rest → count_c s (p + m) p ≡ n

-- each record's kind is one of its form, and what a head says is so of the records behind it
abbrev pub Right : Rec → List Rec → Type 0
Right (plain b) rs = shape_of b ≡ Shape.Plain
Right (head b n m) rs = (shape_of b ≡ Shape.Head) × Counted n m rs
Right (word b x) rs = shape_of b ≡ Shape.Word
Right (name k x) rs = Unit {0}

abbrev pub Rights : List Rec → Type 0
Rights [] = Unit {0}
Rights (r ∷ rs) = Right r rs × Rights rs

right-before : (r : Rec) (a b : List Rec) → Right r a → Right r (a ++ b)
right-before (plain c) a b h = h
right-before (head c n m) a b h = (
  h.0,
  record {
    small = h.1.small;
    is = λ s p u rest e.
        let x = in_turn kept_rec u a in
        let y = in_turn kept_rec (u + length (texts_of a)) b in
        h.1.is s p u (y ++ rest) (e ∙ ap (λ (z : List ℕ). z ++ rest) (in_turn-append kept_rec u a b) ∙ append_assoc x y rest);
  },
)
right-before (word c x) a b h = h
right-before (name k x) a b h = h

rights-append : (a b : List Rec) → Rights a → Rights b → Rights (a ++ b)
rights-append [] b h k = k
rights-append (r ∷ a) b h k = (right-before r a b h.0, rights-append a b h.1 k)

scalar-right : (x : Scalar) → Rights (flat_scalar x)
unfolding flat_scalar shape_of
scalar-right null = (refl, tt)
scalar-right (boolean true) = (refl, tt)
scalar-right (boolean false) = (refl, tt)
scalar-right (number t) = (refl, tt)
scalar-right (string t) = (refl, tt)

all-counted : (key : ℕ → Text) (vs : Helds) → value_record_sizes (named_all key vs) < 65536
    → Counted (count_helds vs) (value_record_sizes (named_all key vs)) (flat_all key vs)
unfolding count_c
all-counted key vs l =
    let m = value_record_sizes (named_all key vs) in
    record {
      small = l;
      is = λ s p u rest h.
          let e = all-records key u vs in
          count-all s (p + m) key vs (p + m - p) p u rest (h ∙ ap (λ (z : List ℕ). z ++ rest) (sym (kept-flat-all key u vs))) (omega arith) (omega arith) (omega arith);
    }

fields-counted : (key : ℕ → Text) (ms : HeldFields) → member_record_sizes (named_fields key ms) < 65536
    → Counted (count_fields ms) (member_record_sizes (named_fields key ms)) (flat_fields key ms)
unfolding count_c
fields-counted key ms l =
    let m = member_record_sizes (named_fields key ms) in
    record {
      small = l;
      is = λ s p u rest h.
          let e = fields-records key u ms in
          count-fields s (p + m) key ms (p + m - p) p u rest (h ∙ ap (λ (z : List ℕ). z ++ rest) (sym (kept-flat-fields key u ms))) (omega arith) (omega arith) (omega arith);
    }

mutual
  unfolding flat shape_of named record_size

  pub flat-right : (key : ℕ → Text) (v : Held) → record_size (named key v) < 65536 → Rights (flat key v)
  flat-right key (simple x) l = scalar-right x
  flat-right key (listed vs) l = let m : value_record_sizes (named_all key vs) < 65536 = omega arith in ((refl, all-counted key vs m), all_right key vs m)
  flat-right key (keyed ms) l = let m : member_record_sizes (named_fields key ms) < 65536 = omega arith in ((refl, fields-counted key ms m), fields-right key ms m)

  all_right : (key : ℕ → Text) (vs : Helds) → value_record_sizes (named_all key vs) < 65536 → Rights (flat_all key vs)
  all_right key no-helds l = tt
  all_right key (also v vs) l =
      rights-append (flat key v) (flat_all key vs) (flat-right key v (omega arith)) (all_right key vs (omega arith))

  fields-right : (key : ℕ → Text) (ms : HeldFields) → member_record_sizes (named_fields key ms) < 65536 → Rights (flat_fields key ms)
  fields-right key no_fields l = tt
  fields-right key (field k v ms) l =
      (tt, rights-append (flat key v) (flat_fields key ms) (flat-right key v (omega arith)) (fields-right key ms (omega arith)))

-- ---- one record as it stands in the bytes

-- the record that is laid
unfoldable pub record_of : Form → ℕ → Rec → Record
record_of form t (plain b) = Record.One b
record_of Form.Kept t (head b n m) = Record.Three b (m / 256 % 256) (m % 256)
record_of Form.Public t (head b n m) = Record.Three b (n / 256 % 256) (n % 256)
record_of form t (word b x) = Record.Five b (t / 256 % 256) (t % 256) (length x / 256 % 256) (length x % 256)
record_of Form.Kept t (name k x) = Record.Five 8 (k / 256 % 256) (k % 256) (length x / 256 % 256) (length x % 256)
record_of Form.Public t (name k x) = Record.Five 8 (t / 256 % 256) (t % 256) (length x / 256 % 256) (length x % 256)

abbrev pub rec_form : Form → ℕ → Rec → List ℕ
rec_form Form.Kept t r = kept_rec t r
rec_form Form.Public t r = laid_rec t r

module _ (s : List ℕ) (len p t u : ℕ) (low : p < len) where
  by_shape : (form : Form) (b : ℕ) (k : Shape) → get_or s p 0 ≡ b → shape_of b ≡ k → record_c form s len p t ≡ record_by form k s len p t
  unfolding record_c
  by_shape form b k e f = rw (lt-leb len p low, e, f)

  -- how many members a head's bytes are followed by
  head-count : (b n m : ℕ) (rs : List Rec) (rest : List ℕ) → shape_of b ≡ Shape.Head → Counted n m rs
      → drop p s ≡ b ∷ two m ++ (in_turn kept_rec u rs ++ rest) → members_c s p ≡ n
  unfolding members_c two
  head-count b n m rs rest k c h =
      rw (head-end s p b m (in_turn kept_rec u rs ++ rest) k h c.small)
      (c.is s (p + 3) u rest (drop-behind s p (b ∷ two m) (in_turn kept_rec u rs ++ rest) h))

  pub read : (form : Form) (r : Rec) (rs : List Rec) (rest : List ℕ) → Right r rs
      → drop p s ≡ kept_rec u r ++ (in_turn kept_rec (u + length (text_of r)) rs ++ rest) → length (kept_rec u r) ≤ len - p
      → record_c form s len p t ≡ record_of form t r
  unfolding kept_rec text_of record_of record_by text_c head_c counted_c key_c text_record key_record two shape_of
  read form (plain b) rs rest k h l = by_shape form b Shape.Plain (at-0 s p _ h) k ∙ ap Record.One (at-0 s p _ h)
  read Form.Kept (head b n m) rs rest k h l =
      by_shape Form.Kept b Shape.Head (at-0 s p _ h) k.0 ∙ rw (le-ltb (len - p) 3 l, at-0 s p _ h, at_n s p _ h 1, at_n s p _ h 2)
  read Form.Public (head b n m) rs rest k h l =
      let e : u + 0 ≡ u = omega arith in
      let i : drop p s ≡ b ∷ two m ++ (in_turn kept_rec u rs ++ rest) = h ∙ ap (λ (j : ℕ). b ∷ two m ++ (in_turn kept_rec j rs ++ rest)) e in
      by_shape Form.Public b Shape.Head (at-0 s p _ h) k.0 ∙ rw (le-ltb (len - p) 3 l, at-0 s p _ h, head-count b n m rs rest k.0 k.1 i)
  read form (word b x) rs rest k h l = by_shape form b Shape.Word (at-0 s p _ h) k ∙ rw (le-ltb (len - p) 5 l, at-0 s p _ h, at_n s p _ h 3, at_n s p _ h 4)
  read Form.Kept (name j x) rs rest k h l =
      by_shape Form.Kept 8 Shape.Key (at-0 s p _ h) refl
      ∙ rw (le-ltb (len - p) 5 l, at-0 s p _ h, at_n s p _ h 1, at_n s p _ h 2, at_n s p _ h 3, at_n s p _ h 4)
  read Form.Public (name j x) rs rest k h l =
      by_shape Form.Public 8 Shape.Key (at-0 s p _ h) refl ∙ rw (le-ltb (len - p) 5 l, at-0 s p _ h, at_n s p _ h 3, at_n s p _ h 4)

pub code-size : (r : Record) → length (code_of r) ≡ size_of r
code-size Record.End = refl
code-size (Record.One b) = refl
code-size (Record.Three b c d) = refl
code-size (Record.Five b c d e f) = refl

pub record-code : (form : Form) (t : ℕ) (r : Rec) → code_of (record_of form t r) ≡ rec_form form t r
unfolding record_of laid_rec kept_rec key_record text_record two
record-code Form.Kept t (plain b) = refl
record-code Form.Public t (plain b) = refl
record-code Form.Kept t (head b n m) = refl
record-code Form.Public t (head b n m) = refl
record-code Form.Kept t (word b x) = refl
record-code Form.Public t (word b x) = refl
record-code Form.Kept t (name k x) = refl
record-code Form.Public t (name k x) = refl

pub record-some : (form : Form) (t : ℕ) (r : Rec) → size_of (record_of form t r) ≡ 0 → ⊥
unfolding record_of
record-some form t (plain b) h = omega arith
record-some Form.Kept t (head b n m) h = omega arith
record-some Form.Public t (head b n m) h = omega arith
record-some form t (word b x) h = omega arith
record-some Form.Kept t (name k x) h = omega arith
record-some Form.Public t (name k x) h = omega arith

pub record-size : (form : Form) (t u : ℕ) (r : Rec) → size_of (record_of form t r) ≡ length (kept_rec u r)
unfolding record_of kept_rec text_record key_record two
record-size form t u (plain b) = refl
record-size Form.Kept t u (head b n m) = refl
record-size Form.Public t u (head b n m) = refl
record-size form t u (word b x) = refl
record-size Form.Kept t u (name k x) = refl
record-size Form.Public t u (name k x) = refl

pub record-more : (form : Form) (t : ℕ) (r : Rec) → length (text_of r) < 65536 → text_len_of (record_of form t r) ≡ length (text_of r)
unfolding record_of text_of
record-more form t (plain b) h = refl
record-more Form.Kept t (head b n m) h = refl
record-more Form.Public t (head b n m) h = refl
record-more form t (word b x) h = two_back (length x) h
record-more Form.Kept t (name k x) h = two_back (length x) h
record-more Form.Public t (name k x) h = two_back (length x) h

-- The records of a value one behind the other, with one running number for the texts: what the kept form and the public one share. A loop
-- over the bytes needs no more than that number. That both forms are such
-- records is shown in proofs/InTurn.antt.
use Rattle.std.specs.Prelude.{◌≡◌, refl, ℕ, ◌+◌, List, [], ◌∷◌, ◌++◌, true, false, length}
use Rattle.std.proofs.Common.{sym, ap, ◌∙◌, append_assoc, arith, length-append}
use Rattle.rules.specs.Bytes.{Text}
use Rattle.rules.specs.Tree.{Scalar, null, boolean, number, string}
use Rattle.rules.specs.Values.{record_size, value_record_sizes, member_record_sizes}
use Rattle.rules.specs.Sheet.{two, text_record, scalar_record}
use Rattle.sheet_kept.specs.Kept.{Held, simple, listed, keyed, Helds, no-helds, also, HeldFields, no_fields, field, named, named_all, named_fields}
use Rattle.sheet_kept.specs.Kept.{count_helds, count_fields, key_record}

-- a record: of one byte; with how many members there are and how long they are; with a text; a key's, with its number and its text
pub data Rec : Type 0 where
  plain : ℕ → Rec
  head : ℕ → ℕ → ℕ → Rec
  word : ℕ → Text → Rec
  name : ℕ → Text → Rec

unfoldable pub text_of : Rec → Text
text_of (plain b) = []
text_of (head b n m) = []
text_of (word b t) = t
text_of (name k t) = t

unfoldable pub kept_rec : ℕ → Rec → List ℕ
unfolding text_record key_record two
kept_rec t (plain b) = b ∷ []
kept_rec t (head b n m) = b ∷ two m
kept_rec t (word b x) = text_record b t x
kept_rec t (name k x) = key_record k x

unfoldable pub laid_rec : ℕ → Rec → List ℕ
unfolding text_record two
laid_rec t (plain b) = b ∷ []
laid_rec t (head b n m) = b ∷ two n
laid_rec t (word b x) = text_record b t x
laid_rec t (name k x) = text_record 8 t x

-- records in order, one running number for the texts
unfoldable pub in_turn : (ℕ → Rec → List ℕ) → ℕ → List Rec → List ℕ
unfolding text_of
in_turn f t [] = []
in_turn f t (r ∷ rs) = f t r ++ in_turn f (t + length (text_of r)) rs

unfoldable pub texts_of : List Rec → Text
unfolding text_of
texts_of [] = []
texts_of (r ∷ rs) = text_of r ++ texts_of rs

unfoldable pub flat_scalar : Scalar → List Rec
flat_scalar null = plain 1 ∷ []
flat_scalar (boolean false) = plain 2 ∷ []
flat_scalar (boolean true) = plain 3 ∷ []
flat_scalar (number t) = word 4 t ∷ []
flat_scalar (string t) = word 5 t ∷ []

unfoldable mutual
  unfolding flat_scalar count_helds count_fields named record_size

  pub flat : (ℕ → Text) → Held → List Rec
  flat key (simple x) = flat_scalar x
  flat key (listed vs) = head 6 (count_helds vs) (value_record_sizes (named_all key vs)) ∷ flat_all key vs
  flat key (keyed ms) = head 7 (count_fields ms) (member_record_sizes (named_fields key ms)) ∷ flat_fields key ms

  pub flat_all : (ℕ → Text) → Helds → List Rec
  flat_all key no-helds = []
  flat_all key (also v vs) = flat key v ++ flat_all key vs

  pub flat_fields : (ℕ → Text) → HeldFields → List Rec
  flat_fields key no_fields = []
  flat_fields key (field k v ms) = name k (key k) ∷ flat key v ++ flat_fields key ms

-- the texts that are stored with the records, each with its length
abbrev pub Word : Type 0
Word = ℕ × List ℕ

unfoldable pub words_rec : Rec → List Word
words_rec (plain b) = []
words_rec (head b n m) = []
words_rec (word b t) = (length t, t) ∷ []
words_rec (name k t) = (length t, t) ∷ []

unfoldable pub words_of : List Rec → List Word
unfolding words_rec
words_of [] = []
words_of (r ∷ rs) = words_rec r ++ words_of rs

-- how many bytes they take
unfoldable pub extent : List Word → ℕ
extent [] = 0
extent (w ∷ ws) = w.0 + extent ws

-- ---- two lists of records, one behind the other

pub in_turn-append : (f : ℕ → Rec → List ℕ) (t : ℕ) (a b : List Rec) → in_turn f t (a ++ b) ≡ in_turn f t a ++ in_turn f (t + length (texts_of a)) b
unfolding in_turn texts_of
in_turn-append f t [] b = let e : t ≡ t + 0 = omega arith in ap (λ (x : ℕ). in_turn f x b) e
in_turn-append f t (r ∷ a) b =
    let e : t + length (text_of r) + length (texts_of a) ≡ t + length (text_of r ++ texts_of a) = omega (arith, length-append (text_of r) (texts_of a)) in
    ap (λ (x : List ℕ). f t r ++ x) (in_turn-append f (t + length (text_of r)) a b ∙ ap (λ (x : ℕ). in_turn f (t + length (text_of r)) a ++ in_turn f x b) e)
    ∙ sym (append_assoc (f t r) (in_turn f (t + length (text_of r)) a) (in_turn f (t + length (texts_of (r ∷ a))) b))

pub texts_of-append : (a b : List Rec) → texts_of (a ++ b) ≡ texts_of a ++ texts_of b
unfolding texts_of
texts_of-append [] b = refl
texts_of-append (r ∷ a) b = ap (λ (x : Text). text_of r ++ x) (texts_of-append a b) ∙ sym (append_assoc (text_of r) (texts_of a) (texts_of b))

-- ---- records

pub flat-scalar-kept : (t : ℕ) (x : Scalar) → scalar_record t x ≡ in_turn kept_rec t (flat_scalar x)
unfolding scalar_record in_turn kept_rec flat_scalar text_record two
flat-scalar-kept t null = refl
flat-scalar-kept t (boolean true) = refl
flat-scalar-kept t (boolean false) = refl
flat-scalar-kept t (number x) = refl
flat-scalar-kept t (string x) = refl

pub flat-scalar-laid : (t : ℕ) (x : Scalar) → scalar_record t x ≡ in_turn laid_rec t (flat_scalar x)
unfolding scalar_record in_turn laid_rec flat_scalar text_record two
flat-scalar-laid t null = refl
flat-scalar-laid t (boolean true) = refl
flat-scalar-laid t (boolean false) = refl
flat-scalar-laid t (number x) = refl
flat-scalar-laid t (string x) = refl

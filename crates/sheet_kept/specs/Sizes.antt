-- How long records and texts are, record by record. How long they are of a value is shown in proofs/Sizes.antt.
use Rattle.std.specs.Prelude.{◌≡◌, refl, ℕ, ◌+◌, ◌≤◌, List, [], ◌∷◌, ◌++◌, true, false, length}
use Rattle.std.proofs.Common.{sym, ap, ◌∙◌, append_assoc, arith, length-append}
use Rattle.rules.specs.Bytes.{Text}
use Rattle.rules.specs.Tree.{Scalar, null, boolean, number, string}
use Rattle.rules.specs.Values.{text_size}
use Rattle.rules.specs.Sheet.{two, text_record, scalar_record}
use Rattle.sheet_kept.specs.Kept.{Held, simple, listed, keyed, Helds, no-helds, also, HeldFields, no_fields, field, named}
use Rattle.sheet_kept.specs.Kept.{count_helds, count_fields, key_record, kept, kept_all, kept_fields}
use Rattle.sheet_kept.specs.InTurn.{Rec, plain, head, word, name, text_of, kept_rec, laid_rec, in_turn, texts_of, Word, words_rec, words_of, extent}

pub same_size : (t u : ℕ) (rs : List Rec) → length (in_turn kept_rec t rs) ≡ length (in_turn laid_rec u rs)
unfolding in_turn kept_rec laid_rec
same_size t u [] = refl
same_size t u (r ∷ rs) =
    length-append (kept_rec t r) (in_turn kept_rec (t + length (text_of r)) rs)
    ∙ (let e : length (kept_rec t r) ≡ length (laid_rec u r) = one r in
    let h = same_size (t + length (text_of r)) (u + length (text_of r)) rs in
    omega (arith, length-append (laid_rec u r) (in_turn laid_rec (u + length (text_of r)) rs)))
  where
    one : (r : Rec) → length (kept_rec t r) ≡ length (laid_rec u r)
    one (plain b) = refl
    one (head b n m) = refl
    one (word b x) = refl
    one (name k x) = refl

scalar-some : (t : ℕ) (x : Scalar) → 1 ≤ length (scalar_record t x)
unfolding scalar_record text_record two
scalar-some t null = omega arith
scalar-some t (boolean true) = omega arith
scalar-some t (boolean false) = omega arith
scalar-some t (number x) = omega arith
scalar-some t (string x) = omega arith

pub kept-some : (key : ℕ → Text) (t : ℕ) (v : Held) → 1 ≤ length (kept key t v)
unfolding kept
kept-some key t (simple x) = scalar-some t x
kept-some key t (listed vs) = omega arith
kept-some key t (keyed ms) = omega arith

pub all-count : (key : ℕ → Text) (t : ℕ) (vs : Helds) → count_helds vs ≤ length (kept_all key t vs)
unfolding count_helds kept
all-count key t no-helds = omega arith
all-count key t (also v vs) =
    let u = t + text_size (named key v) in
    omega (arith, all-count key u vs, kept-some key t v, length-append (kept key t v) (kept_all key u vs))

pub fields-count : (key : ℕ → Text) (t : ℕ) (ms : HeldFields) → count_fields ms ≤ length (kept_fields key t ms)
unfolding count_fields kept key_record two
fields-count key t no_fields = omega arith
fields-count key t (field k v ms) =
    let u = t + length (key k) in
    let w = u + text_size (named key v) in
    omega (arith, fields-count key w ms, length-append (key_record k (key k) ++ kept key u v) (kept_fields key w ms), kept-some key u v)

-- ---- texts

pub words_append : (a b : List Rec) → words_of (a ++ b) ≡ words_of a ++ words_of b
unfolding words_of
words_append [] b = refl
words_append (r ∷ a) b = ap (λ (x : List Word). words_rec r ++ x) (words_append a b) ∙ sym (append_assoc (words_rec r) (words_of a) (words_of b))

pub words-extent : (rs : List Rec) → extent (words_of rs) ≡ length (texts_of rs)
unfolding words_of words_rec extent texts_of text_of
words-extent [] = refl
words-extent (plain b ∷ rs) = words-extent rs
words-extent (head b n m ∷ rs) = words-extent rs
words-extent (word b t ∷ rs) = omega (arith, words-extent rs, length-append t (texts_of rs))
words-extent (name k t ∷ rs) = omega (arith, words-extent rs, length-append t (texts_of rs))

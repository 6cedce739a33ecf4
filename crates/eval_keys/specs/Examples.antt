-- Six items: the root, four fields and a piece; the second and the fourth field have keys of one bucket.
use Rattle.std.specs.Prelude.{◌≡◌, refl, List, [], ◌∷◌, ℕ}
use Rattle.eval_keys.specs.Texts.{text_of, bucket_of}
use Rattle.eval_keys.specs.Columns.{keys_at, buckets_at, links_at, firsts_at, nexts_at, columns_end, key_text}
use Rattle.eval_keys.specs.Numbers.{first_of, number_of}

-- abcdeacDdeabc
unfoldable X : List ℕ
X = 97 ∷ 98 ∷ 99 ∷ 100 ∷ 101 ∷ 97 ∷ 99 ∷ 68 ∷ 100 ∷ 101 ∷ 97 ∷ 98 ∷ 99 ∷ []

-- the keys abc, abcde, abc, acDde; then whitespace before a piece, which is no key
unfoldable T : List ℕ
T = 7 ∷ 6 ∷ 0 ∷ 0 ∷ 0 ∷ 0 ∷ 0 ∷ 0
    ∷ 1 ∷ 1 ∷ 0 ∷ 3 ∷ 0 ∷ 0 ∷ 0 ∷ 0
    ∷ 1 ∷ 1 ∷ 0 ∷ 5 ∷ 0 ∷ 0 ∷ 0 ∷ 0
    ∷ 1 ∷ 1 ∷ 10 ∷ 3 ∷ 0 ∷ 0 ∷ 0 ∷ 0
    ∷ 1 ∷ 1 ∷ 5 ∷ 5 ∷ 0 ∷ 0 ∷ 0 ∷ 0
    ∷ 17 ∷ 1 ∷ 10 ∷ 1 ∷ 0 ∷ 0 ∷ 0 ∷ 0
    ∷ []

one-bucket : bucket_of (key_text X T 2) ∷ bucket_of (key_text X T 4) ∷ [] ≡ 416 ∷ 416 ∷ []
unfolding bucket_of text_of X T
one-bucket = refl

-- equal keys have one number, the first one's index
key-numbers : number_of X T 6 (key_text X T 1) ∷ number_of X T 6 (key_text X T 2) ∷ number_of X T 6 (key_text X T 3) ∷ number_of X T 6 (key_text X T 4) ∷ []
    ≡ 1 ∷ 2 ∷ 1 ∷ 4 ∷ []
unfolding first_of text_of X T
key-numbers = refl

-- a text that only begins a key, and a piece's: no field has them
no_number : number_of X T 6 (97 ∷ 98 ∷ []) ∷ number_of X T 6 (key_text X T 5) ∷ [] ≡ 0 ∷ 0 ∷ []
unfolding first_of text_of X T
no_number = refl

-- the columns, one behind the other
columns : keys_at ∷ buckets_at ∷ links_at ∷ firsts_at ∷ nexts_at ∷ columns_end ∷ [] ≡ 16904 ∷ 18953 ∷ 19977 ∷ 22026 ∷ 24075 ∷ 26124 ∷ []
columns = refl

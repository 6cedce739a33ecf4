-- What the code computes, on the bytes that it has. Nothing is assumed of them.
use Rattle.std.specs.Prelude.{ℕ, ◌+◌, max, Bool, true, false, List, [], ◌∷◌, ◌++◌}
use Rattle.rules.specs.Sheet.{two}
use Rattle.sheet_kept.specs.InTurn.{Word}
use Rattle.sheet_forms.specs.Model.{pair_c}
use Rattle.eval_writer.specs.Model.{word_at, key_at, key_len}

-- what is written, where the next record stands, and how deep it is nested
pub record Act : Type 0 where
  pub xs : List ℕ
  pub ws : List Word
  pub next : ℕ
  pub deep : ℕ

abbrev pub act : List ℕ → List Word → ℕ → Act
act xs ws next = record { xs = xs; ws = ws; next = next; deep = 0 }

abbrev pub then : Act → Act → Act
then a b = record { xs = a.xs ++ b.xs; ws = a.ws ++ b.ws; next = b.next; deep = max a.deep b.deep }

-- what stands in an array or object
abbrev pub under : Act → Act
under a = record { xs = a.xs; ws = a.ws; next = a.next; deep = a.deep + 1 }

-- a key by its number
unfoldable pub key_c : List ℕ → List ℕ → ℕ → ℕ → Act
unfolding two word_at
key_c T s k p = act (8 ∷ two k ++ two (key_len T k)) ((key_len T k, word_at s (key_at T k) (key_len T k)) ∷ []) (p + 5)

-- the key of a member, where it has one
unfoldable pub copy_k : List ℕ → List ℕ → Bool → ℕ → Act
unfolding key_c
copy_k T s true p = key_c T s (pair_c s (p + 1)) p
copy_k T s false p = act [] [] p

-- a value of one byte
unfoldable pub plain_c : ℕ → ℕ → Act
plain_c b p = act (b ∷ []) [] (p + 1)

-- a number or string
unfoldable pub word_c : List ℕ → ℕ → ℕ → ℕ → ℕ → Act
unfolding two word_at
word_c s tb b p t = act (b ∷ two t ++ two (pair_c s (p + 3))) ((pair_c s (p + 3), word_at s (tb + pair_c s (p + 1)) (pair_c s (p + 3))) ∷ []) (p + 5)

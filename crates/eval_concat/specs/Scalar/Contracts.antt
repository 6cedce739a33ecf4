-- What the functions promise, on the bytes that they have.
use Rattle.std.specs.Prelude.{ℕ, ◌+◌, ◌*◌, cond, List, eqb, get_or}
use Rattle.rules.specs.Bytes.{Text}
use Rattle.rules.specs.Pieces.{word_null, word_false, word_true}
use Rattle.eval_writer.specs.Model.{word_at}
use Rattle.sheet_forms.specs.Model.{pair_c}
use Rattle.eval_concat.specs.Model.{Joined}
use Rattle.eval_concat.specs.Clauses.{TextJoinedIs}
use Rattle.eval_concat.specs.declared.Join.{Join}

pub record WordJoinedIs (T X : List ℕ) (i at n : ℕ) (j : Join) (b a : List ℕ) (r : Joined) : Type 0 where
  pub is : TextJoinedIs T X i (word_at X at n) j b a r

-- the text of the item c
pub record ItemJoinedIs (T X : List ℕ) (i c : ℕ) (j : Join) (b a : List ℕ) (r : Joined) : Type 0 where
  pub is : TextJoinedIs T X i (word_at X (get_or T (8 * c + 4) 0) (get_or T (8 * c + 5) 0)) j b a r

-- the text of the record at p, whose texts are counted from tb on
unfoldable pub record_text : List ℕ → (tb p : ℕ) → Text
unfolding word_at
record_text X tb p =
    cond (eqb (get_or X p 0) 1) word_null
    (cond (eqb (get_or X p 0) 2) word_false
    (cond (eqb (get_or X p 0) 3) word_true (word_at X (tb + pair_c X (p + 1)) (pair_c X (p + 3)))))

pub record RecordJoinedIs (T X : List ℕ) (i tb p : ℕ) (j : Join) (b a : List ℕ) (r : Joined) : Type 0 where
  pub is : TextJoinedIs T X i (record_text X tb p) j b a r

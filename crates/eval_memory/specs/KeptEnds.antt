-- What is read of records that stand as kept: a key's number, and where a value ends.
use Rattle.std.specs.Prelude.{◌≡◌, ℕ, ◌+◌, ◌<◌, List, [], ◌∷◌, ◌++◌, length, get_or, drop}
use Rattle.std.proofs.Math.Path.{refl}
use Rattle.std.proofs.Common.{ap, ◌∙◌, drop_at}
use Rattle.std.proofs.lemmas.List.{get_or_at}
use Rattle.rules.specs.Bytes.{Text, At}
use Rattle.rules.specs.Sheet.{two, pair_at, text_record}
use Rattle.theory.specs.SameMeaning.{at_right}
use Rattle.theory.specs.LaidOut.{at_pair}
use Rattle.sheet_kept.specs.Kept.{Held, key_record, kept}
use Rattle.sheet_forms.specs.Model.{end_c}
use Rattle.sheet_forms.specs.Ends.{value-end}

-- a key's record has a number where a text's offset is
pub key-stands : (R : List ℕ) (at k : ℕ) (t : Text) → At R at (key_record k t) → At R at (text_record 8 k t)
unfolding key_record text_record
key-stands R at k t s = s

pub five-bytes : (k : ℕ) (t : Text) → length (key_record k t) ≡ 5
unfolding key_record two
five-bytes k t = refl

module _ (R : List ℕ) where
  pub number_at : (kind a : ℕ) (t : Text) (at : ℕ) → a < 65536 → At R at (text_record kind a t) → pair_at R (at + 1) ≡ a
  unfolding text_record
  number_at kind a t at small stands = at_pair a (two (length t)) small (at_right (kind ∷ []) (two a ++ two (length t)) (at + 1) refl stands)

  pub first-at : (at b : ℕ) (t : List ℕ) → At R at (b ∷ t) → get_or R at 0 ≡ b
  first-at at b t (before, after, n, e) = rw e (get_or_at before b (t ++ after) 0 at n)

  -- a value ends where its first record says
  pub value-ends : (key : ℕ → Text) (v : Held) (u at : ℕ) → At R at (kept key u v) → length (kept key u v) < 65536 → end_c R at ≡ at + length (kept key u v)
  value-ends key v u at (before, after, n, e) l =
      value-end R at key v u after (ap (drop at) e ∙ drop_at before (kept key u v ++ after) at n) l

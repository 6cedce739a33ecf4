-- One law for each answer of the functions that look at one record. The hypotheses are what a place of the code knows.
use Rattle.std.specs.Prelude.{Some, None}
use mathlib.Core.Path.{◌≡◌, ◌∙◌}
use mathlib.Core.Bool.{Bool, true, false}
use mathlib.Core.List.{List}
use Prim.Native.Nat.{ℕ, ◌+◌, ◌*◌, ◌≤◌, ◌<◌}
use native.Mathlib.Omega.{arith}
use lib.ListN.{length}
use borrow.Author.Tests.{le-leb, lt-leb, eq-eqb, ne_eqb}
use Rattle.rules.specs.Sheet.{pair_at}
use Rattle.rules.specs.LookUp.{after_text}
use Rattle.text_chars.specs.Bounds.{byte_le}
use Rattle.text_chars.specs.Cursor.{ByteIs}
use Rattle.sheet_records.specs.Kinds.Contracts.{End, rec, PairIs, EndIs, value_start}
use Rattle.sheet_records.specs.Kinds.Ends.{end-some, end_none, end-as}

-- ---- two bytes

pub pair_is : {s : List ℕ} {at high low r : ℕ} → ByteIs s at high → ByteIs s (at + 1) low → r ≡ high * 256 + low → PairIs s at r
unfolding pair_at
pair_is h l e = record { is = e ∙ rw (h.is, l.is); small = omega (arith, e, byte_le h, byte_le l) }

-- ---- a record that refers to a text

module _ (table : List ℕ) (limit kind at : ℕ) where
  pub text-short : length table < at + 5 → EndIs (after_text table limit kind at) (at + 1) (length table) None
  unfolding after_text
  text-short h = end_none (rw (lt-leb (at + 5) (length table) h, after_text))

  module _ {b : ℕ} (h : at + 5 ≤ length table) (i : ByteIs table at b) where
    pub text-other : (b ≡ kind → ⊥) → EndIs (after_text table limit kind at) (at + 1) (length table) None
    unfolding after_text
    text-other n = end_none (rw (le-leb (at + 5) (length table) h, ← i.is, ne_eqb b kind n, after_text))

    module _ {from len : ℕ} (e : b ≡ kind) (f : PairIs table (at + 1) from) (l : PairIs table (at + 3) len) where
      pub text-past : limit < from + len → EndIs (after_text table limit kind at) (at + 1) (length table) None
      unfolding after_text
      text-past k =
          end_none (rw (le-leb (at + 5) (length table) h, ← i.is, eq-eqb b kind e, ← f.is, ← l.is, lt-leb (from + len) limit k, after_text))

      pub text_in : from + len ≤ limit → EndIs (after_text table limit kind at) (at + 1) (length table) (Some (rec (at + 5)))
      unfolding after_text
      text_in k =
          end-some (rw (le-leb (at + 5) (length table) h, ← i.is, eq-eqb b kind e, ← f.is, ← l.is, le-leb (from + len) limit k, after_text))
          (omega arith) h

-- ---- where a member's value starts

module _ (table : List ℕ) (limit at : ℕ) {keyed : Bool} where
  pub start-keyed : {r : End} → keyed ≡ true → EndIs (after_text table limit 8 at) (at + 1) (length table) r
      → EndIs (value_start keyed table limit at) at (length table) r
  unfolding value_start
  start-keyed e h = end-as (rw e) (omega arith) h

  pub start_plain : keyed ≡ false → at ≤ length table → EndIs (value_start keyed table limit at) at (length table) (Some (rec at))
  unfolding value_start
  start_plain e h = end-some (rw e) (omega arith) h

pub ruleset pairs = (pair_is, byte_le)

pub ruleset texts = (text-short, text-other, text-past, text_in)

pub ruleset starts = (start-keyed, start_plain)

-- One law for each answer of the functions that look for a key.
use Rattle.std.specs.Prelude.{Some, None}
use mathlib.Core.Path.{◌≡◌, ◌∙◌, ap}
use mathlib.Core.Bool.{Bool, true, false}
use mathlib.Core.List.{List}
use Prim.Native.Nat.{ℕ, suc, ◌+◌, ◌-◌, ◌≤◌, ◌<◌}
use native.Mathlib.Omega.{arith}
use lib.ListN.{length}
use lib.Seq.{slice}
use borrow.Author.Tests.{eq-eqb, ne_eqb}
use Rattle.rules.specs.Bytes.{same}
use Rattle.rules.specs.Sizes.{max_room}
use Rattle.rules.specs.LookUp.{text_at, after_value, member_from, member_at}
use Rattle.text_chars.specs.Cursor.{ByteIs}
use Rattle.sheet_records.specs.Kinds.Contracts.{End, near_room, rec, PairIs, EndIs}
use Rattle.text_chars.specs.declared.RecAt.{RecAt}
use Rattle.sheet_records.specs.Kinds.Ends.{end-some, end_none, end-gone, end-as, some_is, none_is, between_is}
use Rattle.sheet_records.proofs.Values.{byte-in}

-- the text that a record refers to
pub refers : (table text key : List ℕ) (at : ℕ) {from len : ℕ} {r : Bool} → PairIs table (at + 1) from → PairIs table (at + 3) len
    → r ≡ same (slice from (from + len) text) key → r ≡ same (text_at table text at) key
unfolding text_at
refers table text key at f l e = e ∙ rw (f.is, l.is)

-- ---- a key among members

-- So many members were passed up to a place, none of them with the key.
pub record Looking (table text key : List ℕ) (count at₀ passed at : ℕ) : Type 0 where
  pub is : member_from count table text key at₀ ≡ member_from (count - passed) table text key at
  pub from : at₀ ≤ at
  pub near : at ≤ length table + 2

module _ {table text key : List ℕ} {count at₀ passed at : ℕ} (L : Looking table text key count at₀ passed at) where
  pub look-end : count ≤ passed → EndIs (member_from count table text key at₀) at₀ (length table + 7) None
  unfolding member_from
  look-end z = let e : count - passed ≡ 0 = omega arith in end_none (L.is ∙ rw e)

  module _ {f : Bool} (m : passed < count) (h : f ≡ same (text_at table text at) key) where
    one : member_from count table text key at₀ ≡ member_from (suc (count - (passed + 1))) table text key at
    one = let e : count - passed ≡ suc (count - (passed + 1)) = omega arith in L.is ∙ ap (λ (n : ℕ). member_from n table text key at) e

    pub look-found : f ≡ true → EndIs (member_from count table text key at₀) at₀ (length table + 7) (Some (rec (at + 5)))
    unfolding member_from
    look-found e = end-some (one ∙ rw (← h, e, member_from)) (omega (arith, L.from)) (omega (arith, L.near))

    module _ (e : f ≡ false) {r : End} (k : EndIs (after_value 32 table (length text) (at + 5)) (at + 5 + 1) (length table) r) where
      pub look-broken : {q : End} → r ≡ None → q ≡ None → EndIs (member_from count table text key at₀) at₀ (length table + 7) q
      unfolding member_from
      look-broken z n = end-gone (one ∙ rw (← h, e, none_is k z, member_from)) n

      pub look-next : {q : RecAt} → r ≡ Some q → Looking table text key count at₀ (passed + 1) q.0
      unfolding member_from
      look-next {q} z =
          let b = between_is k z in
          record { is = one ∙ rw (← h, e, some_is k z, member_from); from = omega (arith, L.from); near = omega arith }

-- ---- the object's member

module _ (table text key : List ℕ) (at : ℕ) {b : ℕ} (h : ByteIs table at b) where
  pub member-none : (b ≡ 7 → ⊥) → EndIs (member_at table text key at) (at + 1) (length table + 7) None
  unfolding member_at
  member-none n = end_none (rw (← h.is, ne_eqb b 7 n, member_at))

  pub member_is : {count : ℕ} {r : End} → b ≡ 7 → PairIs table (at + 1) count
      → EndIs (member_from count table text key (at + 3)) (at + 3) (length table + 7) r
      → EndIs (member_at table text key at) (at + 1) (length table + 7) r
  unfolding member_at
  member_is e p m = end-as (rw (← h.is, eq-eqb b 7 e, ← p.is, member_at)) (omega arith) m

pub object-near : (table : List ℕ) (at : ℕ) {b : ℕ} → ByteIs table at b → b ≡ 7 → at + 3 ≤ length table + 2
object-near table at h e = let l : at < length table = byte-in h (omega arith) in omega arith

pub count-near : (table : List ℕ) (at : ℕ) {b : ℕ} → ByteIs table at b → b ≡ 7 → length table ≤ max_room → at + 1 ≤ near_room
count-near table at h e k = let l : at < length table = byte-in h (omega arith) in omega arith

pub ruleset references = (refers)

pub ruleset looks = (look-end, look-found, look-broken, look-next)

pub ruleset objects = (member-none, member_is, object-near, count-near)

-- One law for each answer.
use Rattle.std.specs.Prelude.{Some, None}
use mathlib.Core.Path.{◌≡◌, refl, sym, ◌∙◌, ap}
use mathlib.Core.Bool.{Bool, true, false}
use mathlib.Core.List.{List}
use Prim.Native.Nat.{ℕ, suc, ◌+◌, ◌-◌, ◌≤◌, ◌<◌}
use native.Mathlib.Omega.{arith}
use lib.ListN.{length}
use lib.Seq.{slice}
use borrow.Author.Tests.{eq-eqb, ne_eqb, le-leb, lt-leb, ltb-true, ltb-false}
use lib.Dec.{ltb}
use Rattle.rules.specs.Bytes.{same}
use Rattle.rules.specs.Sizes.{max_room}
use Rattle.rules.specs.LookUp.{text_at}
use Rattle.theory_text.specs.Places.{byte_past}
use Rattle.text_chars.specs.Cursor.{ByteIs}
use Rattle.text_chars.specs.declared.RecAt.{RecAt}
use Rattle.sheet_records.specs.Kinds.Contracts.{End, near_room, rec, PairIs, EndIs}
use Rattle.sheet_records.specs.Kinds.Kinds.{kind_of, kind-small}
use Rattle.sheet_records.specs.declared.kinds.Kind.{Kind}
use Rattle.sheet_records.specs.Kinds.Ends.{clash, end-some, end_none, end-gone, end-as, some_is, none_is, between_is}
use Rattle.table_records.specs.Skips.{ends_at, skip_by, skip_value, member_from, member_at, past_key}

-- ---- an end

pub ends-past : (table : List ℕ) (end : ℕ) → length table < end → EndIs (ends_at table end) end (length table) None
unfolding ends_at
ends-past table end h = end_none (rw (ends_at, lt-leb end (length table) h) refl)

pub ends_there : (table : List ℕ) (end : ℕ) → end ≤ length table → EndIs (ends_at table end) end (length table) (Some (rec end))
unfolding ends_at
ends_there table end h = end-some (rw (ends_at, le-leb end (length table) h) refl) (omega arith) h

pub ruleset ends = (ends-past, ends_there)

-- ---- a value

-- a kind that is a value's stands inside the table
byte_inside : {s : List ℕ} {at b : ℕ} → ByteIs s at b → b ≤ 7 → at < length s
byte_inside {s} {at} {b} h l = go (ltb at (length s)) refl
  where
    go : (t : Bool) → ltb at (length s) ≡ t → at < length s
    go true e = ltb-true at (length s) e
    go false e = absurd (omega (arith, h.is, byte_past s at (ltb-false at (length s) e)))

module _ (table : List ℕ) (at : ℕ) {b : ℕ} {k : Kind} (h : ByteIs table at b) (i : k ≡ kind_of b) where
  by_kind : skip_value table at ≡ skip_by table at k
  unfolding skip_value
  by_kind = ap (skip_by table at) (ap kind_of (sym h.is) ∙ sym i)

  pub skip-bad : k ≡ Kind.Bad → EndIs (skip_value table at) (at + 1) (length table) None
  unfolding skip_by
  skip-bad e = end_none (by_kind ∙ rw e)

  pub skip-plain : k ≡ Kind.Plain → EndIs (skip_value table at) (at + 1) (length table) (Some (rec (at + 1)))
  unfolding skip_by
  skip-plain e =
      let l : at < length table = byte_inside h (kind-small b (λ z. clash (cc))) in
      end-some (by_kind ∙ rw e) (omega arith) (omega arith)

  pub skip-texted : {r : End} → k ≡ Kind.Texted → EndIs (ends_at table (at + 5)) (at + 5) (length table) r
      → EndIs (skip_value table at) (at + 1) (length table) r
  unfolding skip_by
  skip-texted e t = end-as (by_kind ∙ rw e) (omega arith) t

  module _ {keyed : Bool} (e : k ≡ Kind.Container keyed) where
    pub container-near : length table ≤ max_room → at + 3 ≤ near_room
    container-near l = let i : at < length table = byte_inside h (kind-small b (λ z. clash (cc))) in omega arith

    pub skip-container : {size : ℕ} {r : End} → PairIs table (at + 3) size
        → EndIs (ends_at table (at + 5 + size)) (at + 5 + size) (length table) r → EndIs (skip_value table at) (at + 1) (length table) r
    unfolding skip_by
    skip-container p t = end-as (by_kind ∙ rw (e, ← p.is)) (omega arith) t

pub ruleset skips = (skip-bad, skip-plain, skip-texted, container-near, skip-container)

-- ---- a key

pub refers : (table text key : List ℕ) (at : ℕ) {from len : ℕ} {r : Bool} → PairIs table (at + 1) from → PairIs table (at + 3) len
    → r ≡ same (slice from (from + len) text) key → r ≡ same (text_at table text at) key
unfolding text_at
refers table text key at f l e = e ∙ rw (f.is, l.is)

pub ruleset keys = (refers)

-- so many members were passed up to a place, none of them with the key
pub record Seeking (table text key : List ℕ) (count at₀ passed at : ℕ) : Type 0 where
  pub is : member_from count table text key at₀ ≡ member_from (count - passed) table text key at
  pub from : at₀ ≤ at
  pub near : at ≤ length table + 4

module _ {table text key : List ℕ} {count at₀ passed at : ℕ} (S : Seeking table text key count at₀ passed at) where
  pub seek-end : count ≤ passed → EndIs (member_from count table text key at₀) at₀ (past_key table) None
  unfolding member_from
  seek-end z = let e : count - passed ≡ 0 = omega arith in end_none (S.is ∙ rw e)

  module _ {f : Bool} (m : passed < count) (h : f ≡ same (text_at table text at) key) where
    one_more : member_from count table text key at₀ ≡ member_from (suc (count - (passed + 1))) table text key at
    one_more = let e : count - passed ≡ suc (count - (passed + 1)) = omega arith in S.is ∙ ap (λ (n : ℕ). member_from n table text key at) e

    pub seek_found : f ≡ true → EndIs (member_from count table text key at₀) at₀ (past_key table) (Some (rec (at + 5)))
    unfolding member_from
    seek_found e = end-some (one_more ∙ rw (← h, e, member_from)) (omega (arith, S.from)) (omega (arith, S.near))

    module _ (e : f ≡ false) {r : End} (k : EndIs (skip_value table (at + 5)) (at + 5 + 1) (length table) r) where
      pub seek-broken : {q : End} → r ≡ None → q ≡ None → EndIs (member_from count table text key at₀) at₀ (past_key table) q
      unfolding member_from
      seek-broken z n = end-gone (one_more ∙ rw (← h, e, none_is k z, member_from)) n

      pub seek-next : {q : RecAt} → r ≡ Some q → Seeking table text key count at₀ (passed + 1) q.0
      unfolding member_from
      seek-next {q} z =
          let b = between_is k z in
          record { is = one_more ∙ rw (← h, e, some_is k z, member_from); from = omega (arith, S.from); near = omega arith }

pub ruleset seeks = (seek-end, seek_found, seek-broken, seek-next)

-- ---- an object

module _ (table text key : List ℕ) (at : ℕ) {b : ℕ} (h : ByteIs table at b) where
  pub member-none : (b ≡ 7 → ⊥) → EndIs (member_at table text key at) (at + 1) (past_key table) None
  unfolding member_at
  member-none n = end_none (rw (← h.is, ne_eqb b 7 n, member_at))

  pub member_is : {count : ℕ} {r : End} → b ≡ 7 → PairIs table (at + 1) count
      → EndIs (member_from count table text key (at + 5)) (at + 5) (past_key table) r
      → EndIs (member_at table text key at) (at + 1) (past_key table) r
  unfolding member_at
  member_is e p m = end-as (rw (← h.is, eq-eqb b 7 e, ← p.is, member_at)) (omega arith) m

pub object-near : (table : List ℕ) (at : ℕ) {b : ℕ} → ByteIs table at b → b ≡ 7 → at + 5 ≤ length table + 4
object-near table at h e = let l : at < length table = byte_inside h (omega arith) in omega arith

pub count-near : (table : List ℕ) (at : ℕ) {b : ℕ} → ByteIs table at b → b ≡ 7 → length table ≤ max_room → at + 1 ≤ near_room
count-near table at h e k = let l : at < length table = byte_inside h (omega arith) in omega arith

pub ruleset objects = (member-none, member_is, object-near, count-near)

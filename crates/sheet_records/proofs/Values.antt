-- One law for each answer of the functions that find a value's end from the ends inside it.
use Rattle.std.specs.Prelude.{Some, None}
use mathlib.Core.Path.{◌≡◌, refl, sym, ◌∙◌, ap, fun_ext}
use mathlib.Core.Bool.{Bool, true, false, ◌&&◌}
use mathlib.Core.List.{List}
use mathlib.Core.Option.{Option, none, some}
use Prim.Native.Nat.{ℕ, zero, suc, ◌+◌, ◌-◌, ◌≤◌, ◌<◌}
use native.Mathlib.Omega.{arith}
use lib.ListN.{length}
use lib.Dec.{leb, ltb, eqb}
use borrow.Author.Tests.{le-leb, lt-leb, ltb-true, ltb-false}
use Rattle.rules.specs.Bytes.{byte_at, within}
use Rattle.rules.specs.Sheet.{pair_at}
use Rattle.rules.specs.LookUp.{after_text, after_members, after_record, after_value, is_whole}
use Rattle.theory_text.specs.Places.{byte_past}
use Rattle.text_chars.specs.Cursor.{ByteIs}
use Rattle.sheet_records.specs.Kinds.Contracts.{End, rec, PairIs, EndIs, value_start}
use Rattle.sheet_records.specs.Kinds.Kinds.{kind_of, kind-small}
use Rattle.sheet_records.specs.Clauses.{members_end}
use Rattle.text_chars.specs.declared.RecAt.{RecAt}
use Rattle.sheet_records.specs.declared.kinds.Kind.{Kind}
use Rattle.sheet_records.specs.Kinds.Ends.{clash, end-some, end_none, end-gone, end-as, some_is, none_is, between_is}

-- ---- the rules' record by the code's kinds

record_by : List ℕ → ℕ → ℕ → (Bool → Option ℕ) → Kind → Option ℕ
record_by table limit at f Kind.Plain = some (at + 1)
record_by table limit at f Kind.Texted = after_text table limit (byte_at table at) at
record_by table limit at f (Kind.Container keyed) = elim (leb (at + 3) (length table)) [ true ↦ f keyed | false ↦ none ]
record_by table limit at f Kind.Bad = none

record-by : (table : List ℕ) (limit at : ℕ) (f : Bool → Option ℕ)
    → after_record table limit at f ≡ record_by table limit at f (kind_of (byte_at table at))
unfolding after_record kind_of record_by
record-by table limit at f = go (within 1 3 kind) (within 4 5 kind) (within 6 7 kind)
  where
    kind : ℕ
    kind = byte_at table at

    go : (a b c : Bool)
        → elim a [
          | true ↦ some (at + 1)
          | false ↦ elim b [
            | true ↦ after_text table limit kind at
            | false ↦
                elim (c && leb (at + 3) (length table)) [ true ↦ f (eqb kind 7) | false ↦ none ]
          ]
        ]
        ≡ record_by table limit at f (elim a [
          | true ↦ Kind.Plain
          | false ↦ elim b [
            | true ↦ Kind.Texted
            | false ↦
                elim c [ true ↦ Kind.Container (eqb kind 7) | false ↦ Kind.Bad ]
          ]
        ])
    go true b c = refl
    go false true c = refl
    go false false true = refl
    go false false false = refl

-- what stands inside a container
inner : ℕ → List ℕ → ℕ → ℕ → Bool → Option ℕ
inner zero table limit at keyed = none
inner (suc levels) table limit at keyed = members_end keyed levels table limit (pair_at table (at + 1)) (at + 3)

value-record : (levels : ℕ) (table : List ℕ) (limit at : ℕ)
    → after_value levels table limit at ≡ after_record table limit at (inner levels table limit at)
unfolding after_value inner
value-record zero table limit at = refl
value-record (suc levels) table limit at = refl

inner-less : (levels : ℕ) (table : List ℕ) (limit at : ℕ) (keyed : Bool) → (levels ≡ 0 → ⊥)
    → inner levels table limit at keyed ≡ members_end keyed (levels - 1) table limit (pair_at table (at + 1)) (at + 3)
unfolding inner
inner-less zero table limit at keyed n = absurd (n refl)
inner-less (suc levels) table limit at keyed n = let e : suc levels - 1 ≡ levels = omega arith in rw e

-- a kind that is a value's stands inside the table
pub byte-in : {s : List ℕ} {at b : ℕ} → ByteIs s at b → b ≤ 7 → at < length s
byte-in {s} {at} {b} h l = go (ltb at (length s)) refl
  where
    go : (t : Bool) → ltb at (length s) ≡ t → at < length s
    go true e = ltb-true at (length s) e
    go false e = absurd (omega (arith, h.is, byte_past s at (ltb-false at (length s) e)))

-- ---- a value

module _ (table : List ℕ) (limit at levels : ℕ) {b : ℕ} {k : Kind} (h : ByteIs table at b) (i : k ≡ kind_of b) where
  value-by : after_value levels table limit at ≡ record_by table limit at (inner levels table limit at) k
  value-by =
      value-record levels table limit at ∙ record-by table limit at (inner levels table limit at)
      ∙ ap (record_by table limit at (inner levels table limit at)) (ap kind_of (sym h.is) ∙ sym i)

  pub value-bad : k ≡ Kind.Bad → EndIs (after_value levels table limit at) (at + 1) (length table) None
  unfolding record_by
  value-bad e = end_none (value-by ∙ rw e)

  pub value-plain : k ≡ Kind.Plain → EndIs (after_value levels table limit at) (at + 1) (length table) (Some (rec (at + 1)))
  unfolding record_by
  value-plain e =
      let l : at < length table = byte-in h (kind-small b (λ z. clash (cc))) in
      end-some (value-by ∙ rw e) (omega arith) (omega arith)

  pub value-texted : {r : End} → k ≡ Kind.Texted → EndIs (after_text table limit b at) (at + 1) (length table) r
      → EndIs (after_value levels table limit at) (at + 1) (length table) r
  unfolding record_by
  value-texted e t = end-as (value-by ∙ rw (e, ← h.is)) (omega arith) t

  module _ {keyed : Bool} (e : k ≡ Kind.Container keyed) where
    pub value-deep : levels ≡ 0 → EndIs (after_value levels table limit at) (at + 1) (length table) None
    unfolding record_by inner
    value-deep z = end_none (value-by ∙ rw (e, z) (none-either (leb (at + 3) (length table))))
      where
        none-either : (t : Bool) → ◌≡◌ {A = Option ℕ} (elim t [ true ↦ none | false ↦ none ]) none
        none-either true = refl
        none-either false = refl

    pub value-short : length table < at + 3 → EndIs (after_value levels table limit at) (at + 1) (length table) None
    unfolding record_by
    value-short l = end_none (value-by ∙ rw (e, lt-leb (at + 3) (length table) l, record_by))

    pub value-container : {count : ℕ} {r : End} → (levels ≡ 0 → ⊥) → at + 3 ≤ length table → PairIs table (at + 1) count
        → EndIs (members_end keyed (levels - 1) table limit count (at + 3)) (at + 3) (length table) r
        → EndIs (after_value levels table limit at) (at + 1) (length table) r
    unfolding record_by
    value-container n l p m =
        end-as (value-by ∙ rw (e, le-leb (at + 3) (length table) l, record_by) (inner-less levels table limit at keyed n ∙ rw p.is)) (omega arith) m

-- ---- members

abbrev both : Option ℕ → (ℕ → Option ℕ) → Option ℕ
both none f = none
both (some p) f = f p

both_is : (o : Option ℕ) (f : ℕ → Option ℕ) → elim o [ none ↦ none | some q ↦ f q ] ≡ both o f
both_is none f = refl
both_is (some q) f = refl

-- one member more: where its value starts, then its end, then the others
members-suc : (keyed : Bool) (after : ℕ → Option ℕ) (table : List ℕ) (limit n at : ℕ)
    → after_members keyed after table limit (suc n) at
    ≡ both (value_start keyed table limit at) (λ p. both (after p) (λ q. after_members keyed after table limit n q))
unfolding after_members value_start
members-suc false after table limit n at = both_is (after at) (λ q. after_members false after table limit n q)
members-suc true after table limit n at =
    let rest : ℕ → Option ℕ = λ q. after_members true after table limit n q in
    both_is (after_text table limit 8 at) (λ p. elim (after p) [ none ↦ none | some q ↦ rest q ])
    ∙ ap (both (after_text table limit 8 at)) (fun_ext (λ p. both_is (after p) rest))

-- So many members were passed up to a place, of all those from the first place on.
pub record Members (keyed : Bool) (levels : ℕ) (table : List ℕ) (limit count at₀ passed at : ℕ) : Type 0 where
  pub is : members_end keyed levels table limit count at₀ ≡ members_end keyed levels table limit (count - passed) at
  pub from : at₀ ≤ at
  pub inside : at ≤ length table

pub members-end : {keyed : Bool} {levels : ℕ} {table : List ℕ} {limit count at₀ passed : ℕ} {here : RecAt}
    → Members keyed levels table limit count at₀ passed here.0 → count ≤ passed
    → EndIs (members_end keyed levels table limit count at₀) at₀ (length table) (Some here)
unfolding after_members
members-end {count = count} {passed = passed} I z = let e : count - passed ≡ 0 = omega arith in end-some (I.is ∙ rw e) I.from I.inside

module _ {keyed : Bool} {levels : ℕ} {table : List ℕ} {limit count at₀ passed at : ℕ} (I : Members keyed levels table limit count at₀ passed at) where
  module _ {r : End} (m : passed < count) (h : EndIs (value_start keyed table limit at) at (length table) r) where
    one : members_end keyed levels table limit count at₀
        ≡ both (value_start keyed table limit at) (λ p. both (after_value levels table limit p) (λ q. members_end keyed levels table limit (count - (passed + 1)) q))
    one =
        let e : count - passed ≡ suc (count - (passed + 1)) = omega arith in
        I.is ∙ ap (λ (n : ℕ). members_end keyed levels table limit n at) e
        ∙ members-suc keyed (λ p. after_value levels table limit p) table limit (count - (passed + 1)) at

    pub members-no-start : {q : End} → r ≡ None → q ≡ None → EndIs (members_end keyed levels table limit count at₀) at₀ (length table) q
    members-no-start e n = end-gone (one ∙ rw (none_is h e)) n

    module _ {v : RecAt} (e : r ≡ Some v) {r' : End} (k : EndIs (after_value levels table limit v.0) (v.0 + 1) (length table) r') where
      pub members-no-value : {q : End} → r' ≡ None → q ≡ None → EndIs (members_end keyed levels table limit count at₀) at₀ (length table) q
      members-no-value z n = end-gone (one ∙ rw (some_is h e, none_is k z)) n

      pub members-next : {q : RecAt} → r' ≡ Some q → Members keyed levels table limit count at₀ (passed + 1) q.0
      members-next {q} z =
          let b = between_is h e in
          let c = between_is k z in
          record { is = one ∙ rw (some_is h e, some_is k z); from = omega (arith, I.from); inside = c.1 }

-- ---- whole tables

module _ (table : List ℕ) (limit : ℕ) {r : End} (h : EndIs (after_value 32 table limit 0) 1 (length table) r) where
  pub whole-none : r ≡ None → false ≡ is_whole table limit
  unfolding is_whole
  whole-none e = rw (none_is h e, is_whole)

  pub whole-end : {e : RecAt} → r ≡ Some e → eqb e.0 (length table) ≡ is_whole table limit
  unfolding is_whole
  whole-end {e} k = rw (some_is h k, is_whole)

pub ruleset values = (value-bad, value-plain, value-texted, value-deep, value-short, value-container)

pub ruleset members = (members-end, members-no-start, members-no-value, members-next)

pub ruleset wholes = (whole-none, whole-end)

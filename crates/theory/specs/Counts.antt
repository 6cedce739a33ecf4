-- A trail's bytes have as many entries as the trail.
use Rattle.std.specs.Prelude.{◌≡◌, refl, ℕ, ◌+◌, ◌≤◌, List, [], ◌∷◌, true, false, length}
use Rattle.std.proofs.Common.{sym, ◌∙◌, ap, arith}
use Rattle.std.proofs.Math.Option.{none, some}
use Rattle.answers.specs.Ask.{Trail}
use Rattle.rules.specs.Tree.{Scalar, null, boolean, number, string}
use Rattle.rules.specs.Values.{Value, scalar, array_of, object_of, Values, no-values, val, Members, no-members, member, Answer}
use Rattle.rules.specs.Meaning.{Record}
use Rattle.rules.specs.Counting.{count_entries, entries_in}
use Rattle.rules.specs.Reordering.{LaidOut}
use Rattle.theory.specs.SameMeaning.{scalar_meaning, meaning, value_meanings, member_meanings}
use Rattle.theory.specs.ReadBack.{entry_meaning, trail_meaning, sheet-read}
use Rattle.rules.specs.Jobs.{room_of, resolve_job, sheet_for}
use Rattle.theory.specs.Accepted.{inputs-few, laid-numbered}
use Rattle.theory.specs.Jobs.{Success, success-inv, success-is}
use Rattle.theory.specs.BothJobs.{success-accepts, success-count, success-approval}
use Rattle.theory.specs.Reordered.{laid-out-is, numbered_of, of-numbered}

scalar-count : (x : Scalar) (rs : List Record) → count_entries (scalar_meaning x ∷ rs) ≡ count_entries rs
scalar-count null rs = refl
scalar-count (boolean false) rs = refl
scalar-count (boolean true) rs = refl
scalar-count (number t) rs = refl
scalar-count (string t) rs = refl

-- no record of a value is an entry
mutual
  value-count : (v : Value) (rs : List Record) → count_entries (meaning v rs) ≡ count_entries rs
  value-count (scalar x) rs = scalar-count x rs
  value-count (array_of vs) rs = values-count vs rs
  value-count (object_of ms) rs = members-count ms rs

  values-count : (vs : Values) (rs : List Record) → count_entries (value_meanings vs rs) ≡ count_entries rs
  values-count no-values rs = refl
  values-count (val v vs) rs = value-count v (value_meanings vs rs) ∙ values-count vs rs

  members-count : (ms : Members) (rs : List Record) → count_entries (member_meanings ms rs) ≡ count_entries rs
  members-count no-members rs = refl
  members-count (member k v ms) rs = value-count v (member_meanings ms rs) ∙ members-count ms rs

entry-count : (b : ℕ) (a : Answer) (rs : List Record) → count_entries (entry_meaning b a rs) ≡ count_entries rs + 1
entry-count b none rs = omega arith
entry-count b (some v) rs = omega (arith, value-count v rs)

trail-count : (S : Trail Answer) (rs : List Record) → count_entries (trail_meaning S rs) ≡ length S + count_entries rs
trail-count [] rs = omega arith
trail-count (e ∷ S) rs = omega (arith, trail-count S (entry_meaning e.0 e.1 rs), entry-count e.0 e.1 rs)

pub entries-counted : (S : Trail Answer) (v : Value) (trail table text : List ℕ) → length trail ≤ 32768 → length table ≤ 32768 → length text ≤ 32768
    → LaidOut S v trail table text → entries_in trail text ≡ length S
entries-counted S v trail table text h k m l =
    let (read, _) = sheet-read trail table text h k m S v (laid-out-is trail table text S v l) (numbered_of S l.numbers_fit) in
    omega (arith, ap count_entries read, trail-count S [])

module _ (d e : List ℕ) (budget l m n : ℕ) where
  pub success-laid-out : (s : Success d e budget l m n)
      → let r = sheet_for s.handed.root s.handed.entries s.handed.begun in
      LaidOut s.handed.entries s.handed.root r.trail r.table r.text
  success-laid-out s =
      let x = s.setting in
      let S = s.handed.entries in
      record {
        trail_is = refl;
        table_is = refl;
        text-is = refl;
        numbers_fit = of-numbered S
            (laid-numbered x (omega (arith, inputs-few true d e x s.read)) (room_of l) (room_of n) S (success-accepts d e budget l m n s).laid);
      }

  pub resolved-count : (resolve_job d e budget l m n).number ≡ 0
      → let r = resolve_job d e budget l m n in r.count ≡ entries_in r.trail r.text
  resolved-count k =
      let s = success-inv d e budget l m n k in
      let own = success-approval d e budget l m n s in
      rw (success-is d e budget l m n s.setting s.read s.modest s.handed)
      (success-count d e budget l m n s
      ∙ sym (entries-counted s.handed.entries s.handed.root _ _ _ own.short own.short' own.short'' (success-laid-out s)))

-- One law for each answer of the job.
use mathlib.Core.Path.{◌≡◌, refl, sym, ◌∙◌, ap}
use mathlib.Core.Bool.{Bool, true, false}
use mathlib.Core.List.{List}
use Prim.Native.Nat.{ℕ, ◌+◌, ◌-◌, ◌*◌, ◌≤◌, ◌<◌}
use native.Mathlib.Omega.{arith}
use lib.ListN.{length, take, drop, length-take, length-drop}
use lib.Dec.{eqb}
use lib.Seq.{slice}
use borrow.Author.Tests.{le-leb, lt-leb}
use Rattle.rules.specs.Sizes.{max_nesting, max_room}
use Rattle.rules.specs.Bytes.{Text}
use Rattle.rules.specs.Sheet.{pair_at}
use Rattle.rules.specs.LookUp.{is_whole, text_at}
use Rattle.rules.specs.Micrometres as rules
use Rattle.rules.specs.Micrometres.{no_length, length_of}
use Rattle.rules.specs.Jobs.{record_length, length_job}
use Rattle.theory.specs.TableSteps.{RecordAt, plain_at, text-at, container-at, members_end, value-inv, whole-inv, container_kind}
use Rattle.theory.specs.Micrometres.{length-long, length-not-whole, length_whole}
use Rattle.text_chars.specs.Cursor.{ByteIs}
use Rattle.text_chars.specs.Parts.{part_slice}
use Rattle.sheet_records.specs.Kinds.Contracts.{PairIs}
use Rattle.text_lengths.specs.Micrometres.Contracts.{measured_of, MeasuredIs}
use Rattle.std.specs.Prelude.{Result, Ok, Err}
use Rattle.text_chars.specs.Cursor.{doc, refusal}
use Rattle.text_chars.specs.declared.Refusal.{Refusal}
use Rattle.job_length.specs.Clauses.{WholeTable}
use Rattle.job_length.specs.Packed.{packed_length}

-- ---- a refusal

-- a number that is not 0, and no place
no-length : {m : rules.Measured} {z : Refusal} {n : ℕ} → z ≡ refusal n (doc 0) → measured_of (Err (refusal n (doc 0))) ≡ m → 1 ≤ n
    → MeasuredIs m (Err z)
no-length e h l = rw e (record { is = h; numbered = (l, refl) })

-- ---- the record

module _ (table text : List ℕ) {kind : ℕ} (b : ByteIs table 0 kind) where
  pub record-low : kind < 4 → {z : Refusal} → z ≡ refusal 20 (doc 0) → MeasuredIs (record_length table text) (Err z)
  unfolding record_length no_length
  record-low h z = no-length z (rw (record_length, ← b.is, lt-leb 4 kind h)) (omega arith)

  pub record-high : 5 < kind → {z : Refusal} → z ≡ refusal 20 (doc 0) → MeasuredIs (record_length table text) (Err z)
  unfolding record_length no_length
  record-high h z = no-length z (rw (record_length, ← b.is, le-leb 4 kind (omega arith), lt-leb kind 5 h)) (omega arith)

  module _ (low : 4 ≤ kind) (high : kind ≤ 5) {from size : ℕ} (f : PairIs table 1 from) (n : PairIs table 3 size) where
    -- of a whole table the text is inside the text part
    pub text-inside : WholeTable table text → from + size ≤ length text
    text-inside w =
        rw (f.is, n.is) (go (value-inv table (length text) max_nesting 0 (length table) (whole-inv table (length text) w.whole)))
      where
        go : RecordAt table (length text) 0 (members_end table (length text) max_nesting 0) (length table)
            → pair_at table 1 + pair_at table 3 ≤ length text
        go (plain_at l m q) = absurd (omega (arith, b.is))
        go (text-at l m t) = t.inside
        go (container-at keyed k l q) = absurd (other keyed (sym k ∙ sym b.is))
          where
            other : (keyed : Bool) → container_kind keyed ≡ kind → ⊥
            other true e = absurd (omega arith)
            other false e = absurd (omega arith)

    pub record-text : (r : Result ℕ Refusal) → MeasuredIs (length_of (eqb kind 5) (take (from + size - from) (drop from text))) r
        → MeasuredIs (record_length table text) r
    unfolding record_length text_at
    record-text r e =
        let part : take (from + size - from) (drop from text) ≡ slice from (from + size) text = part_slice text from (from + size) (omega arith) in
        let written : slice from (from + size) text ≡ text_at table text 0 = rw (f.is, n.is, text_at) in
        let job : record_length table text ≡ length_of (eqb kind 5) (text_at table text 0) =
        rw (record_length, ← b.is, le-leb 4 kind low, le-leb kind 5 high) (rw b.is) in
        record { is = e.is ∙ ap (λ (l : Text). length_of (eqb kind 5) l) (part ∙ written) ∙ sym job; numbered = e.numbered }

pub part-short : (text : List ℕ) (from to : ℕ) → length text ≤ max_room → length (take (to - from) (drop from text)) ≤ max_room
part-short text from to h = omega (arith, length-take (to - from) (drop from text), length-drop from text)

pub ruleset records = (record-low, record-high, record-text)

pub ruleset insides = (arith, text-inside)

-- ---- the job

module _ (table text : List ℕ) where
  pub long-table : max_room < length table → {z : Refusal} → z ≡ refusal 1 (doc 0) → MeasuredIs (length_job table text) (Err z)
  unfolding no_length
  long-table l z = no-length z (sym (length-long table text (λ a b. absurd (omega arith)))) (omega arith)

  pub long-text : max_room < length text → {z : Refusal} → z ≡ refusal 1 (doc 0) → MeasuredIs (length_job table text) (Err z)
  unfolding no_length
  long-text l z = no-length z (sym (length-long table text (λ a b. absurd (omega arith)))) (omega arith)

  module _ (short : length table ≤ max_room) (short-text : length text ≤ max_room) {w : Bool} (j : w ≡ is_whole table (length text)) where
    pub not-whole : w ≡ false → {z : Refusal} → z ≡ refusal 15 (doc 0) → MeasuredIs (length_job table text) (Err z)
    unfolding no_length
    not-whole e z = no-length z (sym (length-not-whole table text short short-text (sym j ∙ e))) (omega arith)

    pub whole : (r : Result ℕ Refusal) → w ≡ true → MeasuredIs (record_length table text) r → MeasuredIs (length_job table text) r
    whole r e k = record { is = k.is ∙ sym (length_whole table text short short-text (sym j ∙ e)); numbered = k.numbered }

pub ruleset jobs = (long-table, long-text, not-whole, whole)

-- ---- the packing

module _ {m : Result ℕ Refusal} where
  pub pack-length : {n : ℕ} → m ≡ Ok n → n * 64 ≡ packed_length (measured_of m)
  unfolding packed_length
  pack-length e = rw (e, packed_length) (omega arith)

  pub pack-refusal : {x : Refusal} → m ≡ Err x → x.number ≡ packed_length (measured_of m)
  unfolding packed_length
  pack-refusal e = rw (e, packed_length) (omega arith)

pub ruleset packs = (pack-length, pack-refusal)

-- What the header's functions take out of 64 bits is what was packed into them.
use Rattle.std.specs.Prelude.{◌≡◌, cond, true, List, ℕ, ◌+◌, ◌*◌, ◌/◌, ◌%◌, ◌≤◌, ◌<◌, eqb, length, Result, Ok, Err}
use Rattle.std.proofs.Common.{sym, ◌∙◌, ap, eq-eqb, ne_eqb}
use native.Mathlib.Omega.{arith}
use Rattle.rules.specs.Jobs as J
use Rattle.text_chars.specs.declared.Refusal.{Refusal}
use Rattle.rules.specs.Sizes.{max_document}
use Rattle.rules.specs.Positions.{has_place}
use Rattle.job_results.specs.Places.{packed_refusal}
use Rattle.job_results.specs.Answers.{Located, resolution_told, located_told, packed_resolution, Packable}
use Rattle.job_results.specs.Answers.{verdict_of, packed_verdict, PackableVerdict}
use Rattle.job_results.specs.declared.Resolution.{Resolution}

-- ---- the header's functions, with `>> n` as a division and `& mask` as a remainder

-- dz_number
abbrev pub number_in : ℕ → ℕ
number_in answer = answer % 64

-- of resolve: dz_place, dz_document, dz_line, dz_column
abbrev pub place_in : ℕ → ℕ
place_in answer = cond (eqb (number_in answer) 0) 0 (answer / 64 % 65536)

abbrev pub document_in : ℕ → ℕ
document_in answer = cond (eqb (number_in answer) 0) 0 (answer / 4194304 % 16)

abbrev pub line_in : ℕ → ℕ
line_in answer = cond (eqb (number_in answer) 0) 0 (answer / 67108864 % 65536)

abbrev pub column_in : ℕ → ℕ
column_in answer = cond (eqb (number_in answer) 0) 0 (answer / 4398046511104 % 65536)

-- dz_resolve_count
abbrev pub count_in : ℕ → ℕ
count_in answer = cond (eqb (number_in answer) 0) (answer / 64 % 512) 0

-- dz_resolve_trail_length
abbrev pub trail_in : ℕ → ℕ
trail_in answer = cond (eqb (number_in answer) 0) (answer / 32768 % 65536) 0

-- dz_resolve_table_length
abbrev pub table_in : ℕ → ℕ
table_in answer = cond (eqb (number_in answer) 0) (answer / 2147483648 % 65536) 0

-- dz_resolve_text_length
abbrev pub text_in : ℕ → ℕ
text_in answer = cond (eqb (number_in answer) 0) (answer / 140737488355328 % 65536) 0

-- of check, which has no bits above a yes: the same
abbrev pub verdict_place_in : ℕ → ℕ
verdict_place_in answer = answer / 64 % 65536

abbrev pub verdict_document_in : ℕ → ℕ
verdict_document_in answer = answer / 4194304 % 16

abbrev pub verdict_line_in : ℕ → ℕ
verdict_line_in answer = answer / 67108864 % 65536

abbrev pub verdict_column_in : ℕ → ℕ
verdict_column_in answer = answer / 4398046511104 % 65536

-- ---- answers whose values have room in their bits: a sheet has a table and no place, a refusal has empty parts and count 0

-- no place: its document, offset, line and column are 0
pub record NoPlace (document place line column : ℕ) : Type 0 where
  pub document-0 : document ≡ 0
  pub place-0 : place ≡ 0
  pub line-0 : line ≡ 0
  pub column-0 : column ≡ 0

-- a place whose values have room
pub record PlaceFits (document place line column : ℕ) : Type 0 where
  pub document-fits : document < 16
  pub place-fits : place < 65536
  pub line-fits : line < 65536
  pub column_fits : column < 65536

pub data Roomy (t : Located) : Type 0 where
  done : t.number ≡ 0 → NoPlace t.document t.place t.line t.column → t.count < 512 → t.trail < 65536 → 1 ≤ t.table
      → t.table < 65536 → t.text < 65536 → Roomy t
  refusal : 1 ≤ t.number → t.number < 64 → PlaceFits t.document t.place t.line t.column
      → t.count ≡ 0 → t.trail ≡ 0 → t.table ≡ 0 → t.text ≡ 0 → Roomy t

module _ (s : List ℕ) where
  -- so a refusal is never taken for a sheet; what is refused in a document is so in one that is not over its bytes
  pub packable : (r : Result Resolution Refusal) → Roomy (located_told s (resolution_told r))
      → (has_place (resolution_told r).number ≡ true → length s ≤ max_document) → Packable s r
  packable (Ok v) (done n p c s o t x) h = record { room = (c, s, t, x) }
  packable (Ok v) (refusal n a b c s t x) h = absurd (omega arith)
  packable (Err e) (done n p c s o t x) h = absurd (omega arith)
  packable (Err e) (refusal n a b c s t x) h =
      record { room = (n, record { number_fits = a; document-fits = omega (arith, b.document-fits); asked = record { short = h } }) }

-- a refusal's number is never 0
pub refusal-some : (s : List ℕ) (e : Refusal) → Roomy (located_told s (resolution_told (Err e))) → 1 ≤ e.number
refusal-some s e (done n p c i o t x) = absurd (omega arith)
refusal-some s e (refusal n a b c i t x) = n

-- what stands at each place of the bits
module _ (c s t x : ℕ) where
  abbrev sum : ℕ
  sum = c * 64 + s * 32768 + t * 2147483648 + x * 140737488355328

  number-bits : sum % 64 ≡ 0
  number-bits = omega arith

  count_bits : c < 512 → sum / 64 % 512 ≡ c
  count_bits h = omega arith

  trail-bits : c < 512 → s < 65536 → sum / 32768 % 65536 ≡ s
  trail-bits h k = omega arith

  table-bits : c < 512 → s < 65536 → t < 65536 → sum / 2147483648 % 65536 ≡ t
  table-bits h k l = omega arith

  text-bits : c < 512 → s < 65536 → t < 65536 → x < 65536 → sum / 140737488355328 % 65536 ≡ x
  text-bits h k l m = omega arith

module _ (n d p l c : ℕ) (h : n < 64) where
  low_bits : packed_refusal n d p l c % 64 ≡ n
  unfolding packed_refusal
  low_bits = omega arith

  module _ (k : PlaceFits d p l c) where
    place-bits : packed_refusal n d p l c / 64 % 65536 ≡ p
    unfolding packed_refusal
    place-bits = omega (arith, k.place-fits)

    document-bits : packed_refusal n d p l c / 4194304 % 16 ≡ d
    unfolding packed_refusal
    document-bits = omega (arith, k.place-fits, k.document-fits)

    line-bits : packed_refusal n d p l c / 67108864 % 65536 ≡ l
    unfolding packed_refusal
    line-bits = omega (arith, k.place-fits, k.document-fits, k.line-fits)

    column-bits : packed_refusal n d p l c / 4398046511104 % 65536 ≡ c
    unfolding packed_refusal
    column-bits = omega (arith, k.place-fits, k.document-fits, k.line-fits, k.column_fits)

-- every one of the nine comes back
pub record Unpacks (t : Located) : Type 0 where
  pub number : number_in (packed_resolution t) ≡ t.number
  pub document : document_in (packed_resolution t) ≡ t.document
  pub place : place_in (packed_resolution t) ≡ t.place
  pub line : line_in (packed_resolution t) ≡ t.line
  pub column : column_in (packed_resolution t) ≡ t.column
  pub count : count_in (packed_resolution t) ≡ t.count
  pub trail : trail_in (packed_resolution t) ≡ t.trail
  pub table : table_in (packed_resolution t) ≡ t.table
  pub text : text_in (packed_resolution t) ≡ t.text

sum_done : (t : Located) → t.number ≡ 0
    → packed_resolution t ≡ t.count * 64 + t.trail * 32768 + t.table * 2147483648 + t.text * 140737488355328
unfolding packed_resolution
sum_done t n = rw (packed_resolution, eq-eqb t.number 0 n)

sum-refusal : (t : Located) → (t.number ≡ 0 → ⊥)
    → packed_resolution t ≡ packed_refusal t.number t.document t.place t.line t.column
unfolding packed_resolution
sum-refusal t n = rw (packed_resolution, ne_eqb t.number 0 n)

pub unpacks : (t : Located) → Roomy t → Unpacks t
unpacks r (done n p c s o t x) =
    let e = sum_done r n in
    let z : number_in (packed_resolution r) ≡ 0 = ap number_in e ∙ number-bits r.count r.trail r.table r.text in
    let y = eq-eqb (number_in (packed_resolution r)) 0 z in
    record {
      number = z ∙ sym n;
      document = rw y (sym p.document-0);
      place = rw y (sym p.place-0);
      line = rw y (sym p.line-0);
      column = rw y (sym p.column-0);
      count = rw y (ap (λ (i : ℕ). i / 64 % 512) e ∙ count_bits r.count r.trail r.table r.text c);
      trail = rw y (ap (λ (i : ℕ). i / 32768 % 65536) e ∙ trail-bits r.count r.trail r.table r.text c s);
      table = rw y (ap (λ (i : ℕ). i / 2147483648 % 65536) e ∙ table-bits r.count r.trail r.table r.text c s t);
      text = rw y (ap (λ (i : ℕ). i / 140737488355328 % 65536) e ∙ text-bits r.count r.trail r.table r.text c s t x);
    }
unpacks r (refusal n a b c s t x) =
    let e = sum-refusal r (λ (y : r.number ≡ 0). absurd (omega arith)) in
    let m : number_in (packed_resolution r) ≡ r.number
    = ap number_in e ∙ low_bits r.number r.document r.place r.line r.column a in
    let y = ne_eqb (number_in (packed_resolution r)) 0 (λ z. absurd (omega (arith, m, z, n))) in
    record {
      number = m;
      document = rw y (ap (λ (i : ℕ). i / 4194304 % 16) e ∙ document-bits r.number r.document r.place r.line r.column a b);
      place = rw y (ap (λ (i : ℕ). i / 64 % 65536) e ∙ place-bits r.number r.document r.place r.line r.column a b);
      line = rw y (ap (λ (i : ℕ). i / 67108864 % 65536) e ∙ line-bits r.number r.document r.place r.line r.column a b);
      column = rw y (ap (λ (i : ℕ). i / 4398046511104 % 65536) e
          ∙ column-bits r.number r.document r.place r.line r.column a b);
      count = rw y (sym c);
      trail = rw y (sym s);
      table = rw y (sym t);
      text = rw y (sym x);
    }

-- ---- check

pub record RoomyVerdict (v : J.Verdict) : Type 0 where
  pub number : v.number < 64
  pub place : PlaceFits v.document v.place v.line v.column

pub packable-verdict : (s : List ℕ) (v : Result (Unit {0}) Refusal) → RoomyVerdict (verdict_of s v)
    → (has_place (verdict_of s v).number ≡ true → length s ≤ max_document) → PackableVerdict s v
packable-verdict s (Ok u) h k = record { room = tt }
packable-verdict s (Err x) h k =
    record {
      room = record { number_fits = h.number; document-fits = omega (arith, h.place.document-fits); asked = record { short = k } };
    }

pub record UnpacksVerdict (v : J.Verdict) : Type 0 where
  pub number : number_in (packed_verdict v) ≡ v.number
  pub document : verdict_document_in (packed_verdict v) ≡ v.document
  pub place : verdict_place_in (packed_verdict v) ≡ v.place
  pub line : verdict_line_in (packed_verdict v) ≡ v.line
  pub column : verdict_column_in (packed_verdict v) ≡ v.column

pub unpacks-verdict : (v : J.Verdict) → RoomyVerdict v → UnpacksVerdict v
unfolding packed_verdict
unpacks-verdict v h = record {
  number = low_bits v.number v.document v.place v.line v.column h.number;
  document = document-bits v.number v.document v.place v.line v.column h.number h.place;
  place = place-bits v.number v.document v.place v.line v.column h.number h.place;
  line = line-bits v.number v.document v.place v.line v.column h.number h.place;
  column = column-bits v.number v.document v.place v.line v.column h.number h.place;
}

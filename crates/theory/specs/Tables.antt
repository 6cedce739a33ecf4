-- Whole values in a table: more levels than enough change nothing; a value ends behind its start and inside the table; what a path names
-- in a whole table is a whole value.
use Rattle.std.specs.Prelude.{◌≡◌, refl, ℕ, zero, suc, ◌+◌, ◌≤◌, ◌<◌, List, Bool, true, false, leb, length}
use Rattle.std.proofs.Common.{sym, ◌∙◌, ap, arith, leb-true, leb-false}
use Rattle.std.proofs.Math.Option.{Option, some}
use Rattle.answers.specs.Theory.Sound.{clash}
use Rattle.rules.specs.Bytes.{byte_at}
use Rattle.rules.specs.Sheet.{pair_at}
use Rattle.rules.specs.LookUp.{after_members, after_record, after_value}
use Rattle.theory_text.specs.Places.{byte_past}
use Rattle.theory.specs.TableSteps.{some_one, text-inv, value_place, members-zero, members-next, members-inv}
use Rattle.theory.specs.TableSteps.{record-plain, record-worded, record-holds, RecordAt, plain_at, text-at, container-at, record-inv}
use Rattle.theory.specs.TableSteps.{text-ends, members_end, value-record, value-inv}

-- a byte that is one is inside
pub kind-inside : (s : List ℕ) (at : ℕ) → byte_at s at < 256 → at < length s
kind-inside s at h = go (leb (length s) at) refl
  where
    go : (t : Bool) → leb (length s) at ≡ t → at < length s
    go true e = absurd (omega (arith, byte_past s at (leb-true (length s) at e)))
    go false e = leb-false (length s) at e

module _ (table : List ℕ) (text_length : ℕ) where
  abbrev after : ℕ → ℕ → Option ℕ
  after levels at = after_value levels table text_length at

  -- ---- more levels

  module _ (f g : ℕ → Option ℕ) (more : (p q : ℕ) → f p ≡ some q → g p ≡ some q) where
    members-more : (keyed : Bool) (n at end : ℕ) → after_members keyed f table text_length n at ≡ some end
        → after_members keyed g table text_length n at ≡ some end
    members-more keyed zero at end e = members-zero table text_length g keyed at ∙ sym (members-zero table text_length f keyed at) ∙ e
    members-more keyed (suc n) at end e =
        let m = members-inv table text_length f keyed n at end e in
        members-next table text_length g keyed n at m.place m.next m.has_key (more m.place m.next m.has_value)
        ∙ members-more keyed n m.next end m.others

  record-more : (at : ℕ) (f g : Bool → Option ℕ) (end : ℕ) → ((keyed : Bool) → f keyed ≡ some end → g keyed ≡ some end)
      → after_record table text_length at f ≡ some end → after_record table text_length at g ≡ some end
  record-more at f g end more e = go (record-inv table text_length at f end e)
    where
      go : RecordAt table text_length at f end → after_record table text_length at g ≡ some end
      go (plain_at h k q) = record-plain table text_length at g h k ∙ ap {B = Option ℕ} some (sym q)
      go (text-at h k t) =
          record-worded table text_length at g h k ∙ text-ends table text_length _ at t.fits t.of-kind t.inside
          ∙ ap {B = Option ℕ} some (sym t.ends)
      go (container-at keyed k h q) = record-holds table text_length at g keyed k h ∙ more keyed q

  -- a value that ends within so many levels ends at the same place within more
  pub levels-more : (n m at end : ℕ) → n ≤ m → after n at ≡ some end → after m at ≡ some end
  levels-more zero m at end h e =
      value-record table text_length m at
      ∙ record-more at (members_end table text_length zero at) (members_end table text_length m at) end (λ keyed k. clash (cc))
      (sym (value-record table text_length zero at) ∙ e)
  levels-more (suc n) zero at end h e = absurd (omega arith)
  levels-more (suc n) (suc m) at end h e =
      value-record table text_length (suc m) at
      ∙ record-more at (members_end table text_length (suc n) at) (members_end table text_length (suc m) at) end
      (λ keyed. members-more (after n) (after m) (λ p q. levels-more n m p q (omega arith)) keyed (pair_at table (at + 1)) (at + 3) end)
      (sym (value-record table text_length (suc n) at) ∙ e)

  -- ---- forward

  -- an end of what stands at a place
  abbrev pub Behind : ℕ → ℕ → Type 0
  Behind at end = (at < end) × (end ≤ length table)

  pub place-forward : (keyed : Bool) (at place : ℕ) → value_place table text_length keyed at ≡ some place → at ≤ place
  place-forward true at place e = let t = text-inv table text_length 8 at place e in omega arith
  place-forward false at place e = let q = some_one e in omega arith

  pub members-forward : (f : ℕ → Option ℕ) → ((p q : ℕ) → f p ≡ some q → Behind p q) → (keyed : Bool) (n at end : ℕ) → at ≤ length table
      → after_members keyed f table text_length n at ≡ some end → (at ≤ end) × (end ≤ length table)
  members-forward f behind keyed zero at end h e = let q = some_one (sym (members-zero table text_length f keyed at) ∙ e) in omega arith
  members-forward f behind keyed (suc n) at end h e =
      let m = members-inv table text_length f keyed n at end e in
      let b = behind m.place m.next m.has_value in
      let l = place-forward keyed at m.place m.has_key in
      let r = members-forward f behind keyed n m.next end b.1 m.others in
      omega arith

  record-forward : (at : ℕ) (f : Bool → Option ℕ) (end : ℕ)
      → ((keyed : Bool) → at + 3 ≤ length table → f keyed ≡ some end → Behind at end) → RecordAt table text_length at f end → Behind at end
  record-forward at f end inner (plain_at h k q) = let i = kind-inside table at (omega arith) in omega arith
  record-forward at f end inner (text-at h k t) = omega (arith, t.fits, t.ends)
  record-forward at f end inner (container-at keyed k h q) = inner keyed h q

  -- a value ends behind its start and inside the table
  pub value-forward : (n at end : ℕ) → after n at ≡ some end → Behind at end
  value-forward zero at end e =
      record-forward at (members_end table text_length zero at) end (λ keyed h k. clash (cc)) (value-inv table text_length zero at end e)
  value-forward (suc n) at end e =
      record-forward at (members_end table text_length (suc n) at) end
      (λ keyed h k. let m = members-forward (after n) (value-forward n) keyed (pair_at table (at + 1)) (at + 3) end h k in omega arith)
      (value-inv table text_length (suc n) at end e)

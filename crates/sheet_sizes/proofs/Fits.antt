-- Laws of the tests.
use mathlib.Core.Path.{◌≡◌, ap, ◌∙◌}
use Prim.Native.Nat.{ℕ, ◌+◌, ◌≤◌, ◌<◌}
use mathlib.Core.Bool.{Bool, false, ◌&&◌}
use mathlib.Core.List.{◌∷◌}
use native.Mathlib.Omega.{arith}
use lib.Dec.{leb}
use borrow.Author.Tests.{le-leb, lt-leb}
use Rattle.answers.specs.Ask.{Trail}
use Rattle.rules.specs.Sizes.{max_nesting, max_records, max_text}
use Rattle.rules.specs.Values.{Answer, within_size}
use Rattle.rules.specs.Sheet.{entry_size, answer_text_size, trail_size, trail_text_size, trail_fits, table_fits}
use Rattle.sheet_sizes.specs.Clauses.{WithinIs, EntryFitsIs, TableFitsIs}
use Rattle.sheet_sizes.specs.declared.Sizes.{Sizes}

-- ---- a value's size

within_by : {deep : ℕ} {size : Sizes} {r : Bool} → r ≡ leb deep max_nesting && leb size.rec.0 max_records && leb size.text.0 max_text
    → WithinIs deep size r
unfolding within_size
within_by i = record { is = i; rule = λ v d e f. i ∙ rw (d, e, f) }

module _ {deep : ℕ} {size : Sizes} where
  pub within-deep : max_nesting < deep → WithinIs deep size false
  within-deep h = within_by (rw (lt-leb deep max_nesting h))

  pub within-records : deep ≤ max_nesting → max_records < size.rec.0 → WithinIs deep size false
  within-records g h = within_by (rw (le-leb deep max_nesting g, lt-leb size.rec.0 max_records h))

  pub within_text : deep ≤ max_nesting → size.rec.0 ≤ max_records → WithinIs deep size (leb size.text.0 max_text)
  within_text g h = within_by (rw (le-leb deep max_nesting g, le-leb size.rec.0 max_records h))

pub ruleset within-laws = (within-deep, within-records, within_text)

-- ---- an entry's

entry-by : {room used size : Sizes} {r : Bool}
    → r ≡ leb (used.rec.0 + 3 + size.rec.0) room.rec.0 && leb (used.text.0 + size.text.0) room.text.0
    → EntryFitsIs room used size r
unfolding trail_fits
entry-by {room} {used} {size} {r} i =
    record {
      is = i;
      rule = λ S b a d e f g.
          let h : used.rec.0 + 3 + size.rec.0 ≡ trail_size ((b, a) ∷ S) = records S b a d f in
          let k : used.text.0 + size.text.0 ≡ trail_text_size ((b, a) ∷ S) = texts S b a e g in
          i ∙ ap (λ (n : ℕ). leb n room.rec.0 && leb (used.text.0 + size.text.0) room.text.0) h
          ∙ ap (λ (n : ℕ). leb (trail_size ((b, a) ∷ S)) room.rec.0 && leb n room.text.0) k;
    }
  where
    records : (S : Trail Answer) (b : ℕ) (a : Answer) → used.rec.0 ≡ trail_size S → 3 + size.rec.0 ≡ entry_size a
        → used.rec.0 + 3 + size.rec.0 ≡ trail_size ((b, a) ∷ S)
    records S b a d f = omega arith

    texts : (S : Trail Answer) (b : ℕ) (a : Answer) → used.text.0 ≡ trail_text_size S → size.text.0 ≡ answer_text_size a
        → used.text.0 + size.text.0 ≡ trail_text_size ((b, a) ∷ S)
    texts S b a e g = omega arith

module _ {room used size : Sizes} where
  pub entry-full : room.rec.0 < used.rec.0 + 3 + size.rec.0 → EntryFitsIs room used size false
  entry-full h = entry-by (rw (lt-leb (used.rec.0 + 3 + size.rec.0) room.rec.0 h))

  pub entry-texts : used.rec.0 + 3 + size.rec.0 ≤ room.rec.0 → EntryFitsIs room used size (leb (used.text.0 + size.text.0) room.text.0)
  entry-texts h = entry-by (rw (le-leb (used.rec.0 + 3 + size.rec.0) room.rec.0 h))

pub ruleset entry-laws = (entry-full, entry-texts)

-- ---- the table's

table-by : {room : Sizes} {texts : ℕ} {size : Sizes} {r : Bool}
    → r ≡ leb size.rec.0 room.rec.0 && leb (texts + size.text.0) room.text.0 → TableFitsIs room texts size r
unfolding table_fits
table-by i = record { is = i; rule = λ S v d e f. i ∙ rw (d, e, f) }

module _ {room : Sizes} {texts : ℕ} {size : Sizes} where
  pub table-full : room.rec.0 < size.rec.0 → TableFitsIs room texts size false
  table-full h = table-by (rw (lt-leb size.rec.0 room.rec.0 h))

  pub table-texts : size.rec.0 ≤ room.rec.0 → TableFitsIs room texts size (leb (texts + size.text.0) room.text.0)
  table-texts h = table-by (rw (le-leb size.rec.0 room.rec.0 h))

pub ruleset table-laws = (table-full, table-texts)

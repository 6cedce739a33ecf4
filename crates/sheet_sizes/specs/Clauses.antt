-- What the tests promise: what they compare, and that this is the rules' test.
use Rattle.std.specs.Prelude.{◌≡◌, ℕ, ◌+◌, ◌≤◌, Bool, ◌&&◌, ◌∷◌, leb}
use Rattle.answers.specs.Ask.{Trail}
use Rattle.rules.specs.Sizes.{max_nesting, max_records, max_text}
use Rattle.rules.specs.Values.{Value, Answer, nesting_of, record_size, text_size, within_size}
use Rattle.rules.specs.Sheet.{entry_size, answer_text_size, trail_size, trail_text_size, trail_fits, table_fits}
use Rattle.sheet_sizes.specs.declared.Sizes.{Sizes}

-- sizes that were counted: no sum of them wraps
abbrev pub Small : Sizes → Type 0
Small s = (s.rec.0 ≤ 1099511627776) × (s.text.0 ≤ 1099511627776)

pub record WithinIs (deep : ℕ) (size : Sizes) (r : Bool) : Type 0 where
  pub is : r ≡ leb deep max_nesting && leb size.rec.0 max_records && leb size.text.0 max_text
  pub rule : (v : Value) → deep ≡ nesting_of v → size.rec.0 ≡ record_size v → size.text.0 ≡ text_size v → r ≡ within_size v

-- one entry more, of any number, behind a trail that has the sizes used
pub record EntryFitsIs (room used size : Sizes) (r : Bool) : Type 0 where
  pub is : r ≡ leb (used.rec.0 + 3 + size.rec.0) room.rec.0 && leb (used.text.0 + size.text.0) room.text.0
  pub rule : (S : Trail Answer) (b : ℕ) (a : Answer) → used.rec.0 ≡ trail_size S → used.text.0 ≡ trail_text_size S
      → 3 + size.rec.0 ≡ entry_size a → size.text.0 ≡ answer_text_size a → r ≡ trail_fits room.rec.0 room.text.0 ((b, a) ∷ S)

pub record TableFitsIs (room : Sizes) (texts : ℕ) (size : Sizes) (r : Bool) : Type 0 where
  pub is : r ≡ leb size.rec.0 room.rec.0 && leb (texts + size.text.0) room.text.0
  pub rule : (S : Trail Answer) (v : Value) → texts ≡ trail_text_size S → size.rec.0 ≡ record_size v → size.text.0 ≡ text_size v
      → r ≡ table_fits room.rec.0 room.text.0 S v

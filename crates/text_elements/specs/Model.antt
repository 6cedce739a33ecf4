-- What the functions on a path so far do to its numbers, as plain functions.
use Rattle.std.specs.Prelude.{ℕ, ◌+◌, ◌*◌, Bool, true, false, cond, eqb}
use Rattle.rules.specs.Sizes.{max_document}
use Rattle.text_elements.specs.declared.Path.{Path}

-- what the texts of a path's elements stay below, with those of one piece more
abbrev pub max_path_bytes : ℕ
max_path_bytes = 2 * max_document

-- whether an element so far is empty and without quotes, that which is being read included
unfoldable pub emptied : Path → Bool
emptied p = cond p.empty true (cond p.quotes false (eqb p.used.0 p.from.0))

-- the element that is being read is whole, and the next begins at a place
unfoldable pub finish_c : ℕ → Path → Path
unfolding emptied
finish_c next p = record {
  count = p.count + 1;
  used = p.used;
  from = p.used;
  place = record { 0 = next };
  quotes = false;
  empty = emptied p;
}

-- a quoted piece of n bytes
unfoldable pub quoted_c : ℕ → Path → Path
quoted_c n p = record {
  count = p.count;
  used = record { 0 = p.used.0 + n };
  from = p.from;
  place = p.place;
  quotes = true;
  empty = p.empty;
}

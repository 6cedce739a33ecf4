-- What positions promise: line and column by value, and those of any place of a text.
use Rattle.std.specs.Prelude.{◌≡◌, ℕ, ◌+◌, ◌≤◌, min, Bool, true, false, List, ltb, length}
use Rattle.rules.specs.Sizes.{max_document}
use Rattle.rules.specs.Characters.{character_at, next_place}
use Rattle.rules.specs.Positions.{line_at, column_at, line_behind, column_behind}
use Rattle.text_chars.specs.Cursor.{cur}
use Rattle.text_chars.specs.declared.Position.{Position}

-- the start of a text has line 1 and column 1
pub record StartIs (p : Position) : Type 0 where
  pub is : p ≡ record { cursor = cur 0; line = 1; column = 1 }

-- a position that has room for one step more
pub record PositionAsked (s : List ℕ) (p : Position) : Type 0 where
  pub short : length s ≤ max_document
  pub low : p.line ≤ max_document + 1
  pub left : p.column ≤ max_document + 1

abbrev pub pick_position : Bool → Position → Position → Position
pick_position true a b = a
pick_position false a b = b

-- offset, line and column past the character at a position; at the end the same
unfoldable pub position_past : List ℕ → Position → Position
unfolding character_at next_place line_behind column_behind
position_past s p =
    let at = p.cursor.at.0 in
    pick_position (ltb at (length s))
    (record {
      cursor = cur (next_place s at);
      line = line_behind (character_at s at) p.line;
      column = column_behind (character_at s at) p.column;
    })
    p

pub record PositionStepIs (s : List ℕ) (p r : Position) : Type 0 where
  pub is : r ≡ position_past s p

-- a place, or the end where that comes before it
pub record EndIs (s : List ℕ) (place r : ℕ) : Type 0 where
  pub is : r ≡ min place (length s)

-- the line and the column of a place
pub record PositionIs (s : List ℕ) (place : ℕ) (p : Position) : Type 0 where
  pub line : p.line ≡ line_at s place
  pub column : p.column ≡ column_at s place

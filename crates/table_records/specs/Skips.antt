-- What the functions promise, of any bytes: members passed by the lengths that stand in their records.
use Rattle.std.specs.Prelude.{ℕ, zero, suc, ◌+◌, true, false, List, leb, eqb, length}
use Rattle.std.proofs.Math.Option.{Option, none, some}
use Rattle.rules.specs.Bytes.{Text, byte_at, same}
use Rattle.rules.specs.Kinds as kinds
use Rattle.rules.specs.Sheet.{pair_at}
use Rattle.rules.specs.LookUp.{text_at}
use Rattle.rules_tables.specs.Trees.{sized_head}
use Rattle.sheet_records.specs.Kinds.Kinds.{kind_of}
use Rattle.sheet_records.specs.declared.kinds.Kind.{Kind}

-- where members are looked for, at most four bytes past the table; and a value, behind a key there
abbrev pub near_key : ℕ
near_key = 33000

abbrev pub past_key : List ℕ → ℕ
past_key table = length table + 9

unfoldable pub ends_at : (table : List ℕ) (end : ℕ) → Option ℕ
ends_at table end = elim (leb end (length table)) [ true ↦ some end | false ↦ none ]

-- a value's end, by its kind
unfoldable pub skip_by : (table : List ℕ) (at : ℕ) → Kind → Option ℕ
unfolding ends_at pair_at
skip_by table at Kind.Plain = some (at + 1)
skip_by table at Kind.Texted = ends_at table (at + 5)
skip_by table at (Kind.Container keyed) = ends_at table (at + sized_head + pair_at table (at + 3))
skip_by table at Kind.Bad = none

unfoldable pub skip_value : (table : List ℕ) (at : ℕ) → Option ℕ
unfolding skip_by kind_of
skip_value table at = skip_by table at (kind_of (byte_at table at))

-- a key's value among so many members, and in an object
unfoldable pub member_from : (count : ℕ) (table text : List ℕ) (key : Text) (at : ℕ) → Option ℕ
unfolding text_at skip_value same
member_from zero table text key at = none
member_from (suc n) table text key at =
    elim (same (text_at table text at) key) [
      | true ↦ some (at + 5)
      | false ↦ elim (skip_value table (at + 5)) [ none ↦ none | some q ↦ member_from n table text key q ]
    ]

unfoldable pub member_at : (table text : List ℕ) (key : Text) (at : ℕ) → Option ℕ
unfolding member_from pair_at
member_at table text key at =
    elim (eqb (byte_at table at) kinds.object) [ true ↦ member_from (pair_at table (at + 1)) table text key (at + sized_head) | false ↦ none ]

-- Document 01, "The sheet": whole tables, and the part of a table that a path names.
use Rattle.std.specs.Prelude.{ℕ, zero, suc, ◌+◌, List, [], ◌∷◌, Bool, true, false, ◌&&◌, leb, eqb, length}
use Rattle.std.proofs.Math.Option.{Option, none, some}
use Rattle.std.proofs.Math.Seq.{slice}
use Rattle.rules.specs.Sizes.{max_nesting}
use Rattle.rules.specs.Bytes.{Text, byte_at, within, same}
use Rattle.rules.specs.Kinds as kinds
use Rattle.rules.specs.Sheet.{pair_at}

-- a record that refers to a text: of this kind, and "each text inside the lent text part"
unfoldable pub after_text : (table : List ℕ) (text_length kind at : ℕ) → Option ℕ
unfolding pair_at
after_text table text_length kind at =
    elim (leb (at + 5) (length table) && eqb (byte_at table at) kind && leb (pair_at table (at + 1) + pair_at table (at + 3)) text_length) [
      | true ↦ some (at + 5)
      | false ↦ none
    ]

-- so many members, one after the other; of an object each has its key first
unfoldable pub after_members : (keyed : Bool) (after : ℕ → Option ℕ) (table : List ℕ) (text_length count at : ℕ) → Option ℕ
unfolding after_text
after_members keyed after table text_length zero at = some at
after_members keyed after table text_length (suc n) at =
    let value : ℕ → Option ℕ = λ p. elim (after p) [ none ↦ none | some q ↦ after_members keyed after table text_length n q ] in
    elim keyed [
      | false ↦ value at
      | true ↦ elim (after_text table text_length kinds.key at) [ none ↦ none | some p ↦ value p ]
    ]

-- A record that has no members: its end, or nothing where there is none whole; a container is handed on.
unfoldable pub after_record : (table : List ℕ) (text_length at : ℕ) (container : Bool → Option ℕ) → Option ℕ
unfolding after_text
after_record table text_length at container =
    let kind = byte_at table at in
    elim (within kinds.null kinds.true kind) [
      | true ↦ some (at + 1)
      | false ↦ elim (within kinds.number kinds.string kind) [
        | true ↦ after_text table text_length kind at
        | false ↦ elim (within kinds.array kinds.object kind && leb (at + 3) (length table)) [
          | true ↦ container (eqb kind kinds.object)
          | false ↦ none
        ]
      ]
    ]

-- "one record's end is found from the ends of those inside it"; the first number is how many containers may stand inside one another
unfoldable pub after_value : (levels : ℕ) (table : List ℕ) (text_length at : ℕ) → Option ℕ
unfolding after_record after_members pair_at
after_value zero table text_length at = after_record table text_length at (λ keyed. none)
after_value (suc levels) table text_length at =
    after_record table text_length at (λ keyed.
    after_members keyed (λ p. after_value levels table text_length p) table text_length (pair_at table (at + 1)) (at + 3))

-- "One whole table is one record of kind 1 to 7 with its members, nested at most 32, each text inside the lent text part, nothing after
-- it; its texts need not be UTF-8."
unfoldable pub is_whole : (table : List ℕ) (text_length : ℕ) → Bool
unfolding after_value
is_whole table text_length = elim (after_value max_nesting table text_length 0) [ none ↦ false | some end ↦ eqb end (length table) ]

-- the text that a record refers to
unfoldable pub text_at : (table text : List ℕ) (at : ℕ) → Text
unfolding pair_at
text_at table text at = let offset = pair_at table (at + 1) in slice offset (offset + pair_at table (at + 3)) text

-- "A lent table with equal keys answers by the first": the place of that key's value among so many members
unfoldable pub member_from : (count : ℕ) (table text : List ℕ) (key : Text) (at : ℕ) → Option ℕ
unfolding text_at after_value same
member_from zero table text key at = none
member_from (suc n) table text key at =
    elim (same (text_at table text at) key) [
      | true ↦ some (at + 5)
      | false ↦ elim (after_value max_nesting table (length text) (at + 5)) [ none ↦ none | some q ↦ member_from n table text key q ]
    ]

unfoldable pub member_at : (table text : List ℕ) (key : Text) (at : ℕ) → Option ℕ
unfolding member_from pair_at
member_at table text key at =
    elim (eqb (byte_at table at) kinds.object) [ true ↦ member_from (pair_at table (at + 1)) table text key (at + 3) | false ↦ none ]

-- the place of the value that a path names, from a value on
unfoldable pub value_named : (table text : List ℕ) (path : List Text) (at : ℕ) → Option ℕ
unfolding member_at
value_named table text [] at = some at
value_named table text (k ∷ ks) at = elim (member_at table text k at) [ none ↦ none | some p ↦ value_named table text ks p ]

-- The tree that the records of a lent table describe, and which trees have no equal keys. A container's record has its kind and member
-- count, 3 bytes, in a plain table (document 01's), and 2 more in a sized one (document 02, No. 9).
use Rattle.std.specs.Prelude.{ℕ, zero, suc, ◌+◌, List, Bool, true, false, ◌&&◌, leb, eqb, length}
use Rattle.std.proofs.Math.Option.{Option, none, some}
use Rattle.rules.specs.Sizes.{max_nesting}
use Rattle.rules.specs.Bytes.{Text, byte_at, within, same}
use Rattle.rules.specs.Kinds as kinds
use Rattle.rules.specs.Tree.{Scalar, null, boolean, number, string}
use Rattle.rules.specs.Values.{Value, scalar, array_of, object_of, Values, no-values, val, Members, no-members, member}
use Rattle.rules.specs.Sheet.{pair_at}
use Rattle.rules.specs.LookUp.{after_text, text_at}
use Rattle.rules.specs.NamedValues.{member_of}

-- how long a container's record is, without its members
abbrev pub plain_head : ℕ
plain_head = 3

abbrev pub sized_head : ℕ
sized_head = 5

-- a thing with a place, if it is there; of what is read, the place behind it
abbrev pub Located : Type 0 → Type 0
Located A = Option (A × ℕ)

abbrev pub located_then : {A B : Type 0} → Located A → (A → ℕ → Located B) → Located B
located_then none k = none
located_then (some p) k = k p.0 p.1

-- ---- reading, by the tests of LookUp's `after_value`, whose place is the same

-- the text of a record of this kind
unfoldable pub text_from : (table text : List ℕ) (kind at : ℕ) → Located Text
unfolding after_text text_at
text_from table text kind at = elim (after_text table (length text) kind at) [ none ↦ none | some end ↦ some (text_at table text at, end) ]

unfoldable pub values_from : (one : ℕ → Located Value) (count at : ℕ) → Located Values
values_from one zero at = some (no-values, at)
values_from one (suc n) at =
    located_then (one at) (λ v p. located_then (values_from one n p) (λ vs end. some (val v vs, end)))

unfoldable pub members_from : (one : ℕ → Located Value) (table text : List ℕ) (count at : ℕ) → Located Members
unfolding text_from
members_from one table text zero at = some (no-members, at)
members_from one table text (suc n) at =
    located_then (text_from table text kinds.key at) (λ k p.
    located_then (one p) (λ v q. located_then (members_from one table text n q) (λ ms end. some (member k v ms, end))))

-- "1 null, 2 false, 3 true", and "4 number, 5 string"
abbrev pub word_of : (kind : ℕ) → Scalar
word_of kind = elim (eqb kind kinds.null) [ true ↦ null | false ↦ boolean (eqb kind kinds.true) ]

abbrev pub written_of : (kind : ℕ) (t : Text) → Scalar
written_of kind t = elim (eqb kind kinds.number) [ true ↦ number t | false ↦ string t ]

-- the value of a record of this kind; a container's members are handed on
unfoldable pub record_from : (kind head : ℕ) (table text : List ℕ) (at : ℕ) (container : Bool → Located Value) → Located Value
unfolding text_from
record_from kind head table text at container =
    elim (within kinds.null kinds.true kind) [
      | true ↦ some (scalar (word_of kind), at + 1)
      | false ↦ elim (within kinds.number kinds.string kind) [
        | true ↦ located_then (text_from table text kind at) (λ t end. some (scalar (written_of kind t), end))
        | false ↦ elim (within kinds.array kinds.object kind && leb (at + head) (length table)) [
          | true ↦ container (eqb kind kinds.object)
          | false ↦ none
        ]
      ]
    ]

-- "6 array, 7 object: member count 2, members following; an object's are key then value"
unfoldable pub container_from : (one : ℕ → Located Value) (head : ℕ) (table text : List ℕ) (at : ℕ) (keyed : Bool) → Located Value
unfolding pair_at values_from members_from
container_from one head table text at true =
    located_then (members_from one table text (pair_at table (at + 1)) (at + head)) (λ ms end. some (object_of ms, end))
container_from one head table text at false =
    located_then (values_from one (pair_at table (at + 1)) (at + head)) (λ vs end. some (array_of vs, end))

-- the value at a place; so many containers may stand inside one another
unfoldable pub tree_from : (head levels : ℕ) (table text : List ℕ) (at : ℕ) → Located Value
unfolding record_from container_from
tree_from head zero table text at = record_from (byte_at table at) head table text at (λ keyed. none)
tree_from head (suc levels) table text at =
    record_from (byte_at table at) head table text at (container_from (tree_from head levels table text) head table text at)

-- "One whole table is one record of kind 1 to 7 with its members, nested at most 32, .. nothing after it"
unfoldable pub tree_of : (head : ℕ) (table text : List ℕ) → Option Value
unfolding tree_from
tree_of head table text =
    elim (tree_from head max_nesting table text 0) [
      | none ↦ none
      | some p ↦ elim (eqb p.1 (length table)) [ true ↦ some p.0 | false ↦ none ]
    ]

-- ---- "without equal keys": no object has two

unfoldable mutual
  unfolding member_of same

  pub distinct : Value → Bool
  distinct (scalar x) = true
  distinct (array_of vs) = distinct_values vs
  distinct (object_of ms) = distinct_members ms

  pub distinct_values : Values → Bool
  distinct_values no-values = true
  distinct_values (val v vs) = distinct v && distinct_values vs

  pub distinct_members : Members → Bool
  distinct_members no-members = true
  distinct_members (member k v ms) = elim (member_of k ms) [ some w ↦ false | none ↦ distinct v && distinct_members ms ]

-- What a job's tables show. A layer is a number: an item of the document is its index, a finished value is the offset of its record and
-- the capacity more. The table T has the items, the index of the unresolved values, behind it their answers and the numbers of the keys; the
-- records R are those of finished values, as kept.
use Rattle.std.specs.Prelude.{ℕ, zero, suc, ◌+◌, ◌*◌, ◌-◌, ◌%◌, cond, List, [], ◌∷◌, ltb, leb, eqb, get_or, Some, None}
use Rattle.std.specs.declared.option.Option.{Option as Maybe}
use Rattle.rules.specs.Sizes.{max_room}
use Rattle.rules.specs.Sheet.{pair_at}
use Rattle.doc_items.specs.Room.{capacity, answers_at}
use Rattle.sheet_forms.specs.Model.{end_c}
use Rattle.eval_keys.specs.Columns.{keys_at}
use Rattle.eval_nodes.specs.Answer.Model.{answered}
use Rattle.eval_nodes.specs.declared.answer.Answered.{Answered}
use Rattle.eval_nodes.specs.declared.Members.{Members}
use Rattle.eval_nodes.specs.declared.Member.{Member}

-- ---- an unresolved value is its answer

-- an answer's record begins inside the room of the answers; another number is none yet
abbrev pub answer_bound : ℕ
answer_bound = max_room + 2

unfoldable pub answer_at : List ℕ → ℕ → ℕ
answer_at T b = cond (ltb (get_or T (answers_at + b) 0) answer_bound) (get_or T (answers_at + b) 0) 0

unfoldable pub answered_at : List ℕ → ℕ → Answered
unfolding answer_at
answered_at T c =
    cond (ltb c capacity) (cond (eqb (get_or T (8 * c) 0) 8) (answered (get_or T (8 * c + 7) 0) (answer_at T (get_or T (8 * c + 7) 0))) (Answered.Layer c))
    (Answered.Layer c)

-- ---- an object and its members

-- an object's members, or none of any other layer
abbrev pub View : Type 0
View = Maybe Members

abbrev pub span : ℕ → ℕ → Members
span first end = record { first = first; end = end }

-- an object that is a member or a piece
unfoldable pub item_view : List ℕ → ℕ → View
item_view T c = cond (eqb (get_or T (8 * c) 0 % 16) 7) (Some (span (c + 1) (c + get_or T (8 * c + 1) 0))) None

-- a finished one, whose record says where it ends
unfoldable pub record_view : List ℕ → ℕ → View
unfolding end_c
record_view R o = cond (eqb (get_or R o 0) 7) (Some (span (capacity + (o + 3)) (capacity + end_c R o))) None

unfoldable pub view_at : List ℕ → List ℕ → ℕ → View
unfolding item_view record_view
view_at T R c = cond (ltb c capacity) (item_view T c) (cond (leb (c - capacity) max_room) (record_view R (c - capacity)) None)

-- pieces that only part an object's members are passed over
unfoldable pub item_member : List ℕ → ℕ → Member
item_member T p =
    cond (leb 16 (get_or T (8 * p) 0)) (Member.Seam (p + 1))
    (cond (eqb (get_or T (8 * p + 1) 0) 0) Member.End (Member.At p (p + get_or T (8 * p + 1) 0)))

-- behind its key
unfoldable pub record_member : List ℕ → ℕ → Member
unfolding end_c
record_member R o = Member.At (capacity + (o + 5)) (capacity + end_c R (o + 5))

-- the member at p, where they go up to e
unfoldable pub member_at : List ℕ → List ℕ → ℕ → ℕ → Member
unfolding item_member record_member
member_at T R p e =
    cond (leb e p) Member.End
    (cond (ltb p capacity) (item_member T p) (cond (leb (p - capacity) max_room) (record_member R (p - capacity)) Member.End))

-- ---- the number of a member's key

-- any number may be held; 0 is no key's
unfoldable pub key_number : ℕ → ℕ
key_number k = cond (ltb k capacity) k 0

-- the key's record is the one before the value's
unfoldable pub record_key : List ℕ → ℕ → ℕ
unfolding pair_at
record_key R o = cond (ltb o 5) 0 (cond (ltb max_room o) 0 (pair_at R (o - 4)))

unfoldable pub key_at : List ℕ → List ℕ → ℕ → ℕ
unfolding key_number record_key
key_at T R c = key_number (cond (ltb c capacity) (get_or T (keys_at + c) 0) (record_key R (c - capacity)))

-- ---- the members of an object, by their numbers

abbrev pub members_by : (ℕ → List ℕ) → Member → List ℕ
members_by go Member.End = []
members_by go (Member.Seam q) = go q
members_by go (Member.At c q) = c ∷ go q

unfoldable pub members_n : ℕ → List ℕ → List ℕ → ℕ → ℕ → List ℕ
unfolding member_at
members_n zero T R p e = []
members_n (suc n) T R p e = members_by (λ q. members_n n T R q e) (member_at T R p e)

unfoldable pub members_of : List ℕ → List ℕ → ℕ → ℕ → List ℕ
unfolding members_n
members_of T R p e = members_n (e - p) T R p e

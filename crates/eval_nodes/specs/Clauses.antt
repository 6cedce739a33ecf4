-- What looking at the tables promises.
use Rattle.std.specs.Prelude.{◌≡◌, ℕ, ◌≤◌, ◌<◌, List, length}
use Rattle.rules.specs.Sizes.{max_room}
use Rattle.doc_items.specs.Room.{capacity, number_bound}
use Rattle.eval_nodes.specs.Model.{View, answer_at, answered_at, item_view, record_view, view_at, item_member, record_member, member_at, key_number, record_key, key_at}
use Rattle.eval_nodes.specs.declared.answer.Answered.{Answered}
use Rattle.eval_nodes.specs.declared.Member.{Member}

-- the records of finished values within their room
abbrev pub Few : List ℕ → Type 0
Few R = length R ≤ max_room

pub record AnswerIs (T : List ℕ) (b r : ℕ) : Type 0 where
  pub is : r ≡ answer_at T b
  pub small : r < number_bound

pub record AnsweredIs (T : List ℕ) (c : ℕ) (r : Answered) : Type 0 where
  pub is : r ≡ answered_at T c

pub record ViewIs (T R : List ℕ) (c : ℕ) (r : View) : Type 0 where
  pub is : r ≡ view_at T R c

pub record ItemViewIs (T : List ℕ) (c : ℕ) (r : View) : Type 0 where
  pub is : r ≡ item_view T c

pub record RecordViewIs (R : List ℕ) (o : ℕ) (r : View) : Type 0 where
  pub is : r ≡ record_view R o

pub record ItemMemberIs (T : List ℕ) (p : ℕ) (r : Member) : Type 0 where
  pub is : r ≡ item_member T p

pub record RecordMemberIs (R : List ℕ) (o : ℕ) (r : Member) : Type 0 where
  pub is : r ≡ record_member R o

pub record MemberIs (T R : List ℕ) (p e : ℕ) (r : Member) : Type 0 where
  pub is : r ≡ member_at T R p e

pub record RecordKeyIs (R : List ℕ) (o r : ℕ) : Type 0 where
  pub is : r ≡ record_key R o

pub record NumberIs (k r : ℕ) : Type 0 where
  pub is : r ≡ key_number k
  pub small : r < capacity

pub record KeyIs (T R : List ℕ) (c r : ℕ) : Type 0 where
  pub is : r ≡ key_at T R c
  pub small : r < capacity

-- What the functions promise, by the model; of the room what the rules' laws ask (modules Pieces and Answers).
use Rattle.std.specs.Prelude.{◌≡◌, ℕ, ◌+◌, ◌≤◌, ◌<◌, true, false, List, length}
use Rattle.rules.specs.Bytes.{Text}
use Rattle.rules.specs.Sizes.{max_text}
use Rattle.doc_items.specs.Room.{number_bound}
use Rattle.eval_writer.specs.Model.{word_at, key_at, key_len}
use Rattle.eval_writer.specs.Clauses.{Room, PutsText}
use Rattle.eval_writer.specs.declared.Out.{Out}
use Rattle.eval_results.specs.declared.extents.Extent.{Extent}
use Rattle.eval_concat.specs.Model.{Joined, text_of, text_join, tested_c, takes_text, nothing_c, text_c, members_by, members_c}
use Rattle.eval_concat.specs.Pieces.{TextPut}
use Rattle.eval_concat.specs.declared.Kind.{Kind}
use Rattle.eval_concat.specs.declared.Join.{Join}

-- Counters go on past the room: from here on they may still be added to.
abbrev pub farthest : ℕ
farthest = 549755813888

pub record GapAsked (room : List ℕ) (to i : ℕ) : Type 0 where
  pub whole : Room room
  pub near : to ≤ farthest
  pub item : i < number_bound

pub record GapIs (T X : List ℕ) (i to : ℕ) (b a : List ℕ) (r : ℕ) : Type 0 where
  pub put : PutsText to (key_len T i) (word_at X (key_at T i) (key_len T i)) b a
  pub end : r ≡ to + key_len T i
  pub near : r < to + number_bound

-- a text that is short enough, behind the whitespace before it
pub record AddedIs (T X : List ℕ) (i : ℕ) (s : Text) (to : ℕ) (b a : List ℕ) (r : Joined) : Type 0 where
  pub is : r ≡ tested_c (text_join (to + key_len T i + length s))
  pub put : TextPut T X i s to b a

pub record TextJoinedIs (T X : List ℕ) (i : ℕ) (s : Text) (j : Join) (b a : List ℕ) (r : Joined) : Type 0 where
  pub is : r ≡ text_c T i (length s) j
  pub put : length s ≤ max_text → takes_text j.kind ≡ true → TextPut T X i s (text_of j) b a

pub record NothingIs (T X : List ℕ) (i : ℕ) (j : Join) (b a : List ℕ) (r : Joined) : Type 0 where
  pub is : r ≡ nothing_c T i j
  pub put : takes_text j.kind ≡ true → PutsText (text_of j) (key_len T i) (word_at X (key_at T i) (key_len T i)) b a
  pub same : takes_text j.kind ≡ false → a ≡ b
  pub near : takes_text j.kind ≡ true → key_len T i < number_bound

-- How many elements are joined plays no part in where they are written: it may grow further.
abbrev pub most_count : ℕ
most_count = 2305843009213693952

-- elements written from one place to another, and how many there are with those before them
abbrev pub NearKind : Kind → Type 0
NearKind Kind.Blank = Unit {0}
NearKind Kind.Simple = Unit {0}
NearKind (Kind.Array count) = count ≤ most_count
NearKind Kind.Object = Unit {0}

pub record SizeAsked (from : Out) (r : Extent) : Type 0 where
  pub rec : from.rec.0 ≤ r.out.rec.0
  pub text : from.text.0 ≤ r.out.text.0
  pub near : r.out.rec.0 ≤ farthest
  pub deep : r.deep ≤ farthest

pub record MembersAsked (j : Join) (from : Out) (n : ℕ) (r : Extent) (i : ℕ) : Type 0 where
  pub size : SizeAsked from r
  pub kind : NearKind j.kind
  pub few : n ≤ farthest
  pub item : i < number_bound

pub record MembersAddedIs (T : List ℕ) (i : ℕ) (j : Join) (n : ℕ) (r : Extent) (q : Joined) : Type 0 where
  pub is : q ≡ members_by j.kind T i j n r

pub record MembersJoinedIs (T : List ℕ) (i : ℕ) (j : Join) (from : Out) (n : ℕ) (r : Extent) (q : Joined) : Type 0 where
  pub is : q ≡ members_c T i j from n r

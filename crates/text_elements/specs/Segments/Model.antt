-- What the functions on paths do to the numbers and buffers that they are given, as plain functions.
use Rattle.std.specs.Prelude.{◌≡◌, ℕ, ◌+◌, ◌≤◌, cond, List, [], ◌∷◌, eqb, length, set}
use Rattle.std.proofs.Math.Seq.{slice}
use Rattle.rules.specs.Sizes.{max_document}
use Rattle.text_elements.specs.Marks.Marks.{marks_room, mark_c}
use Rattle.text_elements.specs.Model.{finish_c}
use Rattle.text_elements.specs.declared.Path.{Path}

-- a path so far with the two buffers that it stands in
pub record State : Type 0 where
  pub path : Path
  pub out : List ℕ
  pub marks : List ℕ

abbrev pub state : Path → List ℕ → List ℕ → State
state p out marks = record { path = p; out = out; marks = marks }

unfoldable pub push_c : Path → Path
push_c p = record {
  count = p.count;
  used = record { 0 = p.used.0 + 1 };
  from = p.from;
  place = p.place;
  quotes = p.quotes;
  empty = p.empty;
}

pub record FinishIs (p : Path) (next : ℕ) (before after : List ℕ) (r : Path) : Type 0 where
  pub is : r ≡ finish_c next p
  pub marked : after ≡ mark_c p.count p.used.0 p.place.0 before

pub record PushIs (p : Path) (b : ℕ) (before after : List ℕ) (r : Path) : Type 0 where
  pub is : r ≡ push_c p
  pub put : after ≡ set before p.used.0 b

-- a byte outside quotes
unfoldable pub byte_c : ℕ → ℕ → State → State
unfolding mark_c finish_c push_c
byte_c b at x =
    cond (eqb b 46)
    (state (finish_c (at + 1) x.path) x.out (mark_c x.path.count x.path.used.0 x.path.place.0 x.marks))
    (state (push_c x.path) (set x.out x.path.used.0 b) x.marks)

-- what a byte changes, and how much
pub record ByteIs (p : Path) (b at : ℕ) (out marks out' marks' : List ℕ) (r : Path) : Type 0 where
  pub is : state r out' marks' ≡ byte_c b at (state p out marks)
  pub more-text : r.used.0 ≤ p.used.0 + 1
  pub more-count : r.count ≤ p.count + 1
  pub same_out : length out' ≡ length out
  pub same-marks : length marks' ≡ length marks

-- the bytes of unquoted text, from a place on
unfoldable pub split_c : ℕ → List ℕ → State → State
unfolding byte_c
split_c at [] x = x
split_c at (b ∷ bs) x = split_c (at + 1) bs (byte_c b at x)

-- what splitting asks: the places are in the text, the text has room, and so do the marks
pub record SplitAsked (s : List ℕ) (from to : ℕ) (p : Path) (out marks : List ℕ) : Type 0 where
  pub forward : from ≤ to
  pub inside : to ≤ length s
  pub short : length s ≤ max_document
  pub room : p.used.0 + to ≤ length out + from
  pub few : p.count ≤ from
  pub marks-room : marks_room ≤ length marks

pub record SplitIs (s : List ℕ) (from to : ℕ) (p : Path) (out marks out' marks' : List ℕ) (r : Path) : Type 0 where
  pub is : state r out' marks' ≡ split_c from (slice from to s) (state p out marks)
  pub more-text : r.used.0 + from ≤ p.used.0 + to
  pub more-count : r.count + from ≤ p.count + to
  pub same_out : length out' ≡ length out
  pub same-marks : length marks' ≡ length marks

-- What writing the items of a key's elements asks and promises.
use Rattle.std.specs.Prelude.{◌≡◌, ℕ, zero, suc, ◌+◌, ◌*◌, ◌-◌, ◌≤◌, ◌<◌, List, length, get_or}
use Rattle.rules.specs.Sizes.{max_path}
use Rattle.rules.specs.Tree.{Key}
use Rattle.text_elements.specs.Marks.Marks.{marks_room, end_of, place_of}
use Rattle.doc_items.specs.Keys.{HeldKeys, key_sizes}

-- where an element's text begins, by the marks: at the end of the one before
abbrev pub from_of : List ℕ → ℕ → ℕ
from_of marks zero = 0
from_of marks (suc j) = end_of marks j

-- the item of element j, whose text begins at `from`, with the kind k and the text at o of size z
pub record KeyItem (marks table : List ℕ) (j from whole base k o z : ℕ) : Type 0 where
  pub kind : get_or table (8 * j) 0 ≡ k
  pub size : get_or table (8 * j + 1) 0 ≡ whole - j
  pub key : get_or table (8 * j + 2) 0 ≡ base + from
  pub keylen : get_or table (8 * j + 3) 0 ≡ end_of marks j - from
  pub text : get_or table (8 * j + 4) 0 ≡ o
  pub textlen : get_or table (8 * j + 5) 0 ≡ z
  pub place : get_or table (8 * j + 6) 0 ≡ place_of marks j
  pub number : get_or table (8 * j + 7) 0 ≡ 0

pub record KeyAsked (marks table : List ℕ) (j from size base kind text textlen : ℕ) : Type 0 where
  pub room : 8 * j + 8 ≤ length table
  pub marks-room : 2 * j + 2 ≤ length marks
  pub begins : from ≤ end_of marks j
  pub text-ends : base + end_of marks j < 65536
  pub place-fits : place_of marks j < 65536
  pub inside : j ≤ size
  pub size_fits : size < 65536
  pub kind_fits : kind < 65536
  pub text-fits : text < 65536
  pub textlen-fits : textlen < 65536

pub record KeyIs (marks before after : List ℕ) (j from size base kind text textlen : ℕ) : Type 0 where
  pub item : KeyItem marks after j from size base kind text textlen
  pub below : (k : ℕ) → k < 8 * j → get_or after k 0 ≡ get_or before k 0
  pub above : (k : ℕ) → 8 * j + 8 ≤ k → get_or after k 0 ≡ get_or before k 0
  pub kept : length after ≡ length before

-- a key of at most 16 elements stands in the text part and the marks, each number fits, and the table has room for the items
pub record PutAsked (marks table : List ℕ) (count size base kind text textlen : ℕ) : Type 0 where
  pub keys : List Key
  pub x : List ℕ
  pub held : HeldKeys 0 0 keys x marks
  pub counted : count ≡ length keys
  pub some : 1 ≤ count
  pub few : count ≤ max_path
  pub sized : count ≤ size
  pub size_fits : size < 65536
  pub kind_fits : kind < 65536
  pub text-fits : text < 65536
  pub textlen-fits : textlen < 65536
  pub base-fits : base + key_sizes keys < 65536
  pub room : 8 * count ≤ length table
  pub marks-room : marks_room ≤ length marks

-- each element's item stands in the table, that of the last with the value's numbers, and no other number changes
pub record PutIs (marks before after : List ℕ) (count size base kind text textlen : ℕ) : Type 0 where
  pub upper : (j : ℕ) → j + 1 < count → KeyItem marks after j (from_of marks j) size base 7 0 0
  pub last : (j : ℕ) → j + 1 ≡ count → KeyItem marks after j (from_of marks j) size base kind text textlen
  pub above : (k : ℕ) → 8 * count ≤ k → get_or after k 0 ≡ get_or before k 0
  pub kept : length after ≡ length before

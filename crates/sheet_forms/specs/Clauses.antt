-- What the functions promise, by the model.
use Rattle.std.specs.Prelude.{◌≡◌, ℕ, ◌+◌, ◌≤◌, ◌<◌, List, length}
use Rattle.sheet_forms.specs.Model.{shape_of, pair_c, end_c, count_c, text_c, head_c, counted_c, key_c, record_c, size_of, text_len_of}
use Rattle.sheet_forms.specs.declared.Form.{Form}
use Rattle.sheet_forms.specs.declared.Shape.{Shape}
use Rattle.sheet_forms.specs.declared.Record.{Record}

-- how many numbers two bytes have: no offset of a record or a text is higher
abbrev pub two_bytes : ℕ
two_bytes = 65536

pub record Wide (x r : ℕ) : Type 0 where
  pub is : r ≡ x
  pub small : r ≤ 255

-- the first bytes are lent as records
abbrev pub Lent : List ℕ → ℕ → Type 0
Lent s len = (len ≤ length s) × (len ≤ two_bytes)

pub record ShapeIs (b : ℕ) (k : Shape) : Type 0 where
  pub is : k ≡ shape_of b

-- To a place that is near a record's length may be added, to one that is close a few bytes: no sum wraps.
abbrev pub Near : ℕ → Type 0
Near n = n ≤ 1099511627776

-- a job's bytes are fewer
abbrev pub farthest : ℕ
farthest = 2097152

abbrev pub Close : ℕ → Type 0
Close n = n ≤ 4611686018427387904

pub record PairIs (s : List ℕ) (p r : ℕ) : Type 0 where
  pub is : r ≡ pair_c s p
  pub small : r ≤ 65535

-- the end of a record is behind it, at most as far as two bytes say
pub record EndIs (s : List ℕ) (p r : ℕ) : Type 0 where
  pub is : r ≡ end_c s p
  pub low : p < r
  pub high : r ≤ p + 65538

pub record CountIs (s : List ℕ) (p end r : ℕ) : Type 0 where
  pub is : r ≡ count_c s end p

pub record TextIs (s : List ℕ) (len p t : ℕ) (r : Record) : Type 0 where
  pub is : r ≡ text_c s len p t
  pub fits : p + size_of r ≤ len

pub record HeadIs (s : List ℕ) (len p : ℕ) (r : Record) : Type 0 where
  pub is : r ≡ head_c s len p
  pub fits : p + size_of r ≤ len

pub record CountedIs (s : List ℕ) (len p : ℕ) (r : Record) : Type 0 where
  pub is : r ≡ counted_c s len p
  pub fits : p + size_of r ≤ len

pub record KeyIs (s : List ℕ) (len p : ℕ) (r : Record) : Type 0 where
  pub is : r ≡ key_c s len p
  pub fits : p + size_of r ≤ len

pub record RecordIs (form : Form) (s : List ℕ) (len p t : ℕ) (r : Record) : Type 0 where
  pub is : r ≡ record_c form s len p t
  pub fits : p ≤ len → p + size_of r ≤ len

pub record SizeIs (r : Record) (n : ℕ) : Type 0 where
  pub is : n ≡ size_of r

pub record TextLenIs (r : Record) (n : ℕ) : Type 0 where
  pub is : n ≡ text_len_of r
  pub small : n ≤ 65535

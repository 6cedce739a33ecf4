-- What comparing texts promises.
use Rattle.std.specs.Prelude.{◌≡◌, ℕ, ◌+◌, ◌-◌, min, List, length}

-- the bytes of a job's texts, the document's, the sheet's and the trail's records together; a lent text part is shorter
abbrev pub job_texts : ℕ
job_texts = 131072

-- offsets in such texts, with the length that is asked for there: sums of the two do not wrap
abbrev pub near_texts : ℕ
near_texts = 262144

-- how long the text is that a text part has at a place, of a length that is asked for
pub record SizeIs (text : List ℕ) (from len r : ℕ) : Type 0 where
  pub is : r ≡ min (from + len) (length text) - from

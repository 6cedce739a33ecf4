-- What the functions promise, by the rules' definitions: bytes written to a buffer.
use Rattle.std.specs.Prelude.{◌≡◌, ℕ, ◌≤◌, List, ◌++◌, length, drop}
use Rattle.rules.specs.Bytes.{Text}
use Rattle.rules.specs.Utf8.{encoded}

-- the buffer begins with the text, and is as it was behind it
abbrev pub Laid : Text → List ℕ → List ℕ → Type 0
Laid text before after = after ≡ text ++ drop (length text) before

-- a text is written to the start of a buffer; the answer is how many bytes it has
pub record WriteIs (text : Text) (before after : List ℕ) (r : ℕ) : Type 0 where
  pub is : r ≡ length text
  pub bytes : Laid text before after
  pub kept : length after ≡ length before

pub record EncodeIs (ch : ℕ) (before after : List ℕ) (r : ℕ) : Type 0 where
  pub wrote : WriteIs (encoded ch) before after r
  pub low : 1 ≤ r
  pub high : r ≤ 4

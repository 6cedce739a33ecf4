-- A path that is being read, and what its buffers hold.
use Rattle.std.specs.Prelude.{◌≡◌, ◌+◌, ◌≤◌, List, [], ◌∷◌, ◌++◌, length, take}
use Rattle.rules.specs.Bytes.{Text}
use Rattle.rules.specs.Paths.{Element, any_empty}
use Rattle.text_elements.specs.Marks.Holding.{Held}
use Rattle.text_elements.specs.Segments.Model.{State}

-- all texts, one behind the other
unfoldable pub joined : List Element → Text
joined [] = []
joined (e ∷ es) = e.text ++ joined es

-- a path that is being read: the whole elements es, and the element e so far
pub record Holds (x : State) (es : List Element) (e : Element) : Type 0 where
  pub count : x.path.count ≡ length es
  pub from : x.path.from.0 ≡ length (joined es)
  pub used : x.path.used.0 ≡ length (joined es) + length e.text
  pub place : x.path.place.0 ≡ e.place
  pub quotes : x.path.quotes ≡ e.has_quotes
  pub empty : x.path.empty ≡ any_empty es
  pub room : x.path.used.0 ≤ length x.out
  pub text : take x.path.used.0 x.out ≡ joined es ++ e.text
  pub held : Held 0 0 es x.out x.marks

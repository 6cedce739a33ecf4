use Rattle.text_elements.proofs.segments.Splitting.{bytes}
use Rattle.text_elements.proofs.segments.add_byte.Goals as goal

pub returns-then-ends_element : goal.returns-then-ends_element
returns-then-ends_element c = search bytes

pub returns : goal.returns
returns c = search bytes

use Rattle.text_elements.proofs.Elements.{next-is}
use Rattle.text_elements.proofs.Path.next_element.Goals as goal

pub returns : goal.returns
returns c = search next-is

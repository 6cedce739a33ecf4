use Rattle.text_elements.proofs.Elements.{quoted-is}
use Rattle.text_elements.proofs.Path.add_quoted.Goals as goal

pub returns : goal.returns
returns c = search quoted-is

use Rattle.text_elements.proofs.segments.Joining.{written-more}
use Rattle.text_elements.proofs.segments.add_written.Goals as goal

pub returns : goal.returns
returns c = search written-more

use Rattle.text_lengths.proofs.Lengths.{texts, places}
use Rattle.text_lengths.proofs.length_of.Goals as goal

pub returns-then-is_some : goal.returns-then-is_some
returns-then-is_some c = search texts

pub returns-in_default : goal.returns-in_default
returns-in_default c = search texts

pub with_rest-requires : goal.with_rest-requires
with_rest-requires c = search places

pub returns : goal.returns
returns c = search texts

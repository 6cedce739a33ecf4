use Rattle.text_lengths.proofs.Lengths.{rests, unit-needs}
use Rattle.text_lengths.proofs.with_rest.Goals as goal

pub returns-then-d-s : goal.returns-then-d-s
returns-then-d-s c = search rests

pub returns-then-not-string : goal.returns-then-not-string
returns-then-not-string c = search rests

pub returns-in_default : goal.returns-in_default
returns-in_default c = search rests

pub returns-then-d : goal.returns-then-d
returns-then-d c = search rests

pub in_micrometres-requires : goal.in_micrometres-requires
in_micrometres-requires c = search unit-needs

pub returns : goal.returns
returns c = search rests

use Rattle.text_strings.proofs.Runs.{threes}
use Rattle.text_strings.proofs.triple.three_quotes.Goals as goal

pub returns-in_default : goal.returns-in_default
returns-in_default c = search threes

pub returns-in_default-expect : goal.returns-in_default-expect
returns-in_default-expect c = search threes

pub returns-in_default-expect-2 : goal.returns-in_default-expect-2
returns-in_default-expect-2 c = search threes

pub returns : goal.returns
returns c = search threes

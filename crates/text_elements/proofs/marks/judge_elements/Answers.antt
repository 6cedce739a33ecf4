use Rattle.text_elements.proofs.marks.Judging.{judgements}
use Rattle.text_elements.proofs.marks.judge_elements.Goals as goal

pub returns-then-count-eq0 : goal.returns-then-count-eq0
returns-then-count-eq0 c = search judgements

pub returns-then-empty : goal.returns-then-empty
returns-then-empty c = search judgements

pub returns-then-allowed-count : goal.returns-then-allowed-count
returns-then-allowed-count c = search judgements

pub returns : goal.returns
returns c = search judgements

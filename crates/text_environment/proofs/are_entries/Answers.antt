use Rattle.text_environment.specs.Answers.{places}
use Rattle.text_environment.proofs.Counts.{counts}
use Rattle.text_environment.proofs.are_entries.Goals as goal

pub loop-at-init : goal.loop-at-init
loop-at-init c = search counts

pub returns-in_default : goal.returns-in_default
returns-in_default c = search counts

pub returns-then-left-eq0 : goal.returns-then-left-eq0
returns-then-left-eq0 c = search counts

pub overflow_add-at : goal.overflow_add-at
overflow_add-at c = search places

pub loop-at-smaller : goal.loop-at-smaller
loop-at-smaller c = search places

pub loop-at-preserved : goal.loop-at-preserved
loop-at-preserved c = search counts

pub returns : goal.returns
returns c = search counts

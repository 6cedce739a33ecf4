use Rattle.eval_groups.proofs.select.Descents.{descents}
use borrow.Author.Rules.{rules}
use Rattle.eval_groups.proofs.select.descend.Goals as goal

pub push-t-requires : goal.push-t-requires
push-t-requires c = (search rules, search rules, search descents)

pub returns-in-Undefined : goal.returns-in-Undefined
returns-in-Undefined c = search descents

pub returns-in-Missing : goal.returns-in-Missing
returns-in-Missing c = search descents

pub returns-in-Other : goal.returns-in-Other
returns-in-Other c = search descents

pub returns-in-Object : goal.returns-in-Object
returns-in-Object c = search descents

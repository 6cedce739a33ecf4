use Rattle.eval_substitutions.proofs.Levels.{levels}
use borrow.Author.Rules.{rules}
use Rattle.eval_substitutions.proofs.before.Goals as goal

pub loop-literal-init : goal.loop-literal-init
loop-literal-init c = search levels

pub push_members_named-walk-requires : goal.push_members_named-walk-requires
push_members_named-walk-requires c = search (rules, levels)

pub loop-literal-preserved : goal.loop-literal-preserved
loop-literal-preserved c = search levels

pub returns : goal.returns
returns c = search levels

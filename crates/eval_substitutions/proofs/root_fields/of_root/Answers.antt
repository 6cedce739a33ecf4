use Rattle.eval_substitutions.proofs.root_fields.Links.{links}
use Rattle.eval_substitutions.proofs.root_fields.of_root.Goals as goal

pub loop-i-init : goal.loop-i-init
loop-i-init c = search links

pub returns-then-end-i : goal.returns-then-end-i
returns-then-end-i c = search links

pub returns-then-next-i : goal.returns-then-next-i
returns-then-next-i c = search links

pub loop-i-preserved : goal.loop-i-preserved
loop-i-preserved c = search links

pub returns : goal.returns
returns c = search links

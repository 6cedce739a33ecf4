use Rattle.eval_stack.proofs.Entries.{pushes}
use Rattle.eval_stack.proofs.push.Goals as goal

pub returns-then-top-lt-ENTRIES : goal.returns-then-top-lt-ENTRIES
returns-then-top-lt-ENTRIES c = search pushes

pub returns : goal.returns
returns c = search pushes

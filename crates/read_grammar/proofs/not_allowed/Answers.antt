use Rattle.read_grammar.proofs.Starts.{allowances}
use Rattle.read_grammar.proofs.not_allowed.Goals as goal

pub returns-then-at-s : goal.returns-then-at-s
returns-then-at-s c = search allowances

pub returns : goal.returns
returns c = search allowances

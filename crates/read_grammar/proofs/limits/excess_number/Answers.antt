use Rattle.read_grammar.proofs.limits.Beginnings.{fulls}
use Rattle.read_grammar.proofs.limits.excess_number.Goals as goal

pub returns-then-starts_piece : goal.returns-then-starts_piece
returns-then-starts_piece c = search fulls

pub returns : goal.returns
returns c = search fulls

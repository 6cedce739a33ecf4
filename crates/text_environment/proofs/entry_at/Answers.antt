use Rattle.text_environment.proofs.Ends.{wholes}
use Rattle.text_environment.proofs.entry_at.Goals as goal

pub returns-in_err-equals : goal.returns-in_err-equals
returns-in_err-equals c = rw c.from_residual.ensures (search (wholes, c.in_err-equals.was))

pub overflow_add-equals : goal.overflow_add-equals
overflow_add-equals c = search (wholes, c.in_ok-equals.was)

pub text_end-requires : goal.text_end-requires
text_end-requires c = search (wholes, c.in_ok-equals.was)

pub returns-in_err-zero : goal.returns-in_err-zero
returns-in_err-zero c = rw c.from_residual-in_err-zero.ensures (search (wholes, c.in_ok-equals.was, c.in_err-zero.was))

pub returns : goal.returns
returns c = search (wholes, c.in_ok-equals.was, c.in_ok-zero.was)

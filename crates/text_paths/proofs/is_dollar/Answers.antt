use Rattle.text_paths.proofs.Whole.{dollars}
use Rattle.text_paths.proofs.is_dollar.Goals as goal

pub returns-then-key : goal.returns-then-key
returns-then-key c = search dollars

pub returns-else-key : goal.returns-else-key
returns-else-key c = search dollars

use Rattle.eval_pieces.proofs.Returns.{environments}
use Rattle.eval_pieces.proofs.of_environment.Goals as goal

pub returns-in-Text : goal.returns-in-Text
returns-in-Text c = search environments

pub returns-in-Undefined : goal.returns-in-Undefined
returns-in-Undefined c = search environments

pub returns-in-Missing : goal.returns-in-Missing
returns-in-Missing c = search environments

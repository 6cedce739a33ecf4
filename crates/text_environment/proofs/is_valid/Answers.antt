use Rattle.text_environment.proofs.Counts.{valids}
use Rattle.text_environment.proofs.is_valid.Goals as goal

pub returns-then-env-gt-ENVIRONMENT : goal.returns-then-env-gt-ENVIRONMENT
returns-then-env-gt-ENVIRONMENT c = search valids

pub returns-in-Some : goal.returns-in-Some
returns-in-Some c = search valids

pub returns-in-None : goal.returns-in-None
returns-in-None c = search valids

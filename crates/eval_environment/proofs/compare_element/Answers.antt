use Rattle.eval_environment.proofs.Comparing.{compares}
use Rattle.eval_environment.proofs.compare_element.Goals as goal

pub returns-then-texts-f : goal.returns-then-texts-f
returns-then-texts-f c = search compares

pub returns-then-name-used : goal.returns-then-name-used
returns-then-name-used c = search compares

pub returns-then-same_bytes : goal.returns-then-same_bytes
returns-then-same_bytes c = search compares

pub returns-else-same_bytes : goal.returns-else-same_bytes
returns-else-same_bytes c = search compares

pub returns-else-has_dot : goal.returns-else-has_dot
returns-else-has_dot c = search compares

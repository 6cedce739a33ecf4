use Rattle.read_references.proofs.Openings.{openings}
use Rattle.read_references.proofs.after_brace.Goals as goal

pub returns-then-ch-eq-QUESTION : goal.returns-then-ch-eq-QUESTION
returns-then-ch-eq-QUESTION c = search openings

pub returns : goal.returns
returns c = search openings

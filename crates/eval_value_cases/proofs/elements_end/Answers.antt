use Rattle.eval_value_laws.specs.Listing.{ends}
use Rattle.eval_value_cases.proofs.elements_end.Goals as goal

pub returns : goal.returns
returns c = search ends

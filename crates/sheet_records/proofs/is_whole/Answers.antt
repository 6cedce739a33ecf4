use Rattle.sheet_records.proofs.Values.{wholes}
use Rattle.sheet_records.proofs.is_whole.Goals as goal

pub returns-in-None : goal.returns-in-None
returns-in-None c = search wholes

pub returns-in-Some : goal.returns-in-Some
returns-in-Some c = search wholes

use Rattle.read_documents.proofs.Wholes.{all-inputs}
use Rattle.read_documents.proofs.read_inputs.Goals as goal

pub read_document-requires : goal.read_document-requires
read_document-requires c = search all-inputs

pub returns-then-fits : goal.returns-then-fits
returns-then-fits c = search all-inputs

pub returns : goal.returns
returns c = search all-inputs

use Rattle.read_documents.proofs.Inputs.{bounds}
use Rattle.read_documents.proofs.fits.Goals as goal

pub returns-then-document-gt-DOCUMENT : goal.returns-then-document-gt-DOCUMENT
returns-then-document-gt-DOCUMENT c = search bounds

pub returns-then-others_fit : goal.returns-then-others_fit
returns-then-others_fit c = search bounds

pub returns : goal.returns
returns c = search bounds

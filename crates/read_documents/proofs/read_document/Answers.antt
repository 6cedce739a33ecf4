use Rattle.read_documents.proofs.Wholes.{whole-documents}
use Rattle.read_documents.proofs.read_document.Goals as goal

pub number_tree-requires : goal.number_tree-requires
number_tree-requires c = search whole-documents

pub returns-in-Err : goal.returns-in-Err
returns-in-Err c = search whole-documents

pub returns-in-Ok : goal.returns-in-Ok
returns-in-Ok c = search whole-documents

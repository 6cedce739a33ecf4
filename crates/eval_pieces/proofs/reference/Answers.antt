use Rattle.eval_pieces.proofs.Returns.{references}
use Rattle.eval_pieces.proofs.reference.Goals as goal

pub returns-in-Nothing : goal.returns-in-Nothing
returns-in-Nothing c = search references

pub returns-in-One : goal.returns-in-One
returns-in-One c = search references

pub returns-in-Needs : goal.returns-in-Needs
returns-in-Needs c = search references

pub returns-in-Merged : goal.returns-in-Merged
returns-in-Merged c = search references

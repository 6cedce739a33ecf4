use Rattle.read_references.proofs.References.{references, asks-ends}
use Rattle.read_references.proofs.reference.Goals as goal

pub write_ends-requires : goal.write_ends-requires
write_ends-requires c = search (asks-ends, c.in_ok-path.was)

pub returns : goal.returns
returns c = search (references, c.in_ok-path.was)

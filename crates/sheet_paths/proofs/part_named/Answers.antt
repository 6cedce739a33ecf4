use Rattle.sheet_paths.proofs.Steps.{nameds, named-near}
use Rattle.sheet_paths.proofs.part_named.Goals as goal

pub part_at-requires : goal.part_at-requires
part_at-requires c = search (nameds, named-near)

pub returns-in-Some : goal.returns-in-Some
returns-in-Some c = search nameds

pub returns-in-None : goal.returns-in-None
returns-in-None c = search nameds

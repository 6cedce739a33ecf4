use Rattle.sheet_paths.proofs.Steps.{parts, part-size}
use Rattle.sheet_paths.proofs.part_at.Goals as goal

pub overflow_sub-result : goal.overflow_sub-result
overflow_sub-result c = search (parts, part-size)

pub returns-in-Some : goal.returns-in-Some
returns-in-Some c = search parts

pub returns-in-None : goal.returns-in-None
returns-in-None c = search parts

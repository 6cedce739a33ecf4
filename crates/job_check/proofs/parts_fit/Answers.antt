use Rattle.job_check.proofs.Parts.{parts}
use Rattle.job_check.proofs.parts_fit.Goals as goal

pub returns-then-trail-gt-ROOM : goal.returns-then-trail-gt-ROOM
returns-then-trail-gt-ROOM c = search parts

pub returns-then-table-gt-ROOM : goal.returns-then-table-gt-ROOM
returns-then-table-gt-ROOM c = search parts

pub returns-then-text-gt-ROOM : goal.returns-then-text-gt-ROOM
returns-then-text-gt-ROOM c = search parts

pub returns : goal.returns
returns c = search parts

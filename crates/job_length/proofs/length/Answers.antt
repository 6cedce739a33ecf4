use Rattle.job_length.specs.Clauses.{whole-table}
use Rattle.job_length.proofs.Lengths.{jobs}
use borrow.Author.Rules.{rules}
use Rattle.job_length.proofs.length.Goals as goal

pub returns-then-table-gt-ROOM : goal.returns-then-table-gt-ROOM
returns-then-table-gt-ROOM c = search jobs

pub returns-then-text-gt-ROOM : goal.returns-then-text-gt-ROOM
returns-then-text-gt-ROOM c = search jobs

pub record_length-requires : goal.record_length-requires
record_length-requires c = whole-table (search rules) (search rules) c.is_whole.ensures c.if-is_whole.true

pub returns-then-is_whole : goal.returns-then-is_whole
returns-then-is_whole c = search jobs

pub returns-else-is_whole : goal.returns-else-is_whole
returns-else-is_whole c = search jobs

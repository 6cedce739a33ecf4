use Rattle.job_length.specs.Clauses.{whole-table}
use Rattle.job_profile.proofs.Profiles.{jobs, root-value}
use borrow.Author.Rules.{rules}
use Rattle.job_profile.proofs.profile.Goals as goal

pub returns-then-table-gt-ROOM : goal.returns-then-table-gt-ROOM
returns-then-table-gt-ROOM c = search jobs

pub returns-then-text-gt-ROOM : goal.returns-then-text-gt-ROOM
returns-then-text-gt-ROOM c = search jobs

pub member_text-requires : goal.member_text-requires
member_text-requires c = search (rules, root-value, whole-table)

pub first_edition-requires : goal.first_edition-requires
first_edition-requires c = search whole-table

pub second_edition-requires : goal.second_edition-requires
second_edition-requires c = search whole-table

pub returns-in-Some-First : goal.returns-in-Some-First
returns-in-Some-First c = search jobs

pub returns-in-Some-Second : goal.returns-in-Some-Second
returns-in-Some-Second c = search jobs

pub returns-in-None : goal.returns-in-None
returns-in-None c = search jobs

pub returns-else-is_whole : goal.returns-else-is_whole
returns-else-is_whole c = search jobs

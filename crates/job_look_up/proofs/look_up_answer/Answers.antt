use Rattle.job_look_up.proofs.Answers.{jobs}
use Rattle.job_look_up.proofs.look_up_answer.Goals as goal

pub returns-then-table-gt-ROOM : goal.returns-then-table-gt-ROOM
returns-then-table-gt-ROOM c = search jobs

pub returns-then-text-gt-ROOM : goal.returns-then-text-gt-ROOM
returns-then-text-gt-ROOM c = search jobs

pub returns-then-path-gt-PATH_TEXT : goal.returns-then-path-gt-PATH_TEXT
returns-then-path-gt-PATH_TEXT c = search jobs

pub returns-in-Some : goal.returns-in-Some
returns-in-Some c = search jobs

pub returns-in-None : goal.returns-in-None
returns-in-None c = search jobs

pub returns-else-is_whole : goal.returns-else-is_whole
returns-else-is_whole c = search jobs

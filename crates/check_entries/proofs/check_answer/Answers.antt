use Rattle.check_entries.proofs.Entries.{answers}
use Rattle.check_entries.proofs.check_answer.Goals as goal

pub returns-then-trail-u : goal.returns-then-trail-u
returns-then-trail-u c = search answers

pub returns-then-text-texts : goal.returns-then-text-texts
returns-then-text-texts c = search answers

pub returns-then-same_entry : goal.returns-then-same_entry
returns-then-same_entry c = search answers

pub returns : goal.returns
returns c = search answers

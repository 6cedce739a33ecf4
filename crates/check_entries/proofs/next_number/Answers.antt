use Rattle.check_entries.proofs.Numbers.{numbers}
use Rattle.check_entries.proofs.next_number.Goals as goal

pub returns-then-trail-u : goal.returns-then-trail-u
returns-then-trail-u c = search numbers

pub returns-then-number_at-eq0 : goal.returns-then-number_at-eq0
returns-then-number_at-eq0 c = search numbers

pub returns-then-b-count : goal.returns-then-b-count
returns-then-b-count c = search numbers

pub returns : goal.returns
returns c = search numbers

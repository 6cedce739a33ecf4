use Rattle.check_entries.proofs.Entries.{undefineds}
use Rattle.check_entries.proofs.check_undefined.Goals as goal

pub returns-then-same_undefined : goal.returns-then-same_undefined
returns-then-same_undefined c = search undefineds

pub returns : goal.returns
returns c = search undefineds

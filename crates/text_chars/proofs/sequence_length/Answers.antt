use Rattle.text_chars.proofs.Utf8.{promises}
use Rattle.text_chars.proofs.sequence_length.Goals as goal

pub returns-then-lead-le127 : goal.returns-then-lead-le127
returns-then-lead-le127 c = search promises

pub returns-then-lead-lt194 : goal.returns-then-lead-lt194
returns-then-lead-lt194 c = search promises

pub returns-then-lead-le223 : goal.returns-then-lead-le223
returns-then-lead-le223 c = search promises

pub returns-then-lead-le239 : goal.returns-then-lead-le239
returns-then-lead-le239 c = search promises

pub returns-then-lead-le244 : goal.returns-then-lead-le244
returns-then-lead-le244 c = search promises

pub returns : goal.returns
returns c = search promises

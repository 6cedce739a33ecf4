use Rattle.text_chars.proofs.Utf8.{highests}
use Rattle.text_chars.proofs.greatest.Goals as goal

pub returns-then-lead-eq237 : goal.returns-then-lead-eq237
returns-then-lead-eq237 c = search highests

pub returns-then-lead-eq244 : goal.returns-then-lead-eq244
returns-then-lead-eq244 c = search highests

pub returns : goal.returns
returns c = search highests

use Rattle.text_chars.proofs.Utf8.{lowests}
use Rattle.text_chars.proofs.least.Goals as goal

pub returns-then-lead-eq224 : goal.returns-then-lead-eq224
returns-then-lead-eq224 c = search lowests

pub returns-then-lead-eq240 : goal.returns-then-lead-eq240
returns-then-lead-eq240 c = search lowests

pub returns : goal.returns
returns c = search lowests

use Rattle.text_lengths.proofs.decimals.Forms.{units}
use Rattle.text_lengths.proofs.decimals.unit_of.Goals as goal

pub returns-then-second-eq-M : goal.returns-then-second-eq-M
returns-then-second-eq-M c = search units

pub returns-then-first-eq-M : goal.returns-then-first-eq-M
returns-then-first-eq-M c = search units

pub returns-then-second-eq-M-2 : goal.returns-then-second-eq-M-2
returns-then-second-eq-M-2 c = search units

pub returns-then-first-eq-U : goal.returns-then-first-eq-U
returns-then-first-eq-U c = search units

pub returns-then-second-eq-N : goal.returns-then-second-eq-N
returns-then-second-eq-N c = search units

pub returns-then-first-eq-I : goal.returns-then-first-eq-I
returns-then-first-eq-I c = search units

pub returns : goal.returns
returns c = search units

use Rattle.eval_look_back.proofs.Beginning.{begins}
use Rattle.eval_look_back.proofs.Looking.{aparts}
use Rattle.eval_look_back.proofs.looks_back.Goals as goal

pub returns-then-field-eq0 : goal.returns-then-field-eq0
returns-then-field-eq0 c = search begins

pub returns-then-field-item : goal.returns-then-field-item
returns-then-field-item c = search begins

pub descend-requires : goal.descend-requires
descend-requires c = search begins

pub returns : goal.returns
returns c = search aparts

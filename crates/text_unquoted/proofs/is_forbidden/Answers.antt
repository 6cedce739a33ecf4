use Rattle.text_unquoted.proofs.Stops.{forbiddens}
use Rattle.text_unquoted.proofs.is_forbidden.Goals as goal

pub returns-in_default : goal.returns-in_default
returns-in_default c = search forbiddens

pub returns-in_default-2 : goal.returns-in_default-2
returns-in_default-2 c = search forbiddens

pub returns-in_default-3 : goal.returns-in_default-3
returns-in_default-3 c = search forbiddens

pub returns-in_default-4 : goal.returns-in_default-4
returns-in_default-4 c = search forbiddens

pub returns-in_default-5 : goal.returns-in_default-5
returns-in_default-5 c = search forbiddens

pub returns-in-33-to-36 : goal.returns-in-33-to-36
returns-in-33-to-36 c = search forbiddens

pub returns-in-33-to-36-2 : goal.returns-in-33-to-36-2
returns-in-33-to-36-2 c = search forbiddens

pub returns-in-33-to-36-3 : goal.returns-in-33-to-36-3
returns-in-33-to-36-3 c = search forbiddens

pub returns-in-33-to-36-4 : goal.returns-in-33-to-36-4
returns-in-33-to-36-4 c = search forbiddens

pub returns-in-33-to-36-5 : goal.returns-in-33-to-36-5
returns-in-33-to-36-5 c = search forbiddens

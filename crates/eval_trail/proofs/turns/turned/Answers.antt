use Rattle.eval_trail.proofs.turns.Turns.{turns}
use Rattle.eval_trail.proofs.turns.turned.Goals as goal

pub begun-requires : goal.begun-requires
begun-requires c = search turns

pub overflow_sub-n : goal.overflow_sub-n
overflow_sub-n c = search turns

pub lay_undefined-step-requires : goal.lay_undefined-step-requires
lay_undefined-step-requires c = search turns

pub laid-requires : goal.laid-requires
laid-requires c = search turns

pub overflow_sub-n-in-Done : goal.overflow_sub-n-in-Done
overflow_sub-n-in-Done c = search turns

pub lay_answer-step-requires : goal.lay_answer-step-requires
lay_answer-step-requires c = search turns

pub laid-requires-in-Done : goal.laid-requires-in-Done
laid-requires-in-Done c = search turns

pub returns-in-Refused : goal.returns-in-Refused
returns-in-Refused c = search turns

pub returns-in-Needs : goal.returns-in-Needs
returns-in-Needs c = search turns

pub returns-in-Undefined : goal.returns-in-Undefined
returns-in-Undefined c = search turns

pub returns-in-Done : goal.returns-in-Done
returns-in-Done c = search turns

use Rattle.eval_trail.proofs.Laying.{layings}
use Rattle.eval_trail.proofs.lay_answer.Goals as goal

pub add_entry-requires : goal.add_entry-requires
add_entry-requires c = search layings

pub keep_answer-requires : goal.keep_answer-requires
keep_answer-requires c = search layings

pub returns-then-has_room : goal.returns-then-has_room
returns-then-has_room c = search layings

pub returns : goal.returns
returns c = search layings

use Rattle.job_results.proofs.Places.{places}
use Rattle.job_results.proofs.place_of.Goals as goal

pub position_of-here-requires : goal.position_of-here-requires
position_of-here-requires c = search places

pub returns-then-has_place : goal.returns-then-has_place
returns-then-has_place c = search places

pub returns : goal.returns
returns c = search places

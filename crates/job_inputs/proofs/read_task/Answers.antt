use Rattle.job_inputs.proofs.Tasks.{rooms, prepare-asked, tasks}
use Rattle.job_inputs.proofs.read_task.Goals as goal

pub read_inputs-requires : goal.read_inputs-requires
read_inputs-requires c = search rooms

pub prepare-requires : goal.prepare-requires
prepare-requires c = search prepare-asked

pub returns-in-Err : goal.returns-in-Err
returns-in-Err c = search tasks

pub returns-in-Ok : goal.returns-in-Ok
returns-in-Ok c = search tasks

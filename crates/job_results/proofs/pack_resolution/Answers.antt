use Rattle.job_results.proofs.Packing.{packs, rooms, refusal-room}
use Rattle.job_results.proofs.pack_resolution.Goals as goal

pub overflow_mul-result : goal.overflow_mul-result
overflow_mul-result c = search rooms

pub overflow_mul-result-in-Ok : goal.overflow_mul-result-in-Ok
overflow_mul-result-in-Ok c = search rooms

pub overflow_add-result : goal.overflow_add-result
overflow_add-result c = search rooms

pub overflow_mul-result-in-Ok-2 : goal.overflow_mul-result-in-Ok-2
overflow_mul-result-in-Ok-2 c = search rooms

pub overflow_add-result-in-Ok : goal.overflow_add-result-in-Ok
overflow_add-result-in-Ok c = search rooms

pub overflow_mul-result-in-Ok-3 : goal.overflow_mul-result-in-Ok-3
overflow_mul-result-in-Ok-3 c = search rooms

pub overflow_add-result-in-Ok-2 : goal.overflow_add-result-in-Ok-2
overflow_add-result-in-Ok-2 c = search rooms

pub pack_refusal-requires : goal.pack_refusal-requires
pack_refusal-requires c = search refusal-room

pub returns-in-Ok : goal.returns-in-Ok
returns-in-Ok c = search packs

pub returns-in-Err : goal.returns-in-Err
returns-in-Err c = search packs

use Rattle.sheet_paths.proofs.Packing.{packs, rooms}
use Rattle.sheet_paths.proofs.pack.Goals as goal

pub overflow_mul-result : goal.overflow_mul-result
overflow_mul-result c = search rooms

pub overflow_mul-result-in-Ok : goal.overflow_mul-result-in-Ok
overflow_mul-result-in-Ok c = search rooms

pub overflow_add-result : goal.overflow_add-result
overflow_add-result c = search rooms

pub overflow_mul-result-in-Err : goal.overflow_mul-result-in-Err
overflow_mul-result-in-Err c = search rooms

pub overflow_add-result-in-Err : goal.overflow_add-result-in-Err
overflow_add-result-in-Err c = search rooms

pub returns-in-Ok : goal.returns-in-Ok
returns-in-Ok c = search packs

pub returns-in-Err : goal.returns-in-Err
returns-in-Err c = search packs

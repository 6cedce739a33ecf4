use Rattle.job_results.proofs.Packing.{verdict-packs, no_room}
use Rattle.job_results.proofs.pack_verdict.Goals as goal

pub pack_refusal-requires : goal.pack_refusal-requires
pack_refusal-requires c = search no_room

pub returns-in-Ok : goal.returns-in-Ok
returns-in-Ok c = search verdict-packs

pub returns-in-Err : goal.returns-in-Err
returns-in-Err c = search verdict-packs

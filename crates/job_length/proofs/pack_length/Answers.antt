use Rattle.job_length.proofs.Lengths.{packs}
use Rattle.job_length.proofs.pack_length.Goals as goal

pub returns-in-Ok : goal.returns-in-Ok
returns-in-Ok c = search packs

pub returns-in-Err : goal.returns-in-Err
returns-in-Err c = search packs

use Rattle.job_profile.proofs.Profiles.{packs, pack-needs}
use Rattle.job_profile.proofs.pack_profile.Goals as goal

pub overflow_mul-result-in-Ok-2 : goal.overflow_mul-result-in-Ok-2
overflow_mul-result-in-Ok-2 c = search pack-needs

pub overflow_add-result-in-Ok : goal.overflow_add-result-in-Ok
overflow_add-result-in-Ok c = search pack-needs

pub returns-in-Ok : goal.returns-in-Ok
returns-in-Ok c = search packs

pub returns-in-Err : goal.returns-in-Err
returns-in-Err c = search packs

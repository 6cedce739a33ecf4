use Rattle.job_profile.proofs.Profiles.{limits}
use Rattle.job_profile.proofs.limits_of.Goals as goal

pub returns-then-maximum-minimum : goal.returns-then-maximum-minimum
returns-then-maximum-minimum c = search limits

pub returns-in-None : goal.returns-in-None
returns-in-None c = search limits

pub returns-in-None-high : goal.returns-in-None-high
returns-in-None-high c = search limits

pub returns-else-maximum-minimum : goal.returns-else-maximum-minimum
returns-else-maximum-minimum c = search limits

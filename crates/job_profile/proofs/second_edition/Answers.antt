use Rattle.job_profile.proofs.Profiles.{seconds}
use Rattle.job_profile.proofs.second_edition.Goals as goal

pub returns-in-Some : goal.returns-in-Some
returns-in-Some c = search seconds

pub returns-in-None : goal.returns-in-None
returns-in-None c = search seconds

use Rattle.job_profile.proofs.Profiles.{plates, plate-values}
use borrow.Author.Rules.{rules}
use Rattle.job_profile.proofs.plate_text.Goals as goal

pub member_text-requires : goal.member_text-requires
member_text-requires c = search (rules, plate-values)

pub returns-in-None : goal.returns-in-None
returns-in-None c = search plates

pub returns-in-Some : goal.returns-in-Some
returns-in-Some c = search plates

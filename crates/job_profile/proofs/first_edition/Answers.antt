use Rattle.job_profile.proofs.Profiles.{firsts, root-value, step_small}
use borrow.Author.Rules.{rules}
use Rattle.job_profile.proofs.first_edition.Goals as goal

pub member_text-requires : goal.member_text-requires
member_text-requires c = search (rules, root-value)

pub bare_length-low-requires : goal.bare_length-low-requires
bare_length-low-requires c = search (rules, step_small)

pub bare_length-high-requires : goal.bare_length-high-requires
bare_length-high-requires c = search (rules, step_small)

pub returns-in-None : goal.returns-in-None
returns-in-None c = search firsts

pub returns-in-Some : goal.returns-in-Some
returns-in-Some c = search firsts

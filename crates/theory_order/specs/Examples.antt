-- The cases of document 01, and the source's examples of references, by what the code does: shown by computation.
use Rattle.std.specs.Prelude.{◌≡◌, refl, map}
use Rattle.rules.specs.Sizes.{max_room}
use Rattle.rules.specs.Jobs.{Resolved}
use Rattle.rules.specs.Cases.{bytes, Case, cases}
use Rattle.rules.specs.Examples.{references}
use Rattle.theory_order.specs.Whole.{resolve_job_c}

unfoldable pub outcome_c : Case → Resolved
unfolding bytes resolve_job_c
outcome_c c = resolve_job_c (bytes c.document) (bytes c.environment) c.budget max_room max_room max_room

pub cases-hold : map outcome_c cases ≡ map (λ c. c.gives) cases
unfolding outcome_c cases
cases-hold = refl

pub references-hold : map outcome_c references ≡ map (λ c. c.gives) references
unfolding outcome_c references
references-hold = refl

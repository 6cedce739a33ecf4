use Rattle.eval_value_laws.specs.Takings.{field_laws}
use Rattle.eval_value_cases.proofs.field_at.Goals as goal

pub returns-then-link_at-p : goal.returns-then-link_at-p
returns-then-link_at-p c = search field_laws

pub returns-in-Nothing : goal.returns-in-Nothing
returns-in-Nothing c = search field_laws

pub returns-in-Needs : goal.returns-in-Needs
returns-in-Needs c = search field_laws

pub returns-in-One : goal.returns-in-One
returns-in-One c = search field_laws

pub returns-in-Merged : goal.returns-in-Merged
returns-in-Merged c = search field_laws

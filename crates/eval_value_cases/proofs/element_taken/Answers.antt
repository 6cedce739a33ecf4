use Rattle.eval_value_laws.specs.Takings.{element-laws}
use Rattle.eval_value_cases.proofs.element_taken.Goals as goal

pub returns-in-Missing : goal.returns-in-Missing
returns-in-Missing c = search element-laws

pub returns-in-Undefined : goal.returns-in-Undefined
returns-in-Undefined c = search element-laws

pub returns-in-Layer : goal.returns-in-Layer
returns-in-Layer c = search element-laws

use Rattle.eval_settle_laws.specs.Elements.{element-laws, element-asks}
use borrow.Author.Rules.{rules}
use Rattle.eval_needs.proofs.need_of_element.Goals as goal

pub element_at-requires : goal.element_at-requires
element_at-requires c = search element-laws

pub need_of_layer-need-requires : goal.need_of_layer-need-requires
need_of_layer-need-requires c = search (element-asks c.requires, rules)

pub returns-in-End : goal.returns-in-End
returns-in-End c = search element-laws

pub returns-in-Seam : goal.returns-in-Seam
returns-in-Seam c = search element-laws

pub returns-in-Undefined : goal.returns-in-Undefined
returns-in-Undefined c = search element-laws

pub returns-in-Missing : goal.returns-in-Missing
returns-in-Missing c = search element-laws

pub returns-in-Layer : goal.returns-in-Layer
returns-in-Layer c = search element-laws

use Rattle.eval_value_laws.specs.Nodes.{origin-laws}
use Rattle.eval_value_cases.proofs.origin_of.Goals as goal

pub returns-then-layer-ge-CAPACITY : goal.returns-then-layer-ge-CAPACITY
returns-then-layer-ge-CAPACITY c = search origin-laws

pub returns-then-kind-le-STRING : goal.returns-then-kind-le-STRING
returns-then-kind-le-STRING c = search origin-laws

pub returns-then-levels-eq0 : goal.returns-then-levels-eq0
returns-then-levels-eq0 c = search origin-laws

pub returns-then-kind-eq-ARRAY : goal.returns-then-kind-eq-ARRAY
returns-then-kind-eq-ARRAY c = search origin-laws

pub returns-then-layer-ge-CAPACITY-2 : goal.returns-then-layer-ge-CAPACITY-2
returns-then-layer-ge-CAPACITY-2 c = search origin-laws

pub returns-then-levels-eq0-2 : goal.returns-then-levels-eq0-2
returns-then-levels-eq0-2 c = search origin-laws

pub returns-in-Nothing : goal.returns-in-Nothing
returns-in-Nothing c = search origin-laws

pub returns-in-Needs : goal.returns-in-Needs
returns-in-Needs c = search origin-laws

pub returns-else-kind-eq-ARRAY : goal.returns-else-kind-eq-ARRAY
returns-else-kind-eq-ARRAY c = search origin-laws

pub returns-else-levels-eq0-2 : goal.returns-else-levels-eq0-2
returns-else-levels-eq0-2 c = search origin-laws

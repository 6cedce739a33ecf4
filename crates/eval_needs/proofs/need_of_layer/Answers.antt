use Rattle.eval_settle_laws.specs.Layers.{layer-laws}
use Rattle.eval_needs.proofs.need_of_layer.Goals as goal

pub returns-then-layer-ge-CAPACITY : goal.returns-then-layer-ge-CAPACITY
returns-then-layer-ge-CAPACITY c = search layer-laws

pub returns-then-kind-eq-ARRAY : goal.returns-then-kind-eq-ARRAY
returns-then-kind-eq-ARRAY c = search layer-laws

pub members_from-end-requires : goal.members_from-end-requires
members_from-end-requires c = search layer-laws

pub returns-then-kind-eq-OBJECT : goal.returns-then-kind-eq-OBJECT
returns-then-kind-eq-OBJECT c = search layer-laws

pub returns : goal.returns
returns c = search layer-laws

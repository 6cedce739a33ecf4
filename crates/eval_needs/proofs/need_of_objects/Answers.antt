use Rattle.eval_settle_laws.specs.Layers.{objects-laws}
use Rattle.eval_needs.proofs.need_of_objects.Goals as goal

pub code_at-layer-requires : goal.code_at-layer-requires
code_at-layer-requires c = search objects-laws

pub need_of_layer-requires : goal.need_of_layer-requires
need_of_layer-requires c = search objects-laws

pub returns-then-hi-lo : goal.returns-then-hi-lo
returns-then-hi-lo c = search objects-laws

pub members_from-end-requires : goal.members_from-end-requires
members_from-end-requires c = search objects-laws

pub returns : goal.returns
returns c = search objects-laws

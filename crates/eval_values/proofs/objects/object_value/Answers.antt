use Rattle.eval_value_laws.specs.Holders.{object-laws, object-asked}
use Rattle.eval_values.proofs.objects.object_value.Goals as goal

pub fields_value-made-requires : goal.fields_value-made-requires
fields_value-made-requires c = (object-asked c.requires.0 c.members_from-top.ensures c.behind_head-inner.ensures, c.members_from-top.ensures.low)

pub returns : goal.returns
returns c = search object-laws

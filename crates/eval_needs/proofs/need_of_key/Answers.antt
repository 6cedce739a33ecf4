use Rattle.eval_settle_laws.specs.Keys.{key_laws, key-layer, key-objects}
use borrow.Author.Rules.{rules}
use Rattle.eval_needs.proofs.need_of_key.Goals as goal

pub take_from-requires : goal.take_from-requires
take_from-requires c = search key_laws

pub need_of_layer-need-requires : goal.need_of_layer-need-requires
need_of_layer-need-requires c = search (key-layer c.requires c.take_from.ensures, rules)

pub need_of_objects-need-requires : goal.need_of_objects-need-requires
need_of_objects-need-requires c = search (key-objects c.requires c.take_from.ensures, rules)

pub returns-in-Nothing : goal.returns-in-Nothing
returns-in-Nothing c = search key_laws

pub returns-in-Needs : goal.returns-in-Needs
returns-in-Needs c = search key_laws

pub returns-in-One : goal.returns-in-One
returns-in-One c = search key_laws

pub returns-in-Merged : goal.returns-in-Merged
returns-in-Merged c = search key_laws

use Rattle.eval_groups.proofs.Entering.{addings, held_place}
use borrow.Author.Rules.{rules}
use Rattle.eval_groups.proofs.add.Goals as goal

pub returns-then-top-ge-ENTRIES : goal.returns-then-top-ge-ENTRIES
returns-then-top-ge-ENTRIES c = search addings

pub join_group-requires : goal.join_group-requires
join_group-requires c = (search rules, held_place c.holds_key.ensures c.if-holds_key.true, search rules, search rules)

pub returns-then-holds_key : goal.returns-then-holds_key
returns-then-holds_key c = search addings

pub returns : goal.returns
returns c = search addings

use Rattle.eval_concat_objects.proofs.pair.Returns.{pushing}
use borrow.Author.Rules.{rules}
use Rattle.eval_concat_objects.proofs.pair.push_pair.Goals as goal

pub push-requires : goal.push-requires
push-requires c = (search pushing, search pushing, search rules)

pub returns : goal.returns
returns c = search pushing

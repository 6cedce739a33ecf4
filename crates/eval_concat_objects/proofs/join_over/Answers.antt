use Rattle.eval_concat_objects.proofs.Returns.{overs}
use Rattle.eval_concat_objects.proofs.join_over.Goals as goal

pub keep_pair-requires : goal.keep_pair-requires
keep_pair-requires c = search overs

pub merge-merged-requires : goal.merge-merged-requires
merge-merged-requires c = search overs

pub returns : goal.returns
returns c = search overs

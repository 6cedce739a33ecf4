use Rattle.eval_concat.proofs.array.Arrays.{members-laws}
use Rattle.eval_concat.proofs.array.join_members.Goals as goal

pub returns-then-not-is_within : goal.returns-then-not-is_within
returns-then-not-is_within c = search members-laws

pub returns : goal.returns
returns c = search members-laws

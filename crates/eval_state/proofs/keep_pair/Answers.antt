use Rattle.eval_state.proofs.Keeps.{pairs}
use Rattle.eval_state.proofs.keep_pair.Goals as goal

pub keep_value-requires : goal.keep_value-requires
keep_value-requires c = search pairs

pub returns : goal.returns
returns c = search pairs

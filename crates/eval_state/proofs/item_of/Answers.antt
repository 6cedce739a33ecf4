use Rattle.eval_state.proofs.Items.{index}
use Rattle.eval_state.proofs.item_of.Goals as goal

pub returns-then-i-lt-FIRST : goal.returns-then-i-lt-FIRST
returns-then-i-lt-FIRST c = search index

pub returns : goal.returns
returns c = search index

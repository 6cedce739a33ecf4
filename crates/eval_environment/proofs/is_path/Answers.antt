use Rattle.eval_environment.proofs.Comparing.{comparisons}
use Rattle.eval_environment.proofs.is_path.Goals as goal

pub loop-i-init : goal.loop-i-init
loop-i-init c = search comparisons

pub text_pair-end-requires : goal.text_pair-end-requires
text_pair-end-requires c = search comparisons

pub compare_element-requires : goal.compare_element-requires
compare_element-requires c = search comparisons

pub returns-in-None : goal.returns-in-None
returns-in-None c = search comparisons

pub loop-i-preserved : goal.loop-i-preserved
loop-i-preserved c = search comparisons

pub returns : goal.returns
returns c = search comparisons

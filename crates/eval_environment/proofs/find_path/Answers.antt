use Rattle.text_environment.specs.Answers.{places}
use Rattle.eval_environment.proofs.Names.{looks}
use Rattle.eval_environment.proofs.find_path.Goals as goal

pub loop-at-init : goal.loop-at-init
loop-at-init c = search looks

pub returns-in-None : goal.returns-in-None
returns-in-None c = search looks

pub slice_bounds-is_path-count : goal.slice_bounds-is_path-count
slice_bounds-is_path-count c = search looks

pub slice_bounds-is_path-start : goal.slice_bounds-is_path-start
slice_bounds-is_path-start c = search looks

pub slice_bounds-is_path-end : goal.slice_bounds-is_path-end
slice_bounds-is_path-end c = search looks

pub is_path-requires : goal.is_path-requires
is_path-requires c = search looks

pub overflow_add-result : goal.overflow_add-result
overflow_add-result c = search places

pub overflow_sub-result : goal.overflow_sub-result
overflow_sub-result c = search places

pub overflow_sub-result-then-is_path : goal.overflow_sub-result-then-is_path
overflow_sub-result-then-is_path c = search places

pub returns-then-is_path : goal.returns-then-is_path
returns-then-is_path c = search looks

pub overflow_add-at : goal.overflow_add-at
overflow_add-at c = search places

pub loop-at-smaller : goal.loop-at-smaller
loop-at-smaller c = search places

pub loop-at-preserved : goal.loop-at-preserved
loop-at-preserved c = search looks

pub returns : goal.returns
returns c = search looks

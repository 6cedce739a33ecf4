use Rattle.eval_concat_arrays.proofs.Returns.{arrays, lending}
use Rattle.eval_concat_arrays.proofs.join_array.Goals as goal

pub array_elements-made-requires : goal.array_elements-made-requires
array_elements-made-requires c = search lending

pub join_elements-requires : goal.join_elements-requires
join_elements-requires c = search lending

pub returns : goal.returns
returns c = search arrays

use Rattle.job_results.proofs.Places.{refusal-packs, refusal-rooms}
use Rattle.job_results.proofs.pack_refusal.Goals as goal

pub place_of-at-requires : goal.place_of-at-requires
place_of-at-requires c = search refusal-rooms

pub overflow_mul-result : goal.overflow_mul-result
overflow_mul-result c = search refusal-rooms

pub overflow_add-result : goal.overflow_add-result
overflow_add-result c = search refusal-rooms

pub overflow_mul-result-2 : goal.overflow_mul-result-2
overflow_mul-result-2 c = search refusal-rooms

pub overflow_add-result-2 : goal.overflow_add-result-2
overflow_add-result-2 c = search refusal-rooms

pub overflow_mul-result-3 : goal.overflow_mul-result-3
overflow_mul-result-3 c = search refusal-rooms

pub overflow_add-result-3 : goal.overflow_add-result-3
overflow_add-result-3 c = search refusal-rooms

pub overflow_mul-result-4 : goal.overflow_mul-result-4
overflow_mul-result-4 c = search refusal-rooms

pub overflow_add-result-4 : goal.overflow_add-result-4
overflow_add-result-4 c = search refusal-rooms

pub returns : goal.returns
returns c = search refusal-packs

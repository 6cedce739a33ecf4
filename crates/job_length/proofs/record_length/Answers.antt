use Rattle.job_length.proofs.Lengths.{records, insides, part-short}
use Rattle.job_length.proofs.record_length.Goals as goal

pub returns-then-kind-lt-NUMBER : goal.returns-then-kind-lt-NUMBER
returns-then-kind-lt-NUMBER c = search records

pub returns-then-kind-gt-STRING : goal.returns-then-kind-gt-STRING
returns-then-kind-gt-STRING c = search records

pub slice_bounds-length_of-end : goal.slice_bounds-length_of-end
slice_bounds-length_of-end c = search insides

pub length_of-requires : goal.length_of-requires
length_of-requires c = search part-short

pub returns : goal.returns
returns c = search records

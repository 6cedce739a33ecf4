use Rattle.sheet_records.proofs.kinds.Records.{pairs}
use Rattle.sheet_records.proofs.kinds.text_pair.Goals as goal

pub two_bytes-requires : goal.two_bytes-requires
two_bytes-requires c = search pairs

pub returns : goal.returns
returns c = search pairs

use Rattle.eval_writer.proofs.Records.{record_is}
use Rattle.eval_writer.proofs.put_record.Goals as goal

pub returns : goal.returns
returns c = search record_is

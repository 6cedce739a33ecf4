use Rattle.read_values.proofs.fields.Putting.{key-is}
use Rattle.read_values.proofs.fields.put_key.Goals as goal

pub returns : goal.returns
returns c = search key-is

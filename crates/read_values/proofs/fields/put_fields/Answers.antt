use Rattle.read_values.proofs.fields.Putting.{puts}
use Rattle.read_values.proofs.fields.put_fields.Goals as goal

pub loop-j-init : goal.loop-j-init
loop-j-init c = search puts

pub put_key-requires : goal.put_key-requires
put_key-requires c = search puts

pub end_at-from-requires : goal.end_at-from-requires
end_at-from-requires c = search puts

pub loop-j-preserved : goal.loop-j-preserved
loop-j-preserved c = search puts

pub put_key-requires-2 : goal.put_key-requires-2
put_key-requires-2 c = search puts

pub returns : goal.returns
returns c = search puts

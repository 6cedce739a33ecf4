use Rattle.eval_root_index.proofs.Linking.{by_keys}
use Rattle.eval_root_index.proofs.link_by_key.Goals as goal

pub loop-i-init : goal.loop-i-init
loop-i-init c = search by_keys

pub returns-then-k-ge-CAPACITY : goal.returns-then-k-ge-CAPACITY
returns-then-k-ge-CAPACITY c = search by_keys

pub returns-then-i-before : goal.returns-then-i-before
returns-then-i-before c = search by_keys

pub bounds-table-k : goal.bounds-table-k
bounds-table-k c = search by_keys

pub loop-i-preserved : goal.loop-i-preserved
loop-i-preserved c = search by_keys

pub returns : goal.returns
returns c = search by_keys

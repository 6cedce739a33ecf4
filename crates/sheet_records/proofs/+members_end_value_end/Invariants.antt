use Prim.Native.Nat.{◌+◌, ◌-◌, ◌*◌}
use lib.ListN.{length}
use Rattle.sheet_records.proofs.Values.{Members}
use Rattle.sheet_records.proofs.+members_end_value_end.Given as goal

abbrev pub decreases-members_end : goal.decreases-members_end
decreases-members_end l = 2 * (length l.table.now - l.at.0) + 1

abbrev pub decreases-value_end : goal.decreases-value_end
decreases-value_end l = 2 * (length l.table.now - l.at.0)

abbrev pub invariant-members_end-loop : goal.invariant-members_end-loop
invariant-members_end-loop l = Members l.keyed l.levels l.table l.limit.0 l.count l.initial.here.0 l.counter l.here.0

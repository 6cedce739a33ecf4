use Prim.Native.Nat.{◌+◌, ◌*◌}
use Rattle.eval_settle_laws.specs.Settling.{AllOn, turns_left}
use mathlib.Core.Path.{◌≡◌}
use lib.ListN.{length}
use Rattle.eval_settle.proofs.+settle_all_settle_one.Given as goal

abbrev pub decreases-settle_all : goal.decreases-settle_all
decreases-settle_all l = 2 * l.levels + 1

abbrev pub decreases-settle_one : goal.decreases-settle_one
decreases-settle_one l = 2 * l.levels + 0

abbrev pub invariant-settle_all-loop-p : goal.invariant-settle_all-loop-p
invariant-settle_all-loop-p l = AllOn l.env l.span l.initial.state l.budget l.levels l.initial.table l.initial.bytes l.initial.stack l.initial.room l.initial.trail l.initial.text l.table l.bytes l.stack l.room l.trail l.text l.p l.state × (length l.list ≡ length l.initial.list)

abbrev pub decreases-settle_all-loop-p : goal.decreases-settle_all-loop-p
decreases-settle_all-loop-p l = turns_left l.span.end l.budget l.p l.state

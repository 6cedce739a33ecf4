use Rattle.eval_work.proofs.Standing.{turns_at}
use Rattle.eval_work.proofs.Working.{LoopInv}
use Rattle.eval_work.proofs.work.Given as goal

abbrev pub invariant-loop-refusal : goal.invariant-loop-refusal
invariant-loop-refusal l = LoopInv l.env l.base l.b l.initial.p l.budget l.initial.table l.initial.bytes l.initial.stack l.initial.room l.initial.trail l.initial.text l.initial.list l.table l.bytes l.stack l.room l.trail l.text l.list l.n l.p l.o

abbrev pub decreases-loop-refusal : goal.decreases-loop-refusal
decreases-loop-refusal l = turns_at l.budget l.n l.p

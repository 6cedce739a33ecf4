use Rattle.eval_substitutions.proofs.root_fields.Links.{LinksInv}
use Prim.Native.Nat.{◌-◌}
use Rattle.doc_items.specs.Room.{number_bound}
use Rattle.eval_substitutions.proofs.root_fields.of_root.Given as goal

abbrev pub invariant-loop-i : goal.invariant-loop-i
invariant-loop-i l = LinksInv l.table l.key l.end l.base l.initial.work l.work l.walk l.i

abbrev pub decreases-loop-i : goal.decreases-loop-i
decreases-loop-i l = number_bound - l.i

-- One law for each answer of `push`.
use mathlib.Core.Path.{refl, sym}
use mathlib.Core.List.{List}
use Prim.Native.Nat.{ℕ, ◌+◌, ◌≤◌, ◌<◌}
use lib.ListN.{set, length-set}
use Rattle.eval_stack.specs.Model.{entries, code_place}
use Rattle.eval_stack.specs.Clauses.{PushIs}
use Rattle.eval_stack.specs.Pushes.{pushed_room, pushed-full, top-room, top-full}

module _ {top : ℕ} (c : ℕ) (w : List ℕ) where
  pub push-room : top < entries → PushIs top c w (set w (code_place top) c) (top + 1)
  push-room l = record { is = sym (pushed_room top c w l); next = sym (top-room top l); len = length-set w (code_place top) c }

  pub push-full : entries ≤ top → PushIs top c w w top
  push-full l = record { is = sym (pushed-full top c w l); next = sym (top-full top l); len = refl }

pub ruleset pushes = (push-room, push-full)

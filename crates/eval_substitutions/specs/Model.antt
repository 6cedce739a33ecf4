-- What the code computes on the way down, on the numbers that it has: level by level the layers so far, and where they stand on the stack.
use Rattle.std.specs.Prelude.{ℕ, ◌+◌, ◌-◌, ◌<◌, List, length, get_or}
use Rattle.eval_nodes.specs.Model.{members_of}
use Rattle.eval_stack.specs.Model.{entries}
use Rattle.eval_layers.specs.Model.{Walk, push_members_c, deeper_c}
use Rattle.eval_layers.specs.Clauses.{walked}
use Rattle.eval_layers.specs.declared.Walked.{Walked}
use Rattle.eval_substitutions.specs.RootFields.Contracts.{OfRootIs}
use Rattle.eval_look_back.specs.Clauses.{AroundIs, RootAroundIs}

module _ (T R : List ℕ) where
  -- one key deeper, and above that the members with the key from an item up to another; r is the room
  unfoldable pub level_c : (key r first end : ℕ) → Walk → Walk
  unfolding push_members_c members_of deeper_c
  level_c key r first end x = push_members_c T R key r (members_of T R first end) (deeper_c T R key r x.0 x.1)

  -- From the root down to a literal in i levels: the layers so far, which stand from lo on. The first level goes by the root's links.
  pub data Levels (keys : List ℕ) (item base : ℕ) : (literal i lo : ℕ) → Walk → Type 0 where
    level-root : {at : ℕ} {w w' : List ℕ} {r : Walked} → RootAroundIs T (get_or keys 0 0) item at → OfRootIs T (get_or keys 0 0) at base w w' r
        → Levels keys item base at 1 base (walked w' base r)
    level-more : {literal i lo at : ℕ} {x : Walk} → Levels keys item base literal i lo x → literal < item → AroundIs T literal item at
        → Levels keys item base at (i + 1) (lo + length x.0) (level_c (get_or keys i 0) (entries - (lo + length x.0)) (literal + 1) at x)

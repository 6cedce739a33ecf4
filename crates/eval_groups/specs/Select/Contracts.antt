-- What the walk along a group promises.
use Rattle.std.specs.Prelude.{◌≡◌, ℕ, ◌+◌, ◌-◌, ◌≤◌, ◌<◌, List, [], length, None}
use Rattle.eval_stack.specs.Model.{entries, link_at, seg}
use Rattle.eval_stack.specs.Clauses.{Same}
use Rattle.eval_layers.specs.Model.{of_end_c}
use Rattle.eval_layers.specs.Clauses.{TakenIs}
use Rattle.eval_layers.specs.declared.Taken.{Taken}
use Rattle.eval_groups.specs.Model.{chain_at, chain_c}
use Rattle.eval_groups.specs.Select.Model.{layer_seen, seen_at, take_c}
use Rattle.eval_groups.specs.declared.select.Seen.{Seen}
use Rattle.eval_groups.specs.declared.select.Descent.{Descent}

pub record LayerSeenIs (T R : List ℕ) (c : ℕ) (r : Seen) : Type 0 where
  pub is : r ≡ layer_seen T R c

pub record SeenIs (T R : List ℕ) (c : ℕ) (r : Seen) : Type 0 where
  pub is : r ≡ seen_at T R c

-- the link falls, or the walk is at its end
abbrev pub Followed : List ℕ → ℕ → ℕ → ℕ → Descent → Type 0
Followed w base top q (Descent.More t n) = (t ≡ top) × (n ≡ link_at w q) × (n < q)
Followed w base top q (Descent.End x) = (q ≤ link_at w q) × (x ≡ of_end_c None base top)

pub record FollowIs (w : List ℕ) (base top q : ℕ) (r : Descent) : Type 0 where
  pub is : Followed w base top q r

-- the walk from q down is ended, or is the one from n down
abbrev pub Descended : List ℕ → List ℕ → ℕ → List ℕ → ℕ → ℕ → List ℕ → Descent → Type 0
Descended T R base w top q w' (Descent.End x) =
    (acc : List ℕ) × (take_c T R base (entries - base) (chain_at w q) (seg w base (top - base)) ≡ (x, acc)) × (seg w' base (length acc) ≡ acc)
    × (base + length acc ≤ entries)
Descended T R base w top q w' (Descent.More t n) =
    (take_c T R base (entries - base) (chain_at w q) (seg w base (top - base)) ≡ take_c T R base (entries - base) (chain_at w n) (seg w' base (t - base)))
    × (n < q) × (base ≤ t) × (t ≤ entries)

pub record DescentIs (T R : List ℕ) (base : ℕ) (w : List ℕ) (top q : ℕ) (w' : List ℕ) (r : Descent) : Type 0 where
  pub is : Descended T R base w top q w' r
  pub same : Same base w w'
  pub len : length w' ≡ length w

pub record TakeIs (T R : List ℕ) (first top : ℕ) (w w' : List ℕ) (r : Taken) : Type 0 where
  pub is : TakenIs top w w' r (take_c T R top (entries - top) (chain_c w top (link_at w first)) [])

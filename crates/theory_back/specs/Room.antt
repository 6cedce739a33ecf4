-- How much room the layers before a field take, where those of each level stand on one stack above those of the level before: no more than
-- the root weighs, since the earlier fields of a literal, and the field that is entered, are all parts of it.
use Rattle.std.specs.Prelude.{◌≡◌, ℕ, ◌+◌, ◌≤◌, Bool}
use Rattle.std.proofs.Math.Bool.{true, false}
use Rattle.std.proofs.Math.Option.{Option}
use native.Mathlib.Omega.{arith}
use Rattle.std.proofs.Math.ListN.{length}
use Rattle.rules.specs.Bytes.{Text, same}
use Rattle.rules.specs.Tree.{Key, Node, object, Fields, no_fields, field, join_fields}
use Rattle.rules.specs.Values.{Answer}
use Rattle.rules.specs.Weights.{weight_of, weight_of_fields, weigh}
use Rattle.rules.specs.Settled.{Settled, push_node, push_if, named_in, deeper_in, deeper_of}
use Rattle.theory.specs.Room.{node_pushed, deeper-weighs}
use Rattle.theory_back.specs.LookBack.{below_in}

module _ (known : ℕ → Option Answer) where
  -- the layers of a level, and how many stand below them
  abbrev pub Stacked : Type 0
  Stacked = Settled × ℕ

  abbrev pub below_on : Text → Fields → Stacked → Stacked
  below_on k earlier x = (below_in known k earlier x.0, x.1 + length x.0.0)

  named-weighs : (k : Text) (fs : Fields) (w : Settled) → weigh known (named_in known k fs w).0 ≤ weight_of_fields known fs + weigh known w.0
  unfolding named_in weight_of
  named-weighs k no_fields w = omega arith
  named-weighs k (field j n fs) w = go (same j.text k) (λ u. named-weighs k fs u)
    where
      go : (t : Bool) → ((u : Settled) → weigh known (named_in known k fs u).0 ≤ weight_of_fields known fs + weigh known u.0)
          → weigh known (named_in known k fs (push_if known t n w)).0 ≤ weight_of known n + weight_of_fields known fs + weigh known w.0
      go true ih = omega (arith, ih (push_node known n w), node_pushed known n w)
      go false ih = omega (arith, ih w)

  join-weighs : (fs gs : Fields) → weight_of_fields known (join_fields fs gs) ≡ weight_of_fields known fs + weight_of_fields known gs
  unfolding join_fields weight_of
  join-weighs no_fields gs = omega arith
  join-weighs (field k n fs) gs = omega (arith, join-weighs fs gs)

  -- the earlier fields of a literal weigh less than it
  pub earlier-weighs : (earlier rest : Fields) → weight_of_fields known earlier ≤ weight_of known (object (join_fields earlier rest))
  unfolding weight_of
  earlier-weighs earlier rest = omega (arith, join-weighs earlier rest)

  -- the layers, those below them, and the node that is still to be entered have room together
  abbrev pub Within : ℕ → Stacked → Node → Type 0
  Within room x n = x.1 + weigh known x.0.0 + weight_of known n ≤ room

  pub within-field : (room : ℕ) (x : Stacked) (j : Text) (earlier : Fields) (k : Key) (n : Node) (later : Fields)
      → Within room x (object (join_fields earlier (field k n later))) → Within room (below_on j earlier x) n
  unfolding weight_of deeper_in
  within-field room x j earlier k n later h =
      let below = deeper_of known j x.0 in
      let fewer : weigh known below.0 + length x.0.0 ≤ weigh known x.0.0 = deeper-weighs known j x.0.0 x.0.1 in
      let more : weigh known (below_in known j earlier x.0).0 ≤ weight_of_fields known earlier + weigh known below.0 = named-weighs j earlier below in
      omega (arith, join-weighs earlier (field k n later))

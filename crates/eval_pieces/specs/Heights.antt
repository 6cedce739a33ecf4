-- The layers of a substitution's path are no higher than the root and an answer inside it.
use Rattle.std.specs.Prelude.{◌≡◌, ℕ, ◌≤◌, true, List}
use Rattle.std.proofs.Common.{sym, subst}
use Rattle.std.proofs.Math.Option.{Option, none, some}
use Rattle.std.proofs.Math.ListN.{get_elem?}
use Rattle.rules.specs.Bytes.{Text}
use Rattle.rules.specs.Tree.{Root}
use Rattle.rules.specs.Values.{Answer}
use Rattle.rules.specs.Settled.{Settled, walk_in}
use Rattle.rules.specs.Unresolved.{Open, Unresolved, behind}
use Rattle.rules.specs.Documents.{Setting, count_of}
use Rattle.theory.specs.Numbering.{Prepared, numbers-below}
use Rattle.theory.specs.Ends.{WithinSize}
use Rattle.theory.specs.Reach.{Each, each_at}
use Rattle.theory.specs.Rules.{HomeLow, top, Listed, all_listed}
use Rattle.theory.specs.Depths.{height_in, Shallow, walk-low, forward-low, shallow-within, flat-low}
use Rattle.theory.specs.SettledAnswers.{HomeIn, open_in, forward_in, layers_in, LowBefore}

module _ (known : ℕ → Option Answer) (within : (b : ℕ) (a : Answer) → known b ≡ some a → WithinSize a) (root : Root) where
  abbrev shallow : Shallow known
  shallow = shallow-within known within

  layers-low : (h : Option HomeIn) (p : List Text) → LowBefore root h → height_in (layers_in known root h p).0 ≤ top root
  unfolding layers_in forward_in
  layers-low none p w = forward-low known shallow root p
  layers-low (some h) p w = go (behind h.path p)
    where
      go : (o : Option (List Text))
          → height_in (elim o as (λ _. Settled) [ none ↦ forward_in known root p | some rest ↦ walk_in known rest h.before ]).0
          ≤ top root
      go none = forward-low known shallow root p
      go (some rest) = walk-low known shallow (top root) rest h.before w

  openness-low : (N : ℕ) (o : Option Open) → HomeLow true N (top root) o → LowBefore root (open_in known o)
  openness-low N none w = tt
  openness-low N (some h) w = flat-low known within N (top root) h.before w

module _ (x : Setting) (prepared : Prepared x.document) (known : ℕ → Option Answer)
    (within : (b : ℕ) (a : Answer) → known b ≡ some a → WithinSize a) where
  pub path-low : (b : ℕ) (u : Unresolved) → get_elem? x.document.unresolved b ≡ some u → (p : List Text)
      → height_in (layers_in known x.document.root (open_in known u.openness) p).0 ≤ top x.document.root
  path-low b u e p =
      let N = count_of x in
      let tree = x.document.root in
      let all = all_listed true N tree (numbers-below x.document prepared) in
      let listed = subst (λ l. Each (Listed true N (top tree)) l) (sym prepared.listed) all in
      let at = each_at (Listed true N (top tree)) x.document.unresolved listed b u e in
      layers-low known within tree (open_in known u.openness) p (openness-low known within tree N u.openness at.before)

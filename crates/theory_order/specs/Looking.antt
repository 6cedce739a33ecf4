-- What the newest question comes to (`fate` of `answers`), by what its pieces come to alone: as the code looks for it, piece after piece.
use Rattle.std.specs.Prelude.{◌≡◌, ℕ, ◌≤◌, List, ◌∷◌}
use Rattle.std.proofs.Math.Path.{refl}
use Rattle.std.proofs.Common.{sym, ◌∙◌, arith}
use Rattle.std.proofs.Math.Option.{Option, none, some}
use Rattle.std.proofs.Math.ListN.{get_elem?}
use Rattle.answers.specs.Ask.{Out, value, missing, refused, run}
use Rattle.answers.specs.Theory.Sound.{clash}
use Rattle.answers.specs.Theory.Covers.{quiet}
use Rattle.answers.specs.Theory.AheadTurns.{fate, awaits, piece-misses, piece-valued, piece-refuses}
use Rattle.rules.specs.Refusals.{Refusal}
use Rattle.rules.specs.Tree.{Pieces, no_pieces, node_piece, substituted, root_node, height_of, highest_piece}
use Rattle.rules.specs.Values.{Answer}
use Rattle.rules.specs.Layers.{Work, node_value}
use Rattle.rules.specs.Settled.{Given, node_in, value_in}
use Rattle.rules.specs.Unresolved.{Unresolved, evaluate, substitution_value}
use Rattle.rules.specs.Documents.{Setting}
use Rattle.theory.specs.Numbering.{Prepared}
use Rattle.theory.specs.Ends.{WithinSize}
use Rattle.theory.specs.SettledAnswers.{open_in, substitution_in, run-written, run-substituted}
use Rattle.theory_order.specs.Skeletons.{rest_of, Needed, needs_of}

-- the first of the pieces, alone
abbrev pub piece_in : Setting → (ℕ → Option Answer) → Unresolved → Pieces → Given Answer
piece_in x known u no_pieces = value none
piece_in x known u (node_piece place gap n ps) = node_in known (value_in known 65) n
piece_in x known u (substituted gap y ps) = substitution_in known x.document.root 65 x.environment (open_in known u.openness) y

-- a piece that misses nothing is passed over, whatever it comes to
passed : (known : ℕ → Option Answer) (t : Work Answer) (ss : List Needed) (rule : Work Answer) → ((d : ℕ) → run known t ≡ missing d → ⊥)
    → fate known (quiet t ∷ ss) rule ≡ fate known ss rule
passed known t ss rule f = go (run known t) refl
  where
    go : (o : Out Refusal Answer) → run known t ≡ o → fate known (quiet t ∷ ss) rule ≡ fate known ss rule
    go (value a) e = piece-valued known t ss rule a e
    go (refused y) e = piece-refuses known t ss rule y e
    go (missing d) e = absurd (f d e)

module _ (x : Setting) (p : Prepared x.document) (nested : height_of (root_node x.document.root) ≤ 32)
    (known : ℕ → Option Answer) (within : (b : ℕ) (a : Answer) → known b ≡ some a → WithinSize a)
    (b : ℕ) (u : Unresolved) (listed : get_elem? x.document.unresolved b ≡ some u) (rule : Work Answer) where
  abbrev pub needs_left : Pieces → List Needed
  needs_left = needs_of x.document.root x.environment u.openness

  -- the first of the pieces misses question d: the newest awaits it, and goes on there
  pub look-stops : (ps : Pieces) → highest_piece ps ≤ height_of (root_node x.document.root) → (d : ℕ) → piece_in x known u ps ≡ missing d
      → fate known (needs_left ps) rule ≡ awaits d (needs_left ps)
  unfolding needs_of height_of
  look-stops no_pieces low d e = clash (cc)
  look-stops (node_piece place gap n ps) low d e =
      piece-misses known (node_value (evaluate x.document.root x.environment) n) (needs_left ps) rule d
      (run-written x p nested known within n (omega arith) ∙ e)
  look-stops (substituted gap y ps) low d e =
      piece-misses known (substitution_value x.document.root x.environment u.openness y) (needs_left ps) rule d
      (run-substituted x p nested known within b u listed y ∙ e)

  -- it misses nothing
  pub look-passes : (ps : Pieces) → highest_piece ps ≤ height_of (root_node x.document.root) → ((d : ℕ) → piece_in x known u ps ≡ missing d → ⊥)
      → fate known (needs_left ps) rule ≡ fate known (needs_left (rest_of ps)) rule
  unfolding needs_of height_of
  look-passes no_pieces low f = refl
  look-passes (node_piece place gap n ps) low f =
      passed known (node_value (evaluate x.document.root x.environment) n) (needs_left ps) rule
      (λ d e. f d (sym (run-written x p nested known within n (omega arith)) ∙ e))
  look-passes (substituted gap y ps) low f =
      passed known (substitution_value x.document.root x.environment u.openness y) (needs_left ps) rule
      (λ d e. f d (sym (run-substituted x p nested known within b u listed y) ∙ e))

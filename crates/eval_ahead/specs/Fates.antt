-- What looking ahead says of the newest question's fate: from `AheadIs` to the laws of theory_order (WorkLaws).
use Rattle.std.specs.Prelude.{◌≡◌, refl, ℕ, ◌≤◌, List}
use Rattle.std.proofs.Common.{◌∙◌, arith}
use Rattle.answers.specs.Ask.{Trail, lookup, run}
use Rattle.answers.specs.Theory.AheadTurns.{fate, fate_of, awaits}
use Rattle.rules.specs.Bytes.{Text}
use Rattle.rules.specs.Tree.{Pieces, no_pieces, node_piece, substituted, root_node, height_of, highest_piece}
use Rattle.rules.specs.Values.{Answer}
use Rattle.rules.specs.Layers.{Work}
use Rattle.rules.specs.Unresolved.{Unresolved}
use Rattle.rules.specs.Documents.{Setting}
use Rattle.theory_order.specs.Skeletons.{rest_of, Needed, needs_of}
use Rattle.theory_order.specs.Looking.{look-stops, look-passes}
use Rattle.eval_question_laws.specs.Clauses.{Questioned}
use Rattle.eval_ahead.specs.Clauses.{Passes, here, more, Stops}

rest-low : (ps : Pieces) (h : ℕ) → highest_piece ps ≤ h → highest_piece (rest_of ps) ≤ h
unfolding height_of
rest-low no_pieces h l = l
rest-low (node_piece place gap n ps) h l = omega arith
rest-low (substituted gap y ps) h l = l

module _ {x : Setting} {key : ℕ → Text} {items : ℕ} {T B E : List ℕ} {S : Trail Answer} {base item b : ℕ} {u : Unresolved}
    (Q : Questioned x key items T B E S base item b u) (rule : Work Answer) where
  abbrev high : ℕ
  high = height_of (root_node x.document.root)

  abbrev needs_left : Pieces → List Needed
  needs_left = needs_of x.document.root x.environment u.openness

  passes-fate : {first rest : Pieces} → Passes x (lookup S) u first rest → highest_piece first ≤ high
      → (fate (lookup S) (needs_left first) rule ≡ fate (lookup S) (needs_left rest) rule) × (highest_piece rest ≤ high)
  passes-fate here low = (refl, low)
  passes-fate {first} (more {ps = ps} p f) low =
      let (e, l) = passes-fate p low in
      (e ∙ look-passes x Q.state.document.read Q.nested (lookup S) Q.within b u Q.listed rule ps l f, rest-low ps high l)

  -- nothing is missing: its rules are run
  pub nothing-fate : {first : Pieces} → Passes x (lookup S) u first no_pieces → highest_piece first ≤ high
      → fate (lookup S) (needs_left first) rule ≡ fate_of (run (lookup S) rule)
  unfolding needs_of
  nothing-fate p low = (passes-fate p low).0

  -- it awaits question d, and goes on at the piece that misses it
  pub stops-fate : {first : Pieces} {d i : ℕ} (s : Stops x (lookup S) u T item first d i) → highest_piece first ≤ high
      → fate (lookup S) (needs_left first) rule ≡ awaits d (needs_left s.rest)
  stops-fate {first} {d} s low =
      let (e, l) = passes-fate s.passes low in
      e ∙ look-stops x Q.state.document.read Q.nested (lookup S) Q.within b u Q.listed rule s.rest l d s.misses

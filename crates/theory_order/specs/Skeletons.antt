-- What the pieces of an unresolved value need, one after another, with no test and no join between them: the skeletons of its rules (`Covers` of
-- `answers`). Where there are two at most, nothing is looked for: the rules are run from their start, as often as an answer is missing. To look first
-- would be dearer there: the first piece is all that is evaluated again.
use Rattle.std.specs.Prelude.{◌≡◌, ℕ, Bool, true}
use Rattle.std.proofs.Math.Path.{refl}
use Rattle.std.proofs.Common.{sym, subst}
use Rattle.std.proofs.Math.Bool.{false}
use mathlib.Core.List.{List, [], ◌∷◌}
use Rattle.std.proofs.Math.Option.{Option, none, some}
use Rattle.std.proofs.Math.ListN.{get_elem?}
use Rattle.answers.specs.Ask.{Ask, done, refused, bind}
use Rattle.answers.specs.Theory.Sound.{clash}
use Rattle.answers.specs.Theory.Covers.{Skeleton, Silent, silent-bind, quiet, quiet-below, Covers, covers-quiet, covers-done, covers-piece, Leads, stop, covers-leads, skeleton_of}
use Rattle.answers.specs.Theory.AheadTurns.{AllBelow}
use Rattle.rules.specs.Bytes.{Text}
use Rattle.rules.specs.Refusals.{Refusal, nowhere, spent}
use Rattle.rules.specs.Environment.{Environment}
use Rattle.rules.specs.Tree.{Pieces, no_pieces, node_piece, substituted, Root, root_node, AllNode, AllPieces}
use Rattle.rules.specs.Values.{Value, scalar, array_of, object_of, Answer, within_size}
use Rattle.rules.specs.Layers.{Work, node_value}
use Rattle.rules.specs.Unresolved.{Openness, Unresolved, Join, blank, text, joined_array, joined_object, join_value, join_nothing, join_answer, sized, join_piece, evaluate, substitution_value, several, answer_of}
use Rattle.rules.specs.Documents.{Setting, rule_of, count_of}
use Rattle.theory.specs.Numbering.{Prepared, numbers-below}
use Rattle.theory.specs.Ends.{ends-below}
use Rattle.theory.specs.Reach.{Each, each_at, InRange, node-ends}
use Rattle.theory.specs.Rules.{HomeLow, Listed, top, all_listed, evaluate-ends, substitution-ends}

-- ---- the tests and joins ask nothing

silent-sized : {A : Type 0} (o : Answer) (a : A) → Silent (sized o a)
unfolding sized
silent-sized none a = tt
silent-sized {A} (some v) a = go (within_size v)
  where
    go : (t : Bool) → Silent {F = Refusal} {R = Answer} {A = A} (elim t as (λ _. Work A) [ true ↦ done a | false ↦ refused (nowhere 13) ])
    go true = tt
    go false = tt

silent-join : (place : ℕ) (gap : Text) (v : Value) (j : Join) → Silent (join_value place gap v j)
unfolding join_value
silent-join place gap (scalar x) (blank t) = tt
silent-join place gap (scalar x) (text t) = tt
silent-join place gap (scalar x) (joined_array vs) = tt
silent-join place gap (scalar x) (joined_object ms) = tt
silent-join place gap (array_of ws) (blank t) = tt
silent-join place gap (array_of ws) (text t) = tt
silent-join place gap (array_of ws) (joined_array vs) = tt
silent-join place gap (array_of ws) (joined_object ms) = tt
silent-join place gap (object_of ns) (blank t) = tt
silent-join place gap (object_of ns) (text t) = tt
silent-join place gap (object_of ns) (joined_array vs) = tt
silent-join place gap (object_of ns) (joined_object ms) = tt

silent-piece : (place : ℕ) (gap : Text) (a : Answer) (j : Join) → Silent (join_piece place gap a j)
unfolding join_piece
silent-piece place gap none j = silent-sized (join_answer (join_nothing gap j)) (join_nothing gap j)
silent-piece place gap (some v) j =
    silent-bind (sized (some v) v) (λ w. bind (join_value place gap w j) (λ k. sized (join_answer k) k)) (silent-sized (some v) v)
    (λ w. silent-bind (join_value place gap w j) (λ k. sized (join_answer k) k) (silent-join place gap w j) (λ k. silent-sized (join_answer k) k))

-- ---- the skeletons

-- the pieces behind the first
abbrev pub rest_of : Pieces → Pieces
rest_of no_pieces = no_pieces
rest_of (node_piece place gap n ps) = ps
rest_of (substituted gap x ps) = ps

abbrev pub Needed : Type 0
Needed = Skeleton Refusal Answer

module _ (root : Root) (env : Environment) (openness : Openness) where
  -- a piece that is written; a piece that is a substitution
  unfoldable pub needs_of : Pieces → List Needed
  needs_of no_pieces = []
  needs_of (node_piece place gap n ps) = quiet (node_value (evaluate root env) n) ∷ needs_of ps
  needs_of (substituted gap x ps) = quiet (substitution_value root env openness x) ∷ needs_of ps

  covers-several : (ps : Pieces) (j : Join) → Covers (skeleton_of (needs_of ps)) (several root env openness ps j)
  unfolding needs_of several
  covers-several no_pieces j = covers-done (done (join_answer j)) tt
  covers-several (node_piece place gap n ps) j =
      covers-piece (needs_of ps) (λ a. join_piece place gap a j) (covers-quiet (node_value (evaluate root env) n))
      (λ a. silent-piece place gap a j) (λ k. covers-several ps k)
  covers-several (substituted gap x ps) j =
      covers-piece (needs_of ps) (λ a. join_piece x.place gap a j) (covers-quiet (substitution_value root env openness x))
      (λ a. silent-piece x.place gap a j) (λ k. covers-several ps k)

  -- the needs, where there are pieces behind the second
  abbrev pub needs_past : Pieces → List Needed → List Needed
  needs_past no_pieces ss = []
  needs_past (node_piece place gap n ps) ss = ss
  needs_past (substituted gap x ps) ss = ss

  unfoldable pub needs_of_all : Pieces → List Needed
  unfolding needs_of
  needs_of_all ps = needs_past (rest_of (rest_of ps)) (needs_of ps)

  leads-past : (third ps : Pieces) → Leads (skeleton_of (needs_past third (needs_of ps))) (several root env openness ps (blank []))
  leads-past no_pieces ps = stop
  leads-past (node_piece place gap n more) ps = covers-leads (covers-several ps (blank []))
  leads-past (substituted gap x more) ps = covers-leads (covers-several ps (blank []))

  pub leads-answer : (ps : Pieces) → Leads (skeleton_of (needs_of_all ps)) (answer_of root env openness ps)
  unfolding needs_of_all answer_of
  leads-answer no_pieces = stop
  leads-answer (substituted gap x no_pieces) = stop
  leads-answer (substituted gap x (node_piece place g n ps)) = leads-past ps (substituted gap x (node_piece place g n ps))
  leads-answer (substituted gap x (substituted g y ps)) = leads-past ps (substituted gap x (substituted g y ps))
  leads-answer (node_piece place gap n ps) = leads-past (rest_of ps) (node_piece place gap n ps)

  -- ---- they need questions below N alone

  module _ (N : ℕ) (numbers : AllNode (InRange N) (root_node root)) (low : HomeLow false N (top root) openness) where
    needs-below : (ps : Pieces) → AllPieces (InRange N) ps → AllBelow N (needs_of ps)
    unfolding needs_of
    needs-below no_pieces a = tt
    needs-below (node_piece place gap n ps) a = (
      quiet-below N (node_value (evaluate root env) n)
          (ends-below (node-ends false N (top root) (evaluate root env) (evaluate-ends false N root env numbers) n a.0 (λ e. clash (cc)))),
      needs-below ps a.1,
    )
    needs-below (substituted gap x ps) a = (
      quiet-below N (substitution_value root env openness x) (ends-below (substitution-ends false N root env numbers openness x low)),
      needs-below ps a,
    )

    pub all-below : (ps : Pieces) → AllPieces (InRange N) ps → AllBelow N (needs_of_all ps)
    unfolding needs_of_all
    all-below ps a = go (rest_of (rest_of ps))
      where
        go : (third : Pieces) → AllBelow N (needs_past third (needs_of ps))
        go no_pieces = tt
        go (node_piece place gap n more) = needs-below ps a
        go (substituted gap x more) = needs-below ps a

-- ---- of a question

unfoldable pub needs_of_question : Setting → ℕ → List Needed
unfolding needs_of_all
needs_of_question x b =
    elim (get_elem? x.document.unresolved b) [
      | none ↦ []
      | some u ↦ needs_of_all x.document.root x.environment u.openness u.pieces
    ]

module _ (x : Setting) where
  pub question-leads : (b : ℕ) → Leads (skeleton_of (needs_of_question x b)) (rule_of x b)
  unfolding needs_of_question rule_of
  question-leads b = go (get_elem? x.document.unresolved b)
    where
      go : (o : Option Unresolved)
          → Leads {F = Refusal} {R = Answer} {A = Answer}
          (skeleton_of (elim o as (λ _. List Needed) [ none ↦ [] | some u ↦ needs_of_all x.document.root x.environment u.openness u.pieces ]))
          (elim o as (λ _. Work Answer) [ none ↦ Ask.refused spent | some u ↦ answer_of x.document.root x.environment u.openness u.pieces ])
      go none = stop
      go (some u) = leads-answer x.document.root x.environment u.openness u.pieces

  module _ (p : Prepared x.document) where
    listed : Each (Listed false (count_of x) (top x.document.root)) x.document.unresolved
    listed =
        subst (λ l. Each (Listed false (count_of x) (top x.document.root)) l) (sym p.listed)
        (all_listed false (count_of x) x.document.root (numbers-below x.document p))

    pub question-below : (b : ℕ) → AllBelow (count_of x) (needs_of_question x b)
    unfolding needs_of_question
    question-below b = go (get_elem? x.document.unresolved b) refl
      where
        go : (o : Option Unresolved) → get_elem? x.document.unresolved b ≡ o
            → AllBelow {F = Refusal} {R = Answer} (count_of x)
            (elim o as (λ _. List Needed) [ none ↦ [] | some u ↦ needs_of_all x.document.root x.environment u.openness u.pieces ])
        go none e = tt
        go (some u) e =
            let l : Listed false (count_of x) (top x.document.root) u =
            each_at (Listed false (count_of x) (top x.document.root)) x.document.unresolved listed b u e in
            all-below x.document.root x.environment u.openness (count_of x) (numbers-below x.document p) l.before u.pieces l.inside

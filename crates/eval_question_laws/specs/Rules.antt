-- The rules of one unresolved value in a job's memory: as a computation on its pieces, and that what they give has distinct keys.
use Rattle.std.specs.Prelude.{◌≡◌, ℕ, ◌≤◌, true, List, []}
use Rattle.std.proofs.Math.Path.{refl, ap}
use Rattle.std.proofs.Common.{sym, subst, ◌∙◌, arith}
use Rattle.std.proofs.Math.Option.{Option, none, some}
use Rattle.answers.specs.Ask.{Trail, lookup, run, value, then}
use Rattle.rules.specs.Bytes.{Text}
use Rattle.rules.specs.Environment.{Environment}
use Rattle.rules.specs.Tree.{Substitution, Node, Pieces, no_pieces, node_piece, substituted, Root, root_node, height_of, highest_piece}
use Rattle.rules.specs.Values.{Value, Answer, within_size}
use Rattle.rules.specs.NamedValues.{Distinct}
use Rattle.rules.specs.Settled.{node_in, value_in}
use Rattle.rules.specs.Unresolved.{Open, Unresolved, unresolved_in, blank, join_answer, answer_of}
use Rattle.rules.specs.Documents.{Setting, rule_of, count_of}
use Rattle.theory.specs.Numbering.{Prepared, numbers-below}
use Rattle.theory.specs.Depths.{shallow-within, flat-low}
use Rattle.theory.specs.Reach.{Each, each_at}
use Rattle.theory.specs.Rules.{HomeLow, top, Listed, all_listed}
use Rattle.theory.specs.DistinctAnswers.{DistinctHome, DistinctBefore, all-distinct, answer-distinct}
use Rattle.theory.specs.SettledAnswers.{HomeIn, open_in, LowBefore, sized_in, substitution_in, several_in, answer_in, run-rule}
use Rattle.eval_concat.specs.Steps.Distinct.{reference-distinct, node-distinct}
use Rattle.eval_question_laws.specs.Clauses.{Questioned}

-- ---- one piece that is a substitution, or several pieces

pub record OnePiece (ps : Pieces) : Type 0 where
  pub gap : Text
  pub substitution : Substitution
  pub is : ps ≡ substituted gap substitution no_pieces

module _ (known : ℕ → Option Answer) (root : Root) (depth : ℕ) (env : Environment) (o : Option HomeIn) where
  pub one-rule : {ps : Pieces} (one : OnePiece ps)
      → answer_in known root depth env o ps ≡ then (substitution_in known root depth env o one.substitution) (λ a. sized_in a a)
  unfolding answer_in
  one-rule one = ap (answer_in known root depth env o) one.is

  pub several-rule : (ps : Pieces) → (OnePiece ps → ⊥) → answer_in known root depth env o ps ≡ several_in known root depth env o ps (blank [])
  unfolding answer_in several_in join_answer
  several-rule no_pieces f = refl
  several-rule (substituted gap x no_pieces) f = absurd (f (record { gap = gap; substitution = x; is = refl }))
  several-rule (substituted gap x (node_piece place g n ps)) f = refl
  several-rule (substituted gap x (substituted g y ps)) f = refl
  several-rule (node_piece place gap n ps) f = refl

module _ {x : Setting} {key : ℕ → Text} {items : ℕ} {T B E : List ℕ} {S : Trail Answer} {base item b : ℕ} {u : Unresolved}
    (Q : Questioned x key items T B E S base item b u) where
  abbrev root : Root
  root = x.document.root

  abbrev prepared : Prepared x.document
  prepared = Q.state.document.read

  pub rule-is : run (lookup S) (rule_of x b) ≡ answer_in (lookup S) root 65 x.environment (open_in (lookup S) u.openness) u.pieces
  rule-is = run-rule x prepared Q.nested (lookup S) Q.within b u Q.listed

  -- ---- distinct keys

  home : DistinctHome u.openness
  home = each_at DistinctBefore (unresolved_in root) (all-distinct root) b u (cc (prepared.listed, Q.listed))

  pub rule-distinct : (v : Value) → run (lookup S) (rule_of x b) ≡ value (some v) → Distinct v
  unfolding rule_of
  rule-distinct v e =
      let r : rule_of x b ≡ answer_of root x.environment u.openness u.pieces = rw (rule_of, Q.listed) in
      answer-distinct (lookup S) Q.distinct root x.environment u.openness home u.pieces v (sym (ap (run (lookup S)) r) ∙ e)

  listed : Listed true (count_of x) (top root) u
  listed =
      let all = all_listed true (count_of x) root (numbers-below x.document prepared) in
      each_at (Listed true (count_of x) (top root)) x.document.unresolved
      (subst (λ l. Each (Listed true (count_of x) (top root)) l) (sym prepared.listed) all) b u Q.listed

  pub pieces-height : highest_piece u.pieces ≤ height_of (root_node root)
  pieces-height = omega (arith, listed.low refl)

  before-low : LowBefore root (open_in (lookup S) u.openness)
  before-low = go u.openness listed.before
    where
      go : (o : Option Open) → HomeLow true (count_of x) (top root) o → LowBefore root (open_in (lookup S) o)
      go none w = tt
      go (some h) w = flat-low (lookup S) Q.within (count_of x) (top root) h.before w

  pub reference-own : (y : Substitution) (v : Value)
      → substitution_in (lookup S) root 65 x.environment (open_in (lookup S) u.openness) y ≡ value (some v) → within_size v ≡ true → Distinct v
  reference-own y =
      reference-distinct (lookup S) Q.distinct (shallow-within (lookup S) Q.within) root x.environment Q.nested u.openness home before-low y

  pub node-own : (n : Node) → height_of n ≤ height_of (root_node root) → (v : Value)
      → node_in (lookup S) (value_in (lookup S) 65) n ≡ value (some v) → within_size v ≡ true → Distinct v
  node-own n =
      node-distinct (lookup S) Q.distinct (shallow-within (lookup S) Q.within) root x.environment Q.nested u.openness home before-low n

-- One piece that is a substitution: that the items tell it, and what the rules give for it.
use Rattle.std.specs.Prelude.{◌≡◌, refl, ℕ, ◌+◌, ◌*◌, ◌≤◌, Bool, true, false, List, get_or, Ok, Err}
use Rattle.std.proofs.Math.Path.{ap}
use Rattle.std.proofs.Common.{subst, ◌∙◌, arith}
use Rattle.std.proofs.Math.Option.{none, some}
use Rattle.answers.specs.Ask.{Trail, lookup, run, value, missing, refused, then}
use Rattle.rules.specs.Bytes.{Text}
use Rattle.rules.specs.Refusals.{placed}
use Rattle.rules.specs.Tree.{Substitution, Pieces, no_pieces, node_piece, substituted}
use Rattle.rules.specs.Values.{Answer}
use Rattle.rules.specs.Settled.{Given}
use Rattle.rules.specs.Unresolved.{Unresolved}
use Rattle.rules.specs.Documents.{Setting, rule_of}
use Rattle.theory.specs.SettledAnswers.{open_in, sized_in, substitution_in}
use Rattle.text_chars.specs.Cursor.{doc, refusal}
use Rattle.doc_items.specs.Codes.{reference_code}
use Rattle.sheet_kept.specs.Kept.{named}
use Rattle.eval_writer.specs.Clauses.{Room}
use Rattle.eval_writer.specs.Composition.{start}
use Rattle.eval_results.specs.declared.extents.Extent.{Extent}
use Rattle.eval_memory.specs.Keys.{KeyNumber}
use Rattle.eval_results.specs.Values.Comes.{ValueThere}
use Rattle.eval_results.specs.declared.values.Worked.{Worked}
use Rattle.eval_results.specs.Sizes.Contracts.{sized_c}
use Rattle.eval_results.specs.Sizes.Answers.{AnsweredIs, sized-is}
use Rattle.eval_results.specs.Sizes.Outcomes.{OutcomeOfIs}
use Rattle.eval_results.specs.declared.sizes.Outcome.{Outcome}
use Rattle.eval_concat.specs.Steps.Contracts.{Good, RefusedWith}
use Rattle.eval_pieces.specs.Clauses.{PieceIs}
use Rattle.eval_pieces.specs.Literals.{literal-kind}
use Rattle.eval_pieces.specs.declared.Piece.{Piece}
use Rattle.eval_pieces.specs.Cursor.Contracts.{Sole}
use Rattle.eval_unresolved.specs.Single.Contracts.{PieceValue, PieceValueIs, ValueCase}
use Rattle.eval_question_laws.specs.Clauses.{Questioned}
use Rattle.eval_unresolved.specs.Clauses.{OutcomeCase}
use Rattle.eval_unresolved.specs.Outcomes.{outcome-is}
use Rattle.eval_question_laws.specs.Rules.{OnePiece, one-rule, rule-is, rule-distinct}
use Rattle.eval_question_laws.specs.Standing.{PiecesLeft, pieces-begin, pieces_end, node-given, node-inside, reference-rest, reference-inside, reference-given}

module _ {x : Setting} {key : ℕ → Text} {items : ℕ} {T B E : List ℕ} {S : Trail Answer} {base item b : ℕ} {u : Unresolved}
    (Q : Questioned x key items T B E S base item b u) where
  abbrev end : ℕ
  end = item + get_or T (8 * item + 1) 0

  -- ---- the items tell it

  pub sole-yes : Sole T item → OnePiece u.pieces
  sole-yes s = go u.pieces (pieces-begin Q)
    where
      alone : (gap : Text) (y : Substitution) (ps : Pieces) → PiecesLeft Q (item + 1) end (substituted gap y ps)
          → PiecesLeft Q (item + 1 + get_or T (8 * (item + 1) + 1) 0) end ps → OnePiece (substituted gap y ps)
      alone gap y no_pieces L R = record { gap = gap; substitution = y; is = refl }
      alone gap y (node_piece place g n ps) L R = absurd (omega (arith, s.one, (node-inside Q R).0, (node-inside Q R).1))
      alone gap y (substituted g z ps) L R = absurd (omega (arith, s.one, (reference-inside Q R).0, (reference-inside Q R).1))

      go : (ps : Pieces) → PiecesLeft Q (item + 1) end ps → OnePiece ps
      go no_pieces L = absurd (omega (arith, s.some, pieces_end Q L))
      go (node_piece place gap n ps) L = absurd (omega (arith, s.kind, literal-kind n (node-given Q L)))
      go (substituted gap y ps) L = alone gap y ps L (reference-rest Q L)

  code-high : (t : Bool) → 9 ≤ reference_code t
  code-high true = omega arith
  code-high false = omega arith

  pub sole-no : (Sole T item → ⊥) → OnePiece u.pieces → ⊥
  sole-no f one =
      let L : PiecesLeft Q (item + 1) end (substituted one.gap one.substitution no_pieces) = subst (λ (ps : Pieces). PiecesLeft Q (item + 1) end ps) one.is (pieces-begin Q) in
      let i = reference-inside Q L in
      let e = pieces_end Q (reference-rest Q L) in
      f (record {
        some = omega (arith, i.0, i.1, L.upto, Q.state.document.few);
        kind = omega (arith, (reference-given Q L).reference.kind, code-high one.substitution.optional);
        one = omega (arith, e, L.upto, Q.state.document.few);
      })

  -- ---- what the rules give

  abbrev alone : Substitution → Given Answer
  alone y = substitution_in (lookup S) x.document.root 65 x.environment (open_in (lookup S) u.openness) y

  rule-one : (one : OnePiece u.pieces) → run (lookup S) (rule_of x b) ≡ then (alone one.substitution) (λ a. sized_in a a)
  rule-one one = rule-is Q ∙ one-rule (lookup S) x.document.root 65 x.environment (open_in (lookup S) u.openness) one

  module _ (one : OnePiece u.pieces) {w w₁ w₂ : List ℕ} {piece : Piece} {v : PieceValue} {room after : List ℕ}
      (h : PieceIs T B E base item (item + 1) w w₁ piece) (k : PieceValueIs T B E base piece w₁ w₂ v room after) where
    worked : ValueCase key items T (alone one.substitution) room after v
    worked =
        let L : PiecesLeft Q (item + 1) end (substituted one.gap one.substitution no_pieces) = subst (λ (ps : Pieces). PiecesLeft Q (item + 1) end ps) one.is (pieces-begin Q) in
        k.is key items (lookup S) (alone one.substitution) (h.reference x key items (lookup S) u one.substitution (reference-given Q L))

    pub sole-done : {s : Worked} {e : Extent} {r : Outcome} → Room room → v ≡ Ok s → s ≡ Worked.Done e → OutcomeOfIs (sized_c e) r
        → OutcomeCase key items T after (run (lookup S) (rule_of x b)) r
    sole-done {s} {e} {r} whole z q o =
        let y : ValueThere key (KeyNumber T (items + 1)) (alone one.substitution) start e room after = rw (z, q) at worked in
        let f : AnsweredIs key (Good T items) after (sized_in (some (named key y.held)) (some (named key y.held))) (sized_c e) =
        sized-is (record { held = y.held; good = y.keys; is = refl; before = room; whole = whole; came = y.came }) in
        let p : run (lookup S) (rule_of x b) ≡ sized_in (some (named key y.held)) (some (named key y.held)) =
        rule-one one ∙ ap (λ (g : Given Answer). then g (λ a. sized_in a a)) y.is in
        outcome-is items (sized_c e) (rw p f) (rule-distinct Q) o

    pub sole-undefined : {s : Worked} → v ≡ Ok s → s ≡ Worked.Undefined → run (lookup S) (rule_of x b) ≡ value none
    unfolding sized_in
    sole-undefined z q =
        let y : alone one.substitution ≡ value none = rw (z, q) at worked in
        rule-one one ∙ ap (λ (g : Given Answer). then g (λ a. sized_in a a)) y

    pub sole-needs : {s : Worked} {d : ℕ} → v ≡ Ok s → s ≡ Worked.Needs d → run (lookup S) (rule_of x b) ≡ missing d
    sole-needs {s} {d} z q =
        let y : alone one.substitution ≡ missing d = rw (z, q) at worked in
        rule-one one ∙ ap (λ (g : Given Answer). then g (λ a. sized_in a a)) y

    pub sole-missing : {number p : ℕ} → v ≡ Err (refusal number (doc p)) → RefusedWith (run (lookup S) (rule_of x b)) number p
    sole-missing {number} {p} z =
        let (y, n) : (alone one.substitution ≡ refused (placed 9 p)) × (number ≡ 9) = rw z at worked in
        record {
          refusal = placed 9 p;
          is = rule-one one ∙ ap (λ (g : Given Answer). then g (λ a. sized_in a a)) y;
          its-number = n;
          its-place = refl;
        }

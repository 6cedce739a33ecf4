-- Steps where the piece needed nothing: the rules' join by what was joined in the room, and how far its counters go.
use Rattle.std.specs.Prelude.{◌≡◌, refl, Bool, List, leb, Ok, Err}
use Rattle.std.proofs.Common.{sym, ◌∙◌, arith}
use Prim.Native.Nat.{ℕ, ◌+◌, ◌≤◌, max}
use Rattle.std.proofs.Math.Bool.{true, false, cond}
use Rattle.std.proofs.Math.Option.{none, some}
use Rattle.std.proofs.Math.ListN.{length}
use Rattle.answers.specs.Ask.{Trail, value, missing, refused, then}
use Rattle.answers.specs.Theory.Sound.{clash}
use Rattle.rules.specs.Bytes.{Text}
use Rattle.rules.specs.Pieces.{scalar_text}
use Rattle.rules.specs.Refusals.{placed}
use Rattle.rules.specs.Sizes.{max_text}
use Rattle.rules.specs.Tree.{Scalar}
use Rattle.rules.specs.Values.{Value, Answer, scalar}
use Rattle.rules.specs.Settled.{Given}
use Rattle.rules.specs.Unresolved as rules
use Rattle.rules.specs.Documents.{Setting}
use Rattle.theory.specs.SettledAnswers.{join_piece_in}
use Rattle.text_chars.specs.Cursor.{doc, refusal}
use Rattle.doc_items.specs.Room.{number_bound}
use Rattle.eval_writer.specs.Model.{key_len}
use Rattle.eval_writer.specs.Clauses.{Room}
use Rattle.eval_writer.specs.declared.Out.{Out}
use Rattle.eval_results.specs.Extents.Contracts.{far}
use Rattle.eval_results.specs.declared.extents.Extent.{Extent}
use Rattle.eval_results.specs.Sizes.Contracts.{within_c}
use Rattle.eval_concat.specs.Model.{Joined, too_large_c, join, text_of, blank_join, text_join, mixed_at, tested_c, takes_text, nothing_by, nothing_c, text_c, piece_c, members_by, members_c}
use Rattle.eval_concat.specs.Clauses.{GapAsked, TextJoinedIs, NothingIs, MembersJoinedIs}
use Rattle.eval_concat.specs.Growth.{CountBelow, Below, text-below, nothing-below, members-below}
use Rattle.eval_concat.specs.Standing.{JoinedIs}
use Rattle.eval_concat.specs.Pieces.{text-is, nothing_is}
use Rattle.eval_concat.specs.declared.Kind.{Kind}
use Rattle.eval_concat.specs.declared.Join.{Join}
use Rattle.eval_state.specs.State.{State}
use Rattle.eval_concat.specs.Steps.Contracts.{step_of, TestedKind, Steady, JoinAsked, Good, StepGiven, StepCase}
use Rattle.eval_concat.specs.Steps.Steps.{step-distinct, joined_step}
use Rattle.eval_concat.specs.declared.steps.JoinStep.{JoinStep}

-- what joining a text asks
pub gap-asked : {B w b : List ℕ} {base i : ℕ} {j : Join} → JoinAsked B w b base i j → GapAsked b (text_of j) i
gap-asked A = record { whole = A.whole; near = A.steady.below.text; item = omega (arith, A.item) }

-- ---- what the rules give

module _ {x : Setting} {key : ℕ → Text} {items : ℕ} {T B : List ℕ} {S : Trail Answer} {base i place : ℕ} {gap : Text} {j : Join} {b : List ℕ} {J : rules.Join}
    {g : Given Answer} (G : StepGiven x key items T B S base i place gap j b J g) (a : List ℕ) where
  stepped : (q : Joined) → JoinedIs key (Good T items) a (then g (λ v. join_piece_in place gap v J)) q
      → State x key items T B S × StepCase key (Good T items) a (then g (λ v. join_piece_in place gap v J)) (step_of q)
  stepped q h = (G.state, joined_step (record { is = refl }) h (step-distinct place gap J g G.own G.distinct))

  pub defined-step : (v : Value) (q : Joined) → g ≡ value (some v) → JoinedIs key (Good T items) a (join_piece_in place gap (some v) J) q
      → State x key items T B S × StepCase key (Good T items) a (then g (λ v. join_piece_in place gap v J)) (step_of q)
  defined-step v q e h = stepped q (rw e h)

  pub undefined-step : Room b → (q : Joined) → g ≡ value none → NothingIs T B i j b a q
      → State x key items T B S × StepCase key (Good T items) a (then g (λ v. join_piece_in place gap v J)) (step_of q)
  undefined-step whole q e w =
      let h : JoinedIs key (Good T items) a (join_piece_in place gap none J) q = rw w.is (nothing_is G.at whole J G.join w.put w.same) in
      stepped q (rw e h)

  pub missing-step : (n : ℕ) → g ≡ missing n
      → State x key items T B S × StepCase key (Good T items) a (then g (λ v. join_piece_in place gap v J)) (Ok (JoinStep.Needs n))
  missing-step n e = (G.state, rw e refl)

  pub refused-step : (number at : ℕ) → g ≡ refused (placed number at)
      → State x key items T B S × StepCase key (Good T items) a (then g (λ v. join_piece_in place gap v J)) (Err (refusal number (doc at)))
  refused-step number at e = (G.state, rw e (record { refusal = placed number at; is = refl; its-number = refl; its-place = refl }))

  pub scalar-step : Room b → (y : Scalar) (q : Joined) → g ≡ value (some (scalar y)) → TextJoinedIs T B i (scalar_text y) j b a q
      → State x key items T B S × StepCase key (Good T items) a (then g (λ v. join_piece_in place gap v J)) (step_of q)
  scalar-step whole y q e w = defined-step (scalar y) q e (rw w.is (text-is G.at whole y J G.join w.put))

-- ---- how far counters go

so-joined : (q : Joined) (k : Join) → step_of q ≡ Ok (JoinStep.So k) → q ≡ Ok k
so-joined (Ok j) k e = cc (e)
so-joined (Err x) k e = clash (cc (e))

within-kind : (q : Kind) (e : Extent) → within_c e ≡ true → TestedKind q e
within-kind Kind.Blank e w = tt
within-kind Kind.Simple e w = tt
within-kind (Kind.Array n) e w = w
within-kind Kind.Object e w = w

pub tested-kind : (j k : Join) → tested_c j ≡ Ok k → TestedKind k.kind k.extent
unfolding tested_c
tested-kind j k e = go (within_c j.extent) refl e
  where
    go : (t : Bool) → within_c j.extent ≡ t → cond t (Ok j) (Err too_large_c) ≡ Ok k → TestedKind k.kind k.extent
    go true w q = let z : j ≡ k = cc in rw (sym z) (within-kind j.kind j.extent w)
    go false w q = clash (cc)

-- a count may be compared with more
more-count : (q : Kind) (c d : ℕ) → c ≤ d → CountBelow c q → CountBelow d q
more-count Kind.Blank c d l h = tt
more-count Kind.Simple c d l h = tt
more-count (Kind.Array n) c d l h = omega arith
more-count Kind.Object c d l h = tt

module _ {T X : List ℕ} {i : ℕ} {j : Join} {b a : List ℕ} {q : Joined} where
  pub text-grows : {s : Text} → TextJoinedIs T X i s j b a q → (k : Join) → step_of q ≡ Ok (JoinStep.So k) → (t c : ℕ) → Steady (t + number_bound) (c + far) k
  unfolding text_c
  text-grows {s} w k e t c =
      let f = so-joined q k e in
      record { below = text-below (omega arith) w f; tested = go (leb (length s) max_text) (takes_text j.kind) (sym w.is ∙ f) }
    where
      go : (u v : Bool) → cond u (cond v (tested_c (text_join (text_of j + key_len T i + length s))) (Err (mixed_at T i))) (Err too_large_c) ≡ Ok k
          → TestedKind k.kind k.extent
      go true true e = tested-kind (text_join (text_of j + key_len T i + length s)) k e
      go true false e = clash (cc)
      go false v e = clash (cc)

  pub nothing-grows : TestedKind j.kind j.extent → NothingIs T X i j b a q → (k : Join) → step_of q ≡ Ok (JoinStep.So k) → (t c : ℕ) → Below t c j
      → Steady (t + number_bound) (c + far) k
  unfolding nothing_c
  nothing-grows h w k e t c l =
      let f = so-joined q k e in
      let m = nothing-below {u = t + number_bound} (omega arith) (omega arith) l w f in
      record {
        below = record { text = m.text; count = more-count k.kind c (c + far) (omega arith) m.count };
        tested = go j.kind h (sym w.is ∙ f);
      }
    where
      go : (p : Kind) → TestedKind p j.extent → nothing_by p j (text_of j + key_len T i) ≡ Ok k → TestedKind k.kind k.extent
      go Kind.Blank h e = let z : blank_join (text_of j + key_len T i) ≡ k = cc in rw (sym z) tt
      go Kind.Simple h e = tested-kind (text_join (text_of j + key_len T i)) k e
      go (Kind.Array n) g e = let z : j ≡ k = cc in rw (sym z) h
      go Kind.Object g e = let z : j ≡ k = cc in rw (sym z) h

module _ {T : List ℕ} {i : ℕ} {j : Join} {q : Joined} {n : ℕ} {from : Out} {r : Extent} where
  pub members-grows : n ≤ far → MembersJoinedIs T i j from n r q → (k : Join) → step_of q ≡ Ok (JoinStep.So k) → (t c : ℕ) → Below t c j
      → Steady (t + number_bound) (c + far) k
  unfolding members_c
  members-grows l w k e t c h =
      let f = so-joined q k e in
      record { below = members-below (omega arith) h (omega arith) w f; tested = go (within_c (piece_c from r)) j.kind (sym w.is ∙ f) }
    where
      go : (s : Bool) (p : Kind) → cond s (members_by p T i j n r) (Err too_large_c) ≡ Ok k → TestedKind k.kind k.extent
      go true Kind.Blank e = tested-kind (join (Kind.Array n) (record { out = r.out; deep = r.deep + 1 })) k e
      go true Kind.Simple e = clash (cc)
      go true (Kind.Array m) e =
          tested-kind (join (Kind.Array (m + n)) (record { out = r.out; deep = max j.extent.deep (r.deep + 1) })) k e
      go true Kind.Object e = clash (cc)
      go false p e = clash (cc)

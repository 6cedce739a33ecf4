-- A law for each place where a function returns.
use mathlib.Core.Path.{◌≡◌, refl, sym, ap, ◌∙◌}
use Prim.Native.Nat.{ℕ, ◌+◌, ◌*◌, ◌-◌, ◌%◌, ◌≤◌, ◌<◌}
use mathlib.Core.Bool.{Bool, true, false}
use mathlib.Core.List.{List}
use Rattle.std.specs.Prelude.{Ok, Err}
use mathlib.Core.Logic.{inl, inr}
use native.Mathlib.Omega.{arith}
use lib.Dec.{eqb}
use lib.ListN.{length, get_or}
use Rattle.answers.specs.Ask.{Trail, lookup, then}
use Rattle.answers.specs.Theory.Sound.{clash}
use Rattle.rules.specs.Bytes.{Text}
use Rattle.rules.specs.Sizes.{max_room}
use Rattle.rules.specs.Tree.{simple, array, object, unresolved}
use Rattle.rules.specs.Values.{Answer, scalar, array_of, object_of}
use Rattle.rules.specs.Layers.{Layer, written, settled}
use Rattle.rules.specs.Settled.{Given, layer_in, node_in, value_in}
use Rattle.rules.specs.Unresolved as rules
use Rattle.rules.specs.Documents.{Setting}
use Rattle.theory.specs.SettledAnswers.{join_piece_in}
use Rattle.text_chars.specs.declared.Refusal.{Refusal}
use Rattle.doc_items.specs.Codes.{as_piece}
use Rattle.doc_items.specs.Room.{capacity, sheet_at, trail_at, text_room}
use Rattle.doc_items.specs.Writing.{ReadIs}
use Rattle.eval_writer.specs.Model.{word_at}
use Rattle.eval_writer.specs.declared.Out.{Out}
use Rattle.eval_results.specs.Extents.Contracts.{NotPast}
use Rattle.eval_results.specs.declared.extents.Extent.{Extent}
use Rattle.eval_stack.specs.Model.{entries}
use Rattle.eval_results.specs.Values.Contracts.{MadeWithin}
use Rattle.eval_results.specs.declared.values.Made.{Made}
use Rattle.eval_groups.specs.Select.Levels.{below-lower}
use Rattle.eval_memory.specs.Tables.{Number, item-low}
use Rattle.eval_concat_arrays.specs.Elements.Contracts.{ArrayAsked, ArrayIs}
use Rattle.eval_concat.specs.Clauses.{MembersAsked, MembersJoinedIs}
use Rattle.eval_concat.specs.Growth.{below-kind}
use Rattle.eval_concat.specs.Model.{Joined, too_large_c, start_of, start_by}
use Rattle.eval_concat.specs.declared.Kind.{Kind}
use Rattle.eval_concat.specs.declared.Join.{Join}
use Rattle.eval_concat.specs.Scalar.Contracts.{ItemJoinedIs, RecordJoinedIs, record_text}
use Rattle.eval_concat.specs.Scalar.Texts.{item-text}
use Rattle.eval_results.specs.Sizes.Answers.{within-records, within-texts}
use Rattle.eval_state.specs.Memories.{answers_of}
use Rattle.eval_state.specs.State.{State}
use Rattle.eval_value_laws.specs.Clauses.{LayerGiven}
use Rattle.eval_value_laws.specs.Counting.{NoObject}
use Rattle.eval_pieces.specs.Clauses.{OneOf, levels}
use Rattle.eval_concat.specs.Steps.Contracts.{Stepped, step_of, StepOfIs, TestedKind, JoinAsked, Good, StepGiven, StepCase}
use Rattle.eval_concat.specs.declared.steps.JoinStep.{JoinStep}
use Rattle.eval_concat_arrays.specs.Clauses.{RecordAtIs, ArrayTold, JoinableIs, ElementsAsked, ElementsJoinedIs, SimpleIs}
use Rattle.eval_concat_arrays.specs.Clauses.{ArrayJoinedIs, OneJoinedIs}
use Rattle.eval_concat_arrays.specs.Steps.{gap-asked, scalar-step, text-grows}
use Rattle.eval_concat_arrays.specs.Arrays.{elements-step, elements-grow}
use Rattle.eval_concat_arrays.specs.Layers.{settled-text, array_told}

-- ---- decisions

pub record-past : {c : ℕ} → capacity ≤ c → max_room < c - capacity → RecordAtIs c 0
record-past l m = record { high = omega arith; is = λ at e k. absurd (omega arith) }

pub record-inside : {c : ℕ} → capacity ≤ c → c - capacity ≤ max_room → RecordAtIs c (c - capacity)
record-inside l m = record { high = m; is = λ at e k. omega arith }

pub ruleset records = (record-past, record-inside)

module _ {T B : List ℕ} {c : ℕ} where
  pub told-item : {n : ℕ} → c < capacity → ReadIs T (8 * c) n → ArrayTold T B c (eqb (n % as_piece) 6)
  told-item {n} l e = record { item = λ k. ap (λ (m : ℕ). eqb (m % as_piece) 6) e.is; record_of = λ at z k. absurd (omega arith) }

  pub told-record : {at k : ℕ} → capacity ≤ c → RecordAtIs c at → k ≡ get_or B (trail_at + at) 0 → ArrayTold T B c (eqb k 6)
  told-record {at} {k} l r e = record {
    item = λ m. absurd (omega arith);
    record_of = λ o z m. ap (λ (n : ℕ). eqb n 6) (e ∙ ap (λ (n : ℕ). get_or B (trail_at + n) 0) (r.is o z m));
  }

pub ruleset telling = (told-item, told-record)

-- ---- elements

module _ {T : List ℕ} {i : ℕ} {j : Join} {from : Out} {made : Made} where
  pub elements-need : {b : ℕ} → made ≡ Made.Needs b → ElementsJoinedIs T i j from made (Ok (JoinStep.Needs b))
  elements-need e = record { is = rw e refl }

  module _ {n : ℕ} {x : Extent} {f : Bool} (e : made ≡ Made.Done n x) (o : JoinableIs from n x f) where
    module _ {q : Joined} (z : f ≡ true) (m : MembersJoinedIs T i j from n x q) where
      pub elements-so : {k : Join} → q ≡ Ok k → ElementsJoinedIs T i j from made (Ok (JoinStep.So k))
      elements-so h = record { is = rw e (q, sym (ap step_of h), inl (m, (o.yes z).few)) }

      pub elements-refused : {p : Refusal} → q ≡ Err p → ElementsJoinedIs T i j from made (Err p)
      elements-refused h = record { is = rw e (q, sym (ap step_of h), inl (m, (o.yes z).few)) }

    pub elements-many : {q : Refusal} → f ≡ false → q ≡ too_large_c → ElementsJoinedIs T i j from made (Err q)
    elements-many {q} z h = record { is = rw e (Err q, refl, inr (ap Err h, o.no z)) }

pub ruleset elements = (elements-need, elements-so, elements-refused, elements-many)

pub members-asked : {i : ℕ} {j : Join} {from : Out} {made : Made} {n : ℕ} {x : Extent} {f : Bool} → made ≡ Made.Done n x → JoinableIs from n x f → f ≡ true
    → ElementsAsked made i j → MembersAsked j from n x i
members-asked {n = n} {x} e o z A =
    let w : MadeWithin (Made.Done n x) = rw e at A.within in
    let y = o.yes z in
    record {
      size = record { rec = y.rec; text = y.text; near = omega (arith, w.out.rec); deep = omega (arith, w.deep) };
      kind = below-kind (omega arith) A.steady.below;
      few = omega (arith, y.few);
      item = omega (arith, A.item);
    }

pub ruleset members = (members-asked)

-- ---- an array

start-within : (k : Kind) (e : Extent) → TestedKind k e → NotPast (start_by k e.out)
start-within Kind.Blank e t = record { rec = omega arith; text = omega arith }
start-within Kind.Simple e t = record { rec = omega arith; text = omega arith }
start-within (Kind.Array n) e t = record { rec = omega (arith, within-records e t); text = omega (arith, within-texts e t) }
start-within Kind.Object e t = record { rec = omega arith; text = omega arith }

module _ {B w b : List ℕ} {base i : ℕ} {j : Join} (A : JoinAsked B w b base i j) where
  pub array-asked : {top : ℕ} {from : Out} → top ≤ entries → from ≡ start_of j → ArrayAsked B w top from b
  array-asked l e = record {
    whole = A.whole;
    bytes = A.bytes;
    most = A.most;
    work = A.work;
    used = l;
    start = rw e (start-within j.kind j.extent A.steady.tested);
  }

  pub elements-asked : {T : List ℕ} {top c : ℕ} {from : Out} {w' a : List ℕ} {made : Made} → ArrayIs T B top c from w w' made b a → ElementsAsked made i j
  elements-asked f = record { within = f.within; steady = A.steady; item = A.item }

  module _ {T : List ℕ} {top c : ℕ} {from : Out} {w' a : List ℕ} {made : Made} {r : Stepped} (l : base ≤ top) (s : from ≡ start_of j)
      (f : ArrayIs T B top c from w w' made b a) (k : length a ≡ length b) (E : ElementsJoinedIs T i j from made r) where
    pub array-joined : ArrayJoinedIs T base i top c j w w' B b a r
    array-joined = record {
      step = record {
        left = record { below = below-lower w w' l f.left.below; len = f.left.len };
        bytes = refl;
        beside = λ n d h. refl;
        whole = k ∙ A.whole;
        grows = elements-grow E;
        is = λ x key items S place gap J g G C. elements-step G A.whole (rw s at f) (rw s at E) C;
      };
    }

pub ruleset arrays = (array-joined)

pub ruleset lending = (array-asked, elements-asked, gap-asked)

-- ---- simple values

module _ {T B : List ℕ} {i c : ℕ} {j : Join} {b a : List ℕ} {r : Joined} where
  pub item-joined : c < capacity → ItemJoinedIs T B i c j b a r → SimpleIs T B i c j b a r
  item-joined l w = record {
    text = word_at B (get_or T (8 * c + 4) 0) (get_or T (8 * c + 5) 0);
    joined = w.is;
    literal = λ key items x S h. item-text T B 0 text_room (Number (answers_of key items T B)) h.role c x S.document h.node;
    finished = λ key items x h. let e = h.1 in absurd (omega arith);
  }

  pub record-joined : {at : ℕ} → capacity ≤ c → RecordAtIs c at → RecordJoinedIs T B i sheet_at (trail_at + at) j b a r → SimpleIs T B i c j b a r
  record-joined {at} l h w = record {
    text = record_text B sheet_at (trail_at + at);
    joined = w.is;
    literal = λ key items x S s. absurd (omega (arith, item-low (answers_of key items T B) S s));
    finished = λ key items x q.
        let (o, e, s) = q in
        ap (λ (n : ℕ). record_text B sheet_at (trail_at + n)) (h.is o e (omega (arith, s.inside))) ∙ settled-text items x s;
  }

pub ruleset simples = (item-joined, record-joined)

-- ---- either

module _ {T B : List ℕ} {c : ℕ} {f : Bool} (t : ArrayTold T B c f) {base i top : ℕ} {j : Join} {w b a : List ℕ} {r : Stepped} where
  pub one-array : {w' : List ℕ} → f ≡ true → ArrayJoinedIs T base i top c j w w' B b a r → OneJoinedIs T base i top c j w w' B b a r
  one-array z u =
      let s = u.step in
      record {
        step = record {
          left = s.left;
          bytes = s.bytes;
          beside = s.beside;
          whole = s.whole;
          grows = s.grows;
          is = λ x key items S place gap J g G C.
              s.is x key items S place gap J g G (record {
                depth = C.depth;
                layer = C.layer;
                is = C.is;
                elements = sym (array_told t items C.layer C.plain C.given) ∙ z;
                given = C.given;
              });
        };
      }

  one-simple : {q : Joined} → JoinAsked B w b base i j → f ≡ false → SimpleIs T B i c j b a q → StepOfIs q r → length a ≡ length b
      → OneJoinedIs T base i top c j w w B b a r
  unfolding layer_in node_in
  one-simple {q} A z m s k = record {
    step = record {
      left = record { below = λ n x y. refl; len = refl };
      bytes = refl;
      beside = λ n d h. refl;
      whole = k ∙ A.whole;
      grows = λ n e u v l. text-grows m.joined n (sym s.is ∙ e) u v;
      is = λ x key items S place gap J g G C. go x key items S place gap J g G C C.layer C.plain C.given C.is;
    };
  }
    where
      go : (x : Setting) (key : ℕ → Text) (items : ℕ) (S : Trail Answer) (place : ℕ) (gap : Text) (J : rules.Join) (g : Given Answer)
          → StepGiven x key items T B S base i place gap j b J g → (C : OneOf (answers_of key items T B) (lookup S) top c g) (l : Layer) → NoObject l
          → LayerGiven (answers_of key items T B) (lookup S) top levels C.depth c l → g ≡ layer_in (lookup S) (value_in (lookup S) C.depth) l
          → State x key items T B S × StepCase key (Good T items) a (then g (λ v. join_piece_in place gap v J)) r
      go x key items S place gap J g G C (written (simple y)) p h e =
          rw s.is (scalar-step G a A.whole y q e (rw (m.literal key items y h.basis.tables.stored h.shown) at m.joined))
      go x key items S place gap J g G C (written (array es)) p h e = clash (cc (z, array_told t items (written (array es)) p h))
      go x key items S place gap J g G C (written (object fs)) p h e = absurd p
      go x key items S place gap J g G C (written (unresolved n ps)) p h e = absurd p
      go x key items S place gap J g G C (settled (scalar y)) p h e =
          rw s.is (scalar-step G a A.whole y q e (rw (m.finished key items y h.shown) at m.joined))
      go x key items S place gap J g G C (settled (array_of vs)) p h e = clash (cc (z, array_told t items (settled (array_of vs)) p h))
      go x key items S place gap J g G C (settled (object_of ms)) p h e = absurd p

module _ {T B : List ℕ} {c : ℕ} {f : Bool} (t : ArrayTold T B c f) {base i top : ℕ} {j : Join} {w b a : List ℕ} (A : JoinAsked B w b base i j)
    (z : f ≡ false) {q : Joined} (m : SimpleIs T B i c j b a q) (l : length a ≡ length b) where
  pub one-so : {k : Join} → q ≡ Ok k → OneJoinedIs T base i top c j w w B b a (Ok (JoinStep.So k))
  one-so e = one-simple t A z m (record { is = sym (ap step_of e) }) l

  pub one-refused : {e : Refusal} → q ≡ Err e → OneJoinedIs T base i top c j w w B b a (Err e)
  one-refused e = one-simple t A z m (record { is = sym (ap step_of e) }) l

pub ruleset ones = (one-array, one-so, one-refused)

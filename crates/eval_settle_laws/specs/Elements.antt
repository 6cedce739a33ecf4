-- One element of an array: a law for each place where its need is returned, and for what is lent on.
use Rattle.std.specs.Prelude.{◌≡◌, Bool, true, false, List, ℕ, ◌+◌, ◌-◌, ◌*◌, ◌≤◌, ◌<◌, leb, get_or, take, drop}
use Rattle.std.proofs.Math.Path.{refl, ap}
use Rattle.std.proofs.Common.{sym, subst, ◌∙◌, arith, ne_eqb, lt-ltb, leb-false}
use Rattle.std.proofs.Math.Option.{Option, none, some}
use Rattle.answers.specs.Ask.{Trail, lookup}
use Rattle.answers.specs.Resolve.{answer, after}
use Rattle.rules.specs.Sizes.{max_room}
use Rattle.rules.specs.Refusals.{Refusal}
use Rattle.rules.specs.Tree.{Node, simple, array, object, unresolved, Elements, no-elements, element, Pieces, AllNode, AllElements}
use Rattle.rules.specs.Values.{Answer}
use Rattle.rules.specs.Layers.{Layer, written, settled}
use Rattle.rules.specs.Weights.{weight_of, weight_of_elements}
use Rattle.theory.specs.Reach.{InRange}
use Rattle.theory_order.specs.Walks.{Ended}
use Rattle.theory_order.specs.Fitting.{Plain}
use Rattle.theory_order.specs.Code.{elements_by}
use Rattle.theory_order.specs.Clauses.{Task, questions_of, NumberedLayer, work_c, settle_node_c, settle_element_c, settle_elements_c}
use Rattle.theory_order.specs.SettleLaws as order
use Rattle.doc_items.specs.Room.{capacity, answers_at, trail_at}
use Rattle.eval_nodes.specs.Answer.Model as model
use Rattle.eval_nodes.specs.declared.answer.Answered.{Answered}
use Rattle.eval_nodes.specs.Model.{answered_at, item_member, member_at}
use Rattle.eval_nodes.specs.Clauses.{AnsweredIs, MemberIs}
use Rattle.eval_nodes.specs.Members.{skip-less, one_less}
use Rattle.eval_nodes.specs.declared.Member.{Member}
use Rattle.eval_writer.specs.declared.Source.{Source}
use Rattle.eval_writer.specs.Copies.Sources.{SourceIn}
use Rattle.eval_memory.specs.Finished.{Memory}
use Rattle.eval_memory.specs.Tables.{WrittenAt, AnswerAt, Shows, layer-shown, unresolved-shown}
use Rattle.eval_state.specs.Documents.{SameDocument}
use Rattle.eval_frames.specs.Shows.{used_of, written-later, used-tables}
use Rattle.eval_value_laws.specs.Elements.{ElementsShown, ElementStep, element-met}
use Rattle.eval_value_laws.specs.Frames.{left-all}
use Rattle.eval_settle_laws.specs.declared.Need.{Need}
use Rattle.eval_settle_laws.specs.Ground.{settling_room, Lasting, LayerFits, Ground, Sound, memory_of}
use Rattle.eval_settle_laws.specs.Needs.{elements, ElementsFrom, LayerAsked, LayerIs, ElementAsked, ElementIs}

-- what is met at a place of the document hangs on no answer
member-same : {T T' B B' : List ℕ} (R R' : List ℕ) → SameDocument T T' B B' → (i e : ℕ) → e ≤ capacity → member_at T' R' i e ≡ member_at T R i e
unfolding member_at item_member
member-same {T} {T'} R R' d i e h = go (leb e i) refl
  where
    go : (t : Bool) → leb e i ≡ t → member_at T' R' i e ≡ member_at T R i e
    go true q = rw (member_at, q) refl
    go false q =
        let l : i < e = leb-false e i q in
        let k : get_or T' (8 * i) 0 ≡ get_or T (8 * i) 0 = d.numbers (8 * i) (omega arith) (λ u v. omega arith) in
        let z : get_or T' (8 * i + 1) 0 ≡ get_or T (8 * i + 1) 0 = d.numbers (8 * i + 1) (omega arith) (λ u v. omega arith) in
        rw (member_at, q, lt-ltb i capacity (omega arith), item_member, k, z) refl

-- ---- one element, by what is found for it

module _ {T B : List ℕ} (G : Ground T B) (top : ℕ) where
  abbrev known : ℕ → Option Answer
  known = lookup G.S

  abbrev settles : ℕ → Node → Ended Refusal Answer
  settles levels m = settle_element_c G.t levels m G.S G.n

  -- the layer that an element is
  record LayerHere (m : Node) (c : ℕ) : Type 0 where
    pub l : Layer
    pub is : (levels : ℕ) → settles levels m ≡ settle_node_c G.t levels l G.S G.n
    pub shown : Shows (memory_of G) c l
    pub numbered : NumberedLayer (questions_of G.t) l
    pub fits : Lasting G.t G.S (LayerFits top l)

  abbrev ElementAs : Node → Answered → Type 0
  ElementAs m (Answered.Missing b) = ((levels : ℕ) → settles levels m ≡ work_c G.t b G.S G.n) × (known b ≡ none) × (b < questions_of G.t)
  ElementAs m Answered.Undefined = (levels : ℕ) → settles levels m ≡ answer tt G.S G.n
  ElementAs m (Answered.Layer c) = LayerHere m c

  plain : (c : ℕ) (m : Node) → Sound G → Plain (written m) → Shows (memory_of G) c (written m) → AllNode (InRange (questions_of G.t)) m
      → Lasting G.t G.S (LayerFits top (written m)) → ElementAs m (answered_at T c)
  plain c m H q s n f =
      rw (layer-shown (memory_of G) (used-tables H.state).stored c (written m) s)
      (record { l = written m; is = λ levels. order.element-layer G.t levels G.S G.n m q; shown = s; numbered = (n, q); fits = f })

  answer-as : (b : ℕ) (ps : Pieces) (o : Option Answer) (a : ℕ) → known b ≡ o → b < questions_of G.t → AnswerAt (memory_of G) o a
      → ElementAs (unresolved b ps) (model.answered b a)
  answer-as b ps none a e l x = rw x (λ levels. order.element-missing G.t levels G.S G.n b ps e, e, l)
  answer-as b ps (some none) a e l x = rw x (λ levels. order.element-answered G.t levels G.S G.n b ps none e)
  answer-as b ps (some (some v)) a e l x =
      let o = x.0 in
      let z : o + 2 - 2 ≡ o = omega arith in
      let h : model.answered b (o + 2) ≡ Answered.Layer (capacity + o) =
      rw (ne_eqb (o + 2) 0 (λ q. omega arith), ne_eqb (o + 2) 1 (λ q. omega arith), z) refl in
      rw (x.1, h)
      (record {
        l = settled v;
        is = λ levels. order.element-answered G.t levels G.S G.n b ps (some v) e ∙ sym (order.node-finished G.t G.S G.n levels v);
        shown = (o, refl, x.2);
        numbered = (tt, tt);
        fits = record { is = λ S' i m. tt };
      })

  element-as : (c : ℕ) (m : Node) → Sound G → WrittenAt (memory_of G) m c → AllNode (InRange (questions_of G.t)) m
      → Lasting G.t G.S (λ (k : ℕ → Option Answer). top + 2 * weight_of k m ≤ settling_room) → ElementAs m (answered_at T c)
  unfolding weight_of
  element-as c (simple x) H s n f = plain c (simple x) H tt s n (record { is = λ S' i m. tt })
  element-as c (array es) H s n f = plain c (array es) H tt s n (record { is = λ S' i m. omega (arith, f.is S' i m) })
  element-as c (object fs) H s n f = plain c (object fs) H tt s n (record { is = λ S' i m. omega (arith, f.is S' i m) })
  element-as c (unresolved b ps) H s n f =
      let t = used-tables H.state in
      rw (unresolved-shown (memory_of G) known t ps s)
      (answer-as b ps (known b) (get_or T (answers_at + b) 0) refl n.0 (t.answers b s.node.1.1))

-- the first of the elements that are left is settled, then the others
first : (t : Task) (levels : ℕ) (m : Node) (es : Elements) (S : Trail Answer) (n : ℕ)
    → settle_elements_c t levels (element m es) S n ≡ after (settle_element_c t levels m S n) (λ _ S' n'. settle_elements_c t levels es S' n')
unfolding elements_by
first t levels m es S n = refl

-- ---- the places where it returns

module _ {T B w : List ℕ} {p end top : ℕ} where
  pub element-source : ElementAsked T B w p end top → (src : Source) → src.rec.0 ≡ trail_at → SourceIn B src
  element-source a src e = record { bytes = a.sound.bytes; records = omega (arith, a.sound.state.document.bytes) }

  abbrev M₀ : ElementAsked T B w p end top → Memory
  M₀ a = used_of a.basis.key a.basis.items a.at.T₀ a.at.B₀ a.at.S₀

  -- those from a place on
  abbrev Fits : ElementAsked T B w p end top → Elements → Type 0
  Fits a es = Lasting a.basis.t a.basis.S (λ (k : ℕ → Option Answer). top + 2 * weight_of_elements k es ≤ settling_room)

  abbrev from : (a : ElementAsked T B w p end top) (x : List ℕ) (q : ℕ) (es : Elements) → ElementsShown (M₀ a) q end es
      → AllElements (InRange (questions_of a.basis.t)) es → Fits a es → ElementsFrom a.basis x q end top es
  from a x q es s n f = record {
    used = a.at.used;
    T₀ = a.at.T₀;
    B₀ = a.at.B₀;
    S₀ = a.at.S₀;
    state = a.at.state;
    later = a.at.later;
    shown = s;
    numbered = n;
    fits = f;
  }

-- The bytes are given: antt would compute the long slice to see that they follow from it.
module _ {T : List ℕ} (B : List ℕ) {p end : ℕ} {v : Member} (m : MemberIs T (take max_room (drop trail_at B)) p end v) {w : List ℕ} {top : ℕ} where
  -- what is met
  met : (a : ElementAsked T B w p end top) → ElementStep (M₀ a) end a.es v
  met a =
      let s = (used-tables a.at.state).stored in
      rw (m.is ∙ member-same (M₀ a).records (take max_room (drop trail_at B)) a.at.later.document p end (omega (arith, a.at.shown.upto, s.few)))
      (element-met (M₀ a) s p end a.es a.at.shown)

  pub element-end : v ≡ Member.End → ElementIs T B p end top w w (record { need = Need.Nothing; next = end })
  element-end e = record {
    left = left-all;
    is = λ a.
        let z : a.es ≡ no-elements = rw e at (met a) in
        let g = a.basis in
        record {
          inner = elements no-elements;
          shows = tt;
          left = elements no-elements;
          at = from a w end no-elements (record { upto = a.at.shown.upto; at = (omega arith, λ k i j. absurd (omega arith)) }) tt (subst (Fits a) z a.at.fits);
          is = λ levels. ap (λ (es : Elements). settle_elements_c g.t levels es g.S g.n) z;
          on = omega (arith, a.inside);
        };
  }

  pub element-seam : {q : ℕ} → v ≡ Member.Seam q → ElementIs T B p end top w w (record { need = Need.Nothing; next = q })
  element-seam {q} e = record {
    left = left-all;
    is = λ a.
        let z : ElementsShown (M₀ a) q end a.es = rw e at (met a) in
        record {
          inner = elements no-elements;
          shows = tt;
          left = elements a.es;
          at = from a w q a.es z a.at.numbered a.at.fits;
          is = λ levels. refl;
          on = omega (arith, skip-less m e);
        };
  }

  module _ {i q : ℕ} (z : v ≡ Member.At i q) where
    -- the element that is met, and those behind it
    step : (a : ElementAsked T B w p end top) → ElementStep (M₀ a) end a.es (Member.At i q)
    step a = rw z at (met a)

    numbers : (a : ElementAsked T B w p end top) → AllElements (InRange (questions_of a.basis.t)) (element (step a).0 (step a).1)
    numbers a = subst (AllElements (InRange (questions_of a.basis.t))) (step a).2 a.at.numbered

    weighs : (a : ElementAsked T B w p end top) (S : Trail Answer)
        → weight_of_elements (lookup S) a.es ≡ weight_of (lookup S) (step a).0 + weight_of_elements (lookup S) (step a).1
    unfolding weight_of
    weighs a S = ap (weight_of_elements (lookup S)) (step a).2

    behind : (a : ElementAsked T B w p end top) (x : List ℕ) → ElementsFrom a.basis x q end top (step a).1
    behind a x = from a x q (step a).1 (step a).4 (numbers a).1 (record { is = λ S j l. omega (arith, a.at.fits.is S j l, weighs a S) })

    unfolded : (a : ElementAsked T B w p end top) (levels : ℕ) → settle_elements_c a.basis.t levels a.es a.basis.S a.basis.n
        ≡ after (settle_element_c a.basis.t levels (step a).0 a.basis.S a.basis.n) (λ _ S' n'. settle_elements_c a.basis.t levels (step a).1 S' n')
    unfolded a levels =
        ap (λ (es : Elements). settle_elements_c a.basis.t levels es a.basis.S a.basis.n) (step a).2
        ∙ first a.basis.t levels (step a).0 (step a).1 a.basis.S a.basis.n

    -- then the others
    abbrev onward : (a : ElementAsked T B w p end top) (levels : ℕ) → Ended Refusal Answer → Ended Refusal Answer
    onward a levels e = after e (λ _ S' n'. settle_elements_c a.basis.t levels (step a).1 S' n')

    module _ {y : Answered} (h : AnsweredIs T i y) where
      found : (a : ElementAsked T B w p end top) → ElementAs a.basis top (step a).0 y
      found a =
          rw h.is
          (element-as a.basis top i (step a).0 a.sound (written-later a.at.later a.at.state.document (step a).3) (numbers a).0
          (record { is = λ S j l. omega (arith, a.at.fits.is S j l, weighs a S) }))

      pub element-undefined : y ≡ Answered.Undefined → ElementIs T B p end top w w (record { need = Need.Nothing; next = q })
      element-undefined e = record {
        left = left-all;
        is = λ a.
            let f : ElementAs a.basis top (step a).0 Answered.Undefined = rw e at (found a) in
            record {
              inner = elements no-elements;
              shows = tt;
              left = elements (step a).1;
              at = behind a w;
              is = λ levels. unfolded a levels ∙ ap (onward a levels) (f levels);
              on = omega (arith, one_less m z);
            };
      }

      pub element-missing : {b : ℕ} → y ≡ Answered.Missing b → ElementIs T B p end top w w (record { need = Need.Answer b; next = q })
      element-missing {b} e = record {
        left = left-all;
        is = λ a.
            let f : ElementAs a.basis top (step a).0 (Answered.Missing b) = rw e at (found a) in
            record {
              inner = elements no-elements;
              shows = (f.1, f.2);
              left = elements (step a).1;
              at = behind a w;
              is = λ levels. unfolded a levels ∙ ap (onward a levels) (f.0 levels);
              on = omega (arith, one_less m z);
            };
      }

      module _ {c : ℕ} (e : y ≡ Answered.Layer c) where
        layer : (a : ElementAsked T B w p end top) → LayerHere a.basis top (step a).0 c
        layer a = rw e at (found a)

        abbrev asked : ElementAsked T B w p end top → LayerAsked T B w top c
        asked a =
            let f = layer a in
            record { basis = a.basis; sound = a.sound; work = a.work; used = a.at.used; l = f.l; shown = f.shown; numbered = f.numbered; fits = f.fits }

        pub element-layer : {w' : List ℕ} {r : Need} → LayerIs T B top c w w' r → ElementIs T B p end top w w' (record { need = r; next = q })
        element-layer {w'} N = record {
          left = N.left;
          is = λ a.
              let x = N.is (asked a) in
              record {
                inner = x.inner;
                shows = x.shows;
                left = elements (step a).1;
                at = behind a w';
                is = λ levels. unfolded a levels ∙ ap (onward a levels) ((layer a).is levels ∙ x.is levels);
                on = omega (arith, one_less m z);
              };
        }

-- what is asked of an element that is a layer
pub element-asks : {T B w : List ℕ} {p end top : ℕ} → ElementAsked T B w p end top → {v : Member} → MemberIs T (take max_room (drop trail_at B)) p end v
    → {i q : ℕ} → v ≡ Member.At i q → {y : Answered} → AnsweredIs T i y → {c : ℕ} → y ≡ Answered.Layer c → LayerAsked T B w top c
element-asks {B = B} a m z h e = asked B m z h e a

pub ruleset element-laws = (element-source, element-end, element-seam, element-undefined, element-missing, element-asks, element-layer)

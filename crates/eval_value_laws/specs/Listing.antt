-- The elements of an array one by one: those so far are written, and what is still to come by the rules.
use Rattle.std.specs.Prelude.{◌≡◌, refl, ℕ, ◌+◌, ◌*◌, ◌≤◌, ◌<◌, List, length, get_or}
use Rattle.std.proofs.Common.{sym, ap, ◌∙◌, arith}
use Rattle.std.proofs.Math.Path.{subst}
use Rattle.std.proofs.Math.Option.{Option}
use Rattle.answers.specs.Ask.{value, missing, then}
use Rattle.rules.specs.Tree.{Node, Elements, no-elements, element}
use Rattle.rules.specs.Bytes.{Text}
use Rattle.rules.specs.Values.{Values, Answer}
use Rattle.rules.specs.Layers.{Counted, nothing, one, made_item}
use Rattle.rules.specs.Settled.{Given, node_in, elements_in, counted_in, value_in}
use Rattle.doc_items.specs.Room.{capacity, number_bound}
use Rattle.doc_items.specs.Writing.{ReadIs}
use Rattle.eval_nodes.specs.declared.answer.Answered.{Answered}
use Rattle.eval_writer.specs.declared.Out.{Out}
use Rattle.eval_writer.specs.declared.Source.{Source}
use Rattle.eval_results.specs.Extents.Contracts.{far, NotPast, Bounded}
use Rattle.eval_results.specs.Extents.Members.{begun}
use Rattle.eval_results.specs.declared.extents.Extent.{Extent}
use Rattle.eval_nodes.specs.Model.{answered_at}
use Rattle.eval_nodes.specs.Clauses.{MemberIs}
use Rattle.eval_nodes.specs.Members.{skip-less, one_less}
use Rattle.eval_nodes.specs.declared.Member.{Member}
use Rattle.eval_memory.specs.Keys.{KeyNumber}
use Rattle.eval_layers.specs.declared.Taken.{Taken}
use Rattle.eval_writer.specs.Copies.Sources.{records_of}
use Rattle.eval_results.specs.Values.Contracts.{MadeWithin, one_more, OneMoreIs}
use Rattle.eval_results.specs.Values.Comes.{Comes, ElementsCome}
use Rattle.eval_results.specs.Values.Steps.{ElementsSoFar, elements-begin, elements-end, elements-done, elements-undefined, elements-need}
use Rattle.eval_results.specs.declared.values.Worked.{Worked}
use Rattle.eval_results.specs.declared.values.Made.{Made}
use Rattle.eval_value_laws.specs.Ground.{Names, memory_of, ValueComes}
use Rattle.eval_value_laws.specs.Elements.{ElementsShown, ElementStep, element-met}
use Rattle.eval_value_laws.specs.Clauses.{Asked, Left, ElementGiven, ElementsGiven, TakenIn, TakenGivenBy, counted_by, TakenValueIs, OneMore, ElementsIs, taken_of, ElementTakenIs, ElementsEndIs}
use Rattle.eval_value_laws.specs.Given.{element-first, elements-rest, ElementAs, element-as}
use Rattle.eval_value_laws.specs.Frames.{left-all, left-then, asked-again, more_within, one-more}

-- the elements with one more, or the answer that is needed
abbrev GrownBy : (ℕ → Text) → (ℕ → Type 0) → Given Values → Given Values → Out → List ℕ → List ℕ → Made → Type 0
GrownBy key P g rest o b y (Made.Done m e) = ElementsSoFar key P g rest o m e b y
GrownBy key P g rest o b y (Made.Needs j) = ElementsCome key P g o (Made.Needs j) b y

grow : {key : ℕ → Text} {P : ℕ → Type 0} {g all : Given Values} {o : Out} {n : ℕ} {e : Extent} {b x y : List ℕ} (a : Given Answer) (rest : Given Values)
    → all ≡ then a (λ a. then rest (λ vs. value (made_item a vs))) → ElementsSoFar key P g all o n e b x → (u : Worked) → Comes key P a e.out u x y
    → GrownBy key P g rest o b y (one_more n e u)
grow a rest z s (Worked.Done m) c = elements-done a rest z s c refl
grow a rest z s Worked.Undefined c = elements-undefined a rest z s c refl
grow a rest z s (Worked.Needs j) c = elements-need a rest z s c refl

-- an element's value, as that of what its layers come to
element-comes : {T B : List ℕ} {src : Source} {top i levels : ℕ} {o : Out} {tk : Taken} {w w' b a : List ℕ} {u : Worked} (N : Names) (known : ℕ → Option Answer) (d : ℕ) (n : Node)
    → ElementTakenIs T i tk → TakenValueIs T B src top tk o levels w w' u b a → ElementGiven (memory_of T B src N) known top levels d i n
    → ValueComes (memory_of T B src N) (node_in known (value_in known d) n) o u b a
unfolding counted_in
element-comes {T} {B} {src} {top} {i} {levels} {o} {tk} {w} {w'} {b} {a} {u} N known d n t f g =
    go (answered_at T i) t.is (element-as (memory_of T B src N) known (value_in known d) top levels d n g)
  where
    -- by what layers come to
    by : (v : Taken) → tk ≡ v → (c : Given Counted) → TakenGivenBy (memory_of T B src N) known w top levels d c v → ValueComes (memory_of T B src N) (counted_by known d c) o u b a
    by v e c G = f.is N known d c (record { is = rw e G })

    go : (v : Answered) → tk ≡ taken_of v → ElementAs (memory_of T B src N) known (value_in known d) top levels d (node_in known (value_in known d) n) v
        → ValueComes (memory_of T B src N) (node_in known (value_in known d) n) o u b a
    go (Answered.Missing q) e x = rw x (by (Taken.Needs q) e (missing q) refl)
    go Answered.Undefined e x = rw x (by Taken.Nothing e (value nothing) refl)
    go (Answered.Layer q) e (l, x, s) = rw x (by (Taken.One q) e (value (one l)) (l, refl, s))

-- the elements before `at` are written
pub record Listing (T B : List ℕ) (src : Source) (top c : ℕ) (o : Out) (levels end : ℕ) (w₀ b₀ : List ℕ) (at n : ℕ) (e : Extent) (w b : List ℕ) : Type 0 where
  pub left : Left top w₀ w
  pub kept : length b ≡ length b₀
  pub within : Bounded e
  pub few : n ≤ at
  pub counted : n ≤ end
  pub upto : end ≡ c + get_or T (8 * c + 1) 0
  pub near : end ≤ capacity + number_bound
  pub is : (N : Names) (known : ℕ → Option Answer) (d : ℕ) (es : Elements) → ElementsGiven (memory_of T B src N) known top levels d (c + 1) end es
      → (ns : Elements) × ElementsGiven (memory_of T B src N) known top levels d at end ns
      × ElementsSoFar N.key (KeyNumber T N.items) (elements_in known (value_in known d) es) (elements_in known (value_in known d) ns) o n e b₀ b

pub elements-end-at : {T : List ℕ} {c z : ℕ} → c < capacity → ReadIs T (8 * c + 1) z → ElementsEndIs T c (c + z)
elements-end-at {T} {c} {z} l r = record { is = ap (λ (m : ℕ). c + m) r.is; near = omega (arith, r.small) }

pub ruleset ends = (elements-end-at)

module _ {T B : List ℕ} {src : Source} {top c levels : ℕ} {o : Out} {w₀ b₀ : List ℕ} where
  pub listing_start : {end : ℕ} → NotPast o → ElementsEndIs T c end → Listing T B src top c o levels end w₀ b₀ (c + 1) 0 (begun o) w₀ b₀
  listing_start {end} q r =
      record {
        left = left-all;
        kept = refl;
        within = record { out = q; deep = omega arith };
        few = omega arith;
        counted = omega arith;
        upto = r.is;
        near = r.near;
        is = λ N known d es g. (es, g, elements-begin q);
      }

  module _ {end at n : ℕ} {e : Extent} {w b : List ℕ} (I : Listing T B src top c o levels end w₀ b₀ at n e w b) where
    -- what is lent on
    pub listing-asked : Asked B src w₀ top o b₀ → Asked B src w top e.out b
    listing-asked A = asked-again A I.left.len A.used I.within.out I.kept

    -- an element has no objects on the stack
    pub listing-inside : {i : ℕ} {tk : Taken} → ElementTakenIs T i tk → TakenIn top tk
    listing-inside {i} {tk} t = rw t.is (go (answered_at T i))
      where
        go : (v : Answered) → TakenIn top (taken_of v)
        go (Answered.Missing q) = tt
        go Answered.Undefined = tt
        go (Answered.Layer q) = tt

    pub listing-count : n ≤ far
    listing-count = omega (arith, I.counted, I.near)

    module _ {v : Member} (m : MemberIs T (records_of B src) at end v) where
      -- what is met
      met : (N : Names) (known : ℕ → Option Answer) (d : ℕ) (ns : Elements) → ElementsGiven (memory_of T B src N) known top levels d at end ns
          → ElementStep (memory_of T B src N) end ns v
      met N known d ns g = rw m.is (element-met (memory_of T B src N) g.basis.tables.stored at end ns g.shown)

      pub listing-end : v ≡ Member.End → ElementsIs T B src top c o levels w₀ w (Made.Done n e) b₀ b
      unfolding elements_in
      listing-end z =
          record {
            left = I.left;
            within = I.within;
            is = λ N known d es g.
                let x = I.is N known d es (rw I.upto g) in
                let s : x.0 ≡ no-elements = rw z at (met N known d x.0 x.1) in
                elements-end (rw s at x.2);
          }

      pub listing-seam : {q : ℕ} → v ≡ Member.Seam q → Listing T B src top c o levels end w₀ b₀ q n e w b
      listing-seam {q} z =
          record {
            left = I.left;
            kept = I.kept;
            within = I.within;
            few = omega (arith, I.few, skip-less m z);
            counted = I.counted;
            upto = I.upto;
            near = I.near;
            is = λ N known d es g.
                let M = memory_of T B src N in
                let x = I.is N known d es g in
                let s : ElementsShown M q end x.0 = rw z at (met N known d x.0 x.1) in
                let y = x.1 in
                (x.0, record { basis = y.basis; shown = s; fits = y.fits; low = y.low; deep = y.deep }, x.2);
          }

      module _ {i q : ℕ} (z : v ≡ Member.At i q) where
        module _ {tk : Taken} {w' a : List ℕ} {u : Worked} {r : Made} (j : ElementTakenIs T i tk) (f : TakenValueIs T B src top tk e.out levels w w' u b a)
            (k : OneMoreIs n e u r) where
          -- the element that is met, and those behind it
          step : (N : Names) (known : ℕ → Option Answer) (d : ℕ) (ns : Elements) → ElementsGiven (memory_of T B src N) known top levels d at end ns
              → ElementStep (memory_of T B src N) end ns (Member.At i q)
          step N known d ns g = rw z at (met N known d ns g)

          -- with it
          grown : (N : Names) (known : ℕ → Option Answer) (d : ℕ) (es : Elements) (g : ElementsGiven (memory_of T B src N) known top levels d (c + 1) end es)
              → let x = I.is N known d es g in
              let y = step N known d x.0 x.1 in
              GrownBy N.key (KeyNumber T N.items) (elements_in known (value_in known d) es) (elements_in known (value_in known d) y.1) o b₀ a r
          unfolding elements_in
          grown N known d es g =
              let M = memory_of T B src N in
              let x = I.is N known d es g in
              let y = step N known d x.0 x.1 in
              let G = x.1 in
              let G' : ElementsGiven M known top levels d at end (element y.0 y.1) = rw (← y.2) G in
              let C = element-comes N known d y.0 j f (element-first M known top levels d at end y.0 y.1 G' y.3) in
              subst (GrownBy N.key (KeyNumber T N.items) (elements_in known (value_in known d) es) (elements_in known (value_in known d) y.1) o b₀ a) (sym k.is)
              (grow (node_in known (value_in known d) y.0) (elements_in known (value_in known d) y.1) (ap (elements_in known (value_in known d)) y.2) x.2 u C)

          pub listing-need : {m : ℕ} → r ≡ Made.Needs m → ElementsIs T B src top c o levels w₀ w' (Made.Needs m) b₀ a
          listing-need {m} y =
              record {
                left = left-then I.left f.left;
                within = tt;
                is = λ N known d es g.
                    let G : ElementsGiven (memory_of T B src N) known top levels d (c + 1) end es = rw I.upto g in
                    let x = I.is N known d es G in
                    let p = step N known d x.0 x.1 in
                    subst (GrownBy N.key (KeyNumber T N.items) (elements_in known (value_in known d) es) (elements_in known (value_in known d) p.1) o b₀ a) y
                    (grown N known d es G);
              }

          pub listing-done : {h : ℕ} {e' : Extent} → r ≡ Made.Done h e' → length a ≡ length b → Listing T B src top c o levels end w₀ b₀ q h e' w' a
          listing-done {h} {e'} y s =
              let t : OneMore n (Made.Done h e') = rw y at (one-more k) in
              let v : MadeWithin (Made.Done h e') = rw y at (more_within I.within f.within k) in
              record {
                left = left-then I.left f.left;
                kept = s ∙ I.kept;
                within = v;
                few = omega (arith, I.few, one_less m z);
                counted = omega (arith, I.few, one_less m z);
                upto = I.upto;
                near = I.near;
                is = λ N known d es g.
                    let M = memory_of T B src N in
                    let x = I.is N known d es g in
                    let p = step N known d x.0 x.1 in
                    let G' : ElementsGiven M known top levels d at end (element p.0 p.1) = rw (← p.2) x.1 in (
                      p.1,
                      elements-rest M known top levels d at end p.0 p.1 G' p.4,
                      subst (GrownBy N.key (KeyNumber T N.items) (elements_in known (value_in known d) es) (elements_in known (value_in known d) p.1) o b₀ a) y
                          (grown N known d es g),
                    );
              }

pub ruleset elements-laws = (listing_start, listing-asked, listing-end, listing-seam, listing-inside, listing-count, listing-need, listing-done, skip-less, one_less)

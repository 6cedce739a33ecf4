-- Laws of checking the root.
use mathlib.Core.Path.{◌≡◌, refl, sym, ap, subst, ◌∙◌}
use Prim.Native.Nat.{ℕ, ◌+◌, ◌≤◌, ◌<◌, min}
use mathlib.Core.Bool.{Bool, true, false, ◌&&◌}
use mathlib.Core.List.{List}
use native.Mathlib.Omega.{arith}
use lib.Dec.{leb}
use lib.ListN.{length}
use borrow.Author.Tests.{le-leb, lt-leb, leb-true, leb-false}
use Rattle.answers.specs.Ask.{Trail, lookup, run}
use Rattle.rules.specs.Bytes.{Text}
use Rattle.rules.specs.Tree.{root_node, height_of}
use Rattle.rules.specs.Sizes.{max_nesting, max_records, max_text}
use Rattle.rules.specs.Values.{Answer, nesting_of, record_size, text_size, within_size}
use Rattle.rules.specs.Documents.{Setting}
use Rattle.theory.specs.Resolving.{laid-within, root_of}
use Rattle.theory_check.specs.Steps.{CheckAt, root-needs}
use Rattle.sheet_kept.specs.Kept.{Held, named}
use Rattle.eval_writer.specs.Clauses.{Room}
use Rattle.eval_writer.specs.Composition.{start}
use Rattle.eval_results.specs.Extents.Contracts.{far}
use Rattle.eval_results.specs.Extents.Came.{Came, came-in-room}
use Rattle.eval_results.specs.declared.extents.Extent.{Extent}
use Rattle.eval_state.specs.State.{State}
use Rattle.eval_frames.specs.Weights.{root_below}
use Rattle.eval_results.specs.declared.values.Worked.{Worked}
use Rattle.check_entries.specs.Tables.Contracts.{Evaluated, TableAsked, TableIs}
use Rattle.job_root.specs.Clauses.{RootAsked, RootCase, RootIs, CheckRootAsked, CheckRootIs}

-- a counter that ends at a bound far behind a limit keeps to the limit exactly where the number does
clipped-leb : (n m limit : ℕ) → m ≡ min far n → limit < far → leb m limit ≡ leb n limit
clipped-leb n m limit e l = go (leb n limit) refl
  where
    go : (t : Bool) → leb n limit ≡ t → leb m limit ≡ t
    go true h = le-leb m limit (omega (arith, leb-true n limit h, e))
    go false h = lt-leb m limit (omega (arith, leb-false n limit h, e))

zero-start : (n : ℕ) → 0 + n ≡ n
zero-start n = omega arith

evaluated : {key : ℕ → Text} {v : Held} {e : Extent} {b a : List ℕ} → Came key v start e b a → Room b → Evaluated key v a e.out e.deep
unfolding within_size
evaluated {key} {v} {e} {b} {a} C w = record {
  within =
      ap (λ (t : Bool). (t && leb e.out.rec.0 max_records) && leb e.out.text.0 max_text)
      (clipped-leb (nesting_of (named key v)) e.deep max_nesting C.deep (omega arith))
      ∙ ap (λ (t : Bool). (leb (nesting_of (named key v)) max_nesting && t) && leb e.out.text.0 max_text)
      (clipped-leb (record_size (named key v)) e.out.rec.0 max_records (C.rec ∙ ap (min far) (zero-start (record_size (named key v)))) (omega arith))
      ∙ ap (λ (t : Bool). (leb (nesting_of (named key v)) max_nesting && leb (record_size (named key v)) max_records) && t)
      (clipped-leb (text_size (named key v)) e.out.text.0 max_text (C.text ∙ ap (min far) (zero-start (text_size (named key v)))) (omega arith));
  in-room = λ l m. came-in-room C w l m;
}

module _ {B w room : List ℕ} {t : ℕ} {text : List ℕ} (A : CheckRootAsked B w room t text) where
  pub root-asked : RootAsked B w 0 room
  root-asked = record { whole = A.whole; bytes = A.bytes; most = A.most; work = A.work; used = omega arith }

  pub table-asked : {after : List ℕ} → length after ≡ length room → TableAsked after t text
  table-asked l = record { whole = l ∙ A.whole; inside = A.inside; short = A.short }

  module _ {T : List ℕ} {o : Worked} {w' after : List ℕ} (W : RootIs T B 0 w w' o room after) where
    module _ {x : Setting} {key : ℕ → Text} {items : ℕ} {trail : List ℕ} {S : Trail Answer} (H : State x key items T B S) (C : CheckAt x trail text S)
        (low : height_of (root_node x.document.root) ≤ 32) where
      came : {q : Worked} → o ≡ q → RootCase key items T (run (lookup S) (root_of x)) room after q
      came e =
          subst (λ (q : Worked). RootCase key items T (run (lookup S) (root_of x)) room after q) e
          (W.is x key items S (record {
            state = H;
            nested = low;
            within = laid-within x H.document.read 0 0 S C.laid;
            fits = omega (arith, root_below H);
          }))

    pub root-done : {e : Extent} {table : List ℕ} {r : Bool} → o ≡ Worked.Done e → TableIs after e.out e.deep t table text r → CheckRootIs T B t table text r
    root-done q P = record {
      is = λ x key items trail S H C full u low.
          let D = came H C low q in
          P.is x trail S key D.held C full u D.is (evaluated D.came A.whole);
    }

    pub root-undefined : {table : List ℕ} → o ≡ Worked.Undefined → CheckRootIs T B t table text false
    root-undefined q = record { is = λ x key items trail S H C full u low. absurd (came H C low q) }

    pub root-needs-more : {table : List ℕ} {d : ℕ} → o ≡ Worked.Needs d → CheckRootIs T B t table text false
    root-needs-more {table} {d} q = record { is = λ x key items trail S H C full u low. sym (root-needs C table full d (came H C low q)) }

pub ruleset roots = (root-asked, table-asked, root-done, root-undefined, root-needs-more)

-- Laws of beginning: one for each end.
use mathlib.Core.Path.{◌≡◌, refl, sym, ap, ◌∙◌}
use mathlib.Core.Bool.{Bool, true, false, cond}
use mathlib.Core.List.{List, ◌∷◌}
use mathlib.Core.Option.{Option, none, some}
use Prim.Native.Nat.{ℕ, ◌+◌, ◌*◌, ◌≤◌, ◌<◌}
use native.Mathlib.Omega.{arith}
use lib.Dec.{eqb}
use lib.ListN.{length, get_or, get_elem?, set}
use lib.Seq.{get_or-set_same, get_or-set_other}
use borrow.Author.Tests.{eqb-true, eqb-false}
use Rattle.std.specs.Prelude.{Ok, Err}
use Rattle.answers.specs.Ask.{Trail}
use Rattle.answers.specs.Theory.Fuel.{begun}
use Rattle.rules.specs.Bytes.{Text}
use Rattle.rules.specs.Refusals.{placed}
use Rattle.rules.specs.Values.{Answer}
use Rattle.rules.specs.Unresolved.{Unresolved}
use Rattle.rules.specs.Documents.{Setting, count_of, first_byte}
use Rattle.theory_text.specs.Choices.{get_elem-none}
use Rattle.theory_order.specs.Running.{begun-push}
use Rattle.theory_order.specs.WorkLaws.{bar-circular, bar-excess, bar-free}
use Rattle.doc_items.specs.Room.{index_at, answers_at}
use Rattle.doc_items.specs.Writing.{ReadIs}
use Rattle.read_numbering.specs.Clauses.{item_of}
use Rattle.eval_state.specs.Memories.{begun_at}
use Rattle.eval_state.specs.Documents.{DocumentIn}
use Rattle.eval_state.specs.Later.{later-marked, state-later}
use Rattle.text_chars.specs.declared.DocAt.{DocAt}
use Rattle.text_chars.specs.Cursor.{refusal}
use Rattle.eval_trail.specs.Clauses.{mark_of, PlaceIs, BeginAsked, BeginIs}
use Rattle.eval_trail.specs.declared.Progress.{Progress}

-- ---- the place

pub place_is : {T : List ℕ} {b i r : ℕ} → ReadIs T (index_at + b) i → ReadIs T (8 * (i + 1) + 6) r → PlaceIs T b r
place_is {T} {b} {i} {r} x y = record { is = y.is ∙ ap (λ (j : ℕ). get_or T (8 * (j + 1) + 6) 0) x.is }

-- it is the rules'
first-byte : {x : Setting} {key : ℕ → Text} {items : ℕ} {T B : List ℕ} → DocumentIn x key items T B → (b : ℕ) → b < count_of x
    → get_or T (8 * (item_of T b + 1) + 6) 0 ≡ first_byte x b
unfolding first_byte
first-byte {x} {key} {items} {T} {B} D b l = go (get_elem? x.document.unresolved b) refl
  where
    go : (u : Option Unresolved) → get_elem? x.document.unresolved b ≡ u
        → get_or T (8 * (item_of T b + 1) + 6) 0 ≡ elim u [ none ↦ 0 | some u ↦ u.place ]
    go none e = absurd (omega (arith, get_elem-none x.document.unresolved b e))
    go (some u) e = (D.unresolved b u e).place

-- ---- marks

marked : (m : ℕ) (t : Bool) → m ≡ mark_of t → (m ≡ 0 → ⊥) → t ≡ true
marked m true e f = refl
marked m false e f = absurd (f e)

unmarked : (m : ℕ) (t : Bool) → m ≡ mark_of t → m ≡ 0 → t ≡ false
unmarked m true e f = absurd (omega arith)
unmarked m false e f = refl

-- one more
mark_set : (T : List ℕ) (S : Trail Answer) (stack : List ℕ) (b c : ℕ) → begun_at + b < length T → get_or T (begun_at + c) 0 ≡ mark_of (begun S stack c)
    → get_or (set T (begun_at + b) 1) (begun_at + c) 0 ≡ mark_of (begun S (b ∷ stack) c)
mark_set T S stack b c l m = go (eqb b c) refl ∙ ap mark_of (sym (begun-push S stack b c))
  where
    go : (t : Bool) → eqb b c ≡ t → get_or (set T (begun_at + b) 1) (begun_at + c) 0 ≡ mark_of (cond t true (begun S stack c))
    go true e = ap (λ (d : ℕ). get_or (set T (begun_at + b) 1) (begun_at + d) 0) (sym (eqb-true b c e)) ∙ get_or-set_same T (begun_at + b) 1 0 l
    go false e = get_or-set_other T (begun_at + b) (begun_at + c) 1 0 (λ z. eqb-false b c e (omega arith)) ∙ m

-- ---- the ends

module _ {T : List ℕ} {b budget m : ℕ} {p : Progress} {place : DocAt} (A : BeginAsked T b) (P : PlaceIs T b place.0) (R : ReadIs T (begun_at + b) m) where
  pub begin-circular : (m ≡ 0 → ⊥) → BeginIs b p budget T T (Err (refusal 10 place))
  begin-circular f = record {
    is = λ t key items B trail text stack S n e l new H.
        let y = P.is ∙ first-byte H.state.document b l in (
          bar-circular t S stack n b new (marked m (begun S stack b) (R.is ∙ H.marks b A.number) f)
              ∙ ap (λ (i : ℕ). some (placed 10 i)) (sym y),
          refl,
        );
  }

  pub begin-excess : m ≡ 0 → budget ≤ p.begun → BeginIs b p budget T T (Err (refusal 12 place))
  begin-excess f h = record {
    is = λ t key items B trail text stack S n e l new H.
        let y = P.is ∙ first-byte H.state.document b l in
        let c = H.count in (
          bar-excess t S stack n b new (unmarked m (begun S stack b) (R.is ∙ H.marks b A.number) f) (omega arith)
              ∙ ap (λ (i : ℕ). some (placed 12 i)) (sym y),
          refl,
        );
  }

  pub begin-free : m ≡ 0 → p.begun < budget
      → BeginIs b p budget T (set T (begun_at + b) 1) (Ok (record { used = p.used; text = p.text; begun = p.begun + 1 }))
  begin-free f h = record {
    is = λ t key items B trail text stack S n e l new H.
        let c = H.count in
        let a = A.table in
        let i = A.number in
        let L = later-marked T B S (begun_at + b) 1 (omega arith) in (
          bar-free t S stack n b new (unmarked m (begun S stack b) (R.is ∙ H.marks b A.number) f) (omega arith),
          record {
            state = state-later H.state L (λ d z. get_or-set_other T (begun_at + b) (answers_at + d) 1 0 (λ q. omega arith));
            marks = λ d z. mark_set T S stack b d (omega arith) (H.marks d z);
            rest = H.rest;
            more = H.more;
            laid = H.laid;
            used = H.used;
            texts = H.texts;
            count = omega arith;
            trail-room = H.trail-room;
            text-room = H.text-room;
          },
          L,
        );
  }

pub ruleset beginnings = (begin-circular, begin-excess, begin-free)

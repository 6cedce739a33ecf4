-- One law for each verdict on a path.
use mathlib.Core.Path.{◌≡◌, refl, sym, ◌∙◌, ap}
use mathlib.Core.Bool.{Bool, true, false}
use mathlib.Core.List.{List, [], ◌∷◌}
use mathlib.Core.Option.{none, some}
use Rattle.std.specs.Prelude.{Ok, Err}
use Prim.Native.Nat.{ℕ, zero, suc, ◌+◌, ◌≤◌, ◌<◌}
use native.Mathlib.Omega.{arith}
use lib.ListN.{length, get_elem?}
use Rattle.answers.specs.Theory.Sound.{clash}
use Rattle.rules.specs.Sizes.{max_path}
use Rattle.rules.specs.Paths.{Element, any_empty, judge}
use Rattle.text_chars.specs.Cursor.{doc, refusal}
use Rattle.text_chars.specs.declared.DocAt.{DocAt}
use Rattle.text_elements.specs.Marks.Marks.{marked, place_of}
use Rattle.text_elements.specs.Marks.Holding.{Held}
use Rattle.text_elements.specs.Marks.Judging.{JudgeIs, verdict_of}

-- a held element's place
held_place : (from i : ℕ) (es : List Element) (out marks : List ℕ) (n : ℕ) → Held from i es out marks → n < length es → i + n < marked
    → (x : Element) × (get_elem? es n ≡ some x) × (place_of marks (i + n) ≡ x.place)
held_place from i [] out marks n h l b = absurd (omega arith)
held_place from i (e ∷ es) out marks zero h l b =
    let z : i + 0 ≡ i = omega arith in
    (e, refl, rw z (h.1 (omega arith)).1)
held_place from i (e ∷ es) out marks (suc n) h l b =
    let (x, p, q) = held_place (from + length e.text) (suc i) es out marks n h.2 (omega arith) (omega arith) in
    let z : i + suc n ≡ suc i + n = omega arith in
    (x, p, rw z q)

past-none : (es : List Element) (n : ℕ) → length es ≤ n → get_elem? es n ≡ none
past-none [] n h = refl
past-none (e ∷ es) zero h = absurd (omega arith)
past-none (e ∷ es) (suc n) h = past-none es n (omega arith)

module _ (seven allowed : ℕ) where
  none-7 : (es : List Element) → length es ≡ 0 → Err (refusal 7 (doc seven)) ≡ verdict_of (judge seven allowed es)
  unfolding judge
  none-7 [] z = refl
  none-7 (e ∷ es) z = absurd (omega arith)

  empty-7 : (es : List Element) → any_empty es ≡ true → Err (refusal 7 (doc seven)) ≡ verdict_of (judge seven allowed es)
  unfolding judge
  empty-7 [] z = refl
  empty-7 (e ∷ es) z = rw (z, judge)

  many-8 : (es : List Element) → any_empty es ≡ false → (x : Element) → get_elem? es allowed ≡ some x
      → Err (refusal 8 (doc x.place)) ≡ verdict_of (judge seven allowed es)
  unfolding judge
  many-8 [] z x g = clash (cc)
  many-8 (e ∷ es) z x g = rw (z, g, judge)

  fine : (es : List Element) → 0 < length es → any_empty es ≡ false → get_elem? es allowed ≡ none → Ok tt ≡ verdict_of (judge seven allowed es)
  unfolding judge
  fine [] l z g = absurd (omega arith)
  fine (e ∷ es) l z g = rw (z, g, judge)

module _ {count : ℕ} {empty : Bool} {seven : DocAt} {allowed : ℕ} {marks : List ℕ} where
  pub judge-none : count ≡ 0 → JudgeIs count empty seven.0 allowed marks (Err (refusal 7 seven))
  judge-none z = record { is = λ es out h c e. none-7 seven.0 allowed es (sym c ∙ z) }

  pub judge-empty : empty ≡ true → JudgeIs count empty seven.0 allowed marks (Err (refusal 7 seven))
  judge-empty z = record { is = λ es out h c e. empty-7 seven.0 allowed es (sym e ∙ z) }

  pub judge-many : {d : DocAt} → empty ≡ false → allowed < count → allowed ≤ max_path → d.0 ≡ place_of marks allowed
      → JudgeIs count empty seven.0 allowed marks (Err (refusal 8 d))
  judge-many {d} z l b i = record {
    is = λ es out h c e.
        let (x, p, q) = held_place 0 0 es out marks allowed h (omega arith) (omega arith) in
        let k : 0 + allowed ≡ allowed = omega arith in
        let q' : place_of marks allowed ≡ x.place = rw k at q in
        ap (λ n. Err (refusal 8 (doc n))) (i ∙ q') ∙ many-8 seven.0 allowed es (sym e ∙ z) x p;
  }

  pub judge-fine : (count ≡ 0 → ⊥) → empty ≡ false → count ≤ allowed → JudgeIs count empty seven.0 allowed marks (Ok tt)
  judge-fine n z l = record {
    is = λ es out h c e. fine seven.0 allowed es (omega (arith, n)) (sym e ∙ z) (past-none es allowed (omega arith));
  }

pub ruleset judgements = (judge-none, judge-empty, judge-many, judge-fine)

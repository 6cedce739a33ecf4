-- One law for each answer of the functions that read a path text.
use mathlib.Core.Path.{◌≡◌, refl, sym, ◌∙◌, ap}
use mathlib.Core.Bool.{Bool, true, false}
use mathlib.Core.List.{List}
use mathlib.Core.Option.{Option, none, some}
use Rattle.std.specs.Prelude.{Result, Ok, Err}
use Prim.Native.Nat.{ℕ, ◌≤◌, ◌<◌}
use native.Mathlib.Omega.{arith}
use lib.Dec.{ltb}
use lib.ListN.{length, length-map}
use borrow.Author.Tests.{lt-ltb, le-ltb}
use Rattle.answers.specs.Theory.Sound.{clash}
use Rattle.rules.specs.Sizes.{max_path}
use Rattle.rules.specs.Bytes.{Text}
use Rattle.rules.specs.Refusals.{Refusal as Refusing, placed, number_of, place_of, Scan, ok, refused, and_then}
use Rattle.rules.specs.Characters.{after_inline}
use Rattle.rules.specs.Paths.{Segment, segments_at, Element, elements_of, any_empty, judge, judged, texts_of, path_text}
use Rattle.theory.specs.PathsEnd as P
use Rattle.text_chars.specs.Cursor.{doc, cur, refusal}
use Rattle.text_chars.specs.declared.Refusal.{Refusal}
use Rattle.text_chars.specs.declared.Cursor.{Cursor}
use Rattle.text_scan.specs.Scan.{EndIs}
use Rattle.text_elements.specs.Marks.Holding.{Held}
use Rattle.text_elements.specs.Marks.Judging.{verdict_of, JudgeIs}
use Rattle.text_paths.specs.Whole.{ElementsAsked, elements_to, joined_of, HeldIn, ElementsIs}
use Rattle.text_paths.specs.Texts.{read_of, ended_scan, EndedIs, PathAsked, HeldTexts, PathIs}
use Rattle.text_paths.specs.declared.Joined.{Joined}

-- ---- judged at the end

at-end : (s : List ℕ) (end : ℕ) → length s ≤ end → (es : List Element) → ended_scan s es end ≡ judged (judge 0 max_path es) (texts_of es) end
unfolding ended_scan
at-end s end l es = rw (le-ltb end (length s) l, ended_scan)

fine : (es : List Element) (end : ℕ) (o : Option Refusing) → Ok tt ≡ verdict_of o → Ok (length es) ≡ read_of (judged o (texts_of es) end)
fine es end none z = ap (λ (n : ℕ). Ok n) (sym (length-map es (λ (x : Element). x.text)))
fine es end (some x) z = clash (cc)

bad : (es : List Element) (end : ℕ) (o : Option Refusing) (y : Refusal) → Err y ≡ verdict_of o
    → Err y ≡ read_of (judged o (texts_of es) end)
bad es end none y z = clash (cc)
bad es end (some x) y z =
    let i : y ≡ refusal (number_of x) (doc (place_of x)) = cc in
    rw i

module _ {s : List ℕ} {count : ℕ} {empty : Bool} {marks : List ℕ} {c : Cursor} where
  pub ended-3 : c.at.0 < length s → EndedIs s count empty c.at.0 marks (Err (refusal 3 c.at))
  unfolding ended_scan
  ended-3 l = record { is = λ es out h i j. rw (lt-ltb c.at.0 (length s) l, ended_scan) }

  module _ (l : length s ≤ c.at.0) {v : Result (Unit {0}) Refusal} (k : JudgeIs count empty 0 max_path marks v) where
    pub ended-fine : v ≡ Ok tt → EndedIs s count empty c.at.0 marks (Ok count)
    ended-fine e = record {
      is = λ es out h i j.
          ap (λ (n : ℕ). Ok n) i ∙ fine es c.at.0 (judge 0 max_path es) (sym e ∙ k.is es out h i j) ∙ ap read_of (sym (at-end s c.at.0 l es));
    }

    pub ended-bad : {y : Refusal} → v ≡ Err y → EndedIs s count empty c.at.0 marks (Err y)
    ended-bad {y} e = record {
      is = λ es out h i j.
          bad es c.at.0 (judge 0 max_path es) y (sym e ∙ k.is es out h i j) ∙ ap read_of (sym (at-end s c.at.0 l es));
    }

-- ---- the whole path text

-- the rules' path text, by its segments
path-by : (s : List ℕ) → path_text s ≡ and_then (segments_at false s (after_inline s 0)) (λ gs end. ended_scan s (elements_of gs) end)
unfolding path_text ended_scan
path-by s = refl

held-ended : (s : List ℕ) (es : List Element) (end : ℕ) (out marks : List ℕ) → Held 0 0 es out marks → HeldTexts (ended_scan s es end) out marks
unfolding ended_scan
held-ended s es end out marks h = go (ltb end (length s)) (judge 0 max_path es) (P.judge-verdict 0 max_path es)
  where
    go : (b : Bool) (o : Option Refusing) → P.Verdict (P.Fitting max_path es) o
        → HeldTexts (elim b as (λ _. Scan (List Text)) [ true ↦ refused (placed 3 end) | false ↦ judged o (texts_of es) end ]) out marks
    go true o v = tt
    go false none (P.passes q) = (es, refl, q.1, h)
    go false (some x) v = tt

module _ {s out marks out' marks' : List ℕ} {z c : Cursor} (start : z.at.0 ≡ 0) (i : EndIs s z.at.0 (after_inline s z.at.0) c)
    {j : Result Joined Refusal} (k : ElementsIs false s c.at.0 out marks out' marks' j) where
  begins : c.at.0 ≡ after_inline s 0
  begins = i.is ∙ ap (after_inline s) start

  refuses : (m : Scan (List Segment)) → segments_at false s c.at.0 ≡ m → (w : Refusal) → Err w ≡ joined_of m
      → PathIs s out' marks' (Err w)
  refuses (ok gs end) e w y = clash (cc)
  refuses (refused x) e w y =
      let b : w ≡ refusal (number_of x) (doc (place_of x)) = cc in
      let q : path_text s ≡ refused x = path-by s ∙ rw (ap (segments_at false s) (sym begins) ∙ e) in
      record { is = rw (q, b); held = rw q tt }

  pub path-refused : {w : Refusal} → j ≡ Err w → PathIs s out' marks' (Err w)
  path-refused {w} e = refuses (segments_at false s c.at.0) refl w (sym e ∙ k.is)

  whole : (m : Scan (List Segment)) → segments_at false s c.at.0 ≡ m → HeldIn m out' marks' → (v : Joined) (r : Result ℕ Refusal)
      → Ok v ≡ joined_of m → EndedIs s v.count v.empty v.next.at.0 marks' r → PathIs s out' marks' r
  whole (refused y) e h v r g w = clash (cc)
  whole (ok gs end) e h v r g w =
      let d : v ≡ elements_to (length (elements_of gs)) (any_empty (elements_of gs)) (cur end) = cc in
      let a : v.count ≡ length (elements_of gs) = ap (λ (y : Joined). y.count) d in
      let b : v.empty ≡ any_empty (elements_of gs) = ap (λ (y : Joined). y.empty) d in
      let dx : v.next.at.0 ≡ end = ap (λ (y : Joined). y.next.at.0) d in
      let q : path_text s ≡ ended_scan s (elements_of gs) end = path-by s ∙ rw (ap (segments_at false s) (sym begins) ∙ e) in
      record {
        is = w.is (elements_of gs) out' h a b ∙ ap read_of (ap (ended_scan s (elements_of gs)) dx ∙ sym q);
        held = rw q (held-ended s (elements_of gs) end out' marks' h);
      }

  pub path-whole : {v : Joined} {r : Result ℕ Refusal} → j ≡ Ok v → EndedIs s v.count v.empty v.next.at.0 marks' r → PathIs s out' marks' r
  path-whole {v} {r} e w = whole (segments_at false s c.at.0) refl k.held v r (sym e ∙ k.is) w

pub asks-elements : {s out marks : List ℕ} {at place : ℕ} {c : Cursor} → PathAsked s out marks → EndIs s at place c → ElementsAsked s c.at.0 out marks
asks-elements a i = record { short = a.short; inside = i.inside; room = omega (arith, a.room); marks-room = a.marks-room }

pub ruleset endings = (ended-3, ended-fine, ended-bad)

pub ruleset path-texts = (path-refused, path-whole)

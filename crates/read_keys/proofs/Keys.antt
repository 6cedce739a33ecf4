-- One law for each answer of the functions that read a key.
use Rattle.std.specs.Prelude.{Result, Ok, Err}
use mathlib.Core.Path.{◌≡◌, refl, sym, ◌∙◌, ap}
use mathlib.Core.Bool.{Bool, true, false, ◌&&◌}
use mathlib.Core.List.{List, [], ◌∷◌}
use mathlib.Core.Option.{none, some}
use Prim.Native.Nat.{ℕ, zero, suc, ◌+◌, ◌-◌, ◌≤◌, ◌<◌}
use native.Mathlib.Omega.{arith}
use lib.Dec.{eqb}
use lib.ListN.{length, length-map}
use Rattle.rules.specs.Sizes.{max_document, max_nesting, max_path}
use Rattle.rules.specs.Bytes.{Text, byte_at}
use Rattle.rules.specs.Refusals.{Refusal, placed, Scan, ok, refused}
use Rattle.rules.specs.Characters.{after_inline}
use Rattle.rules.specs.Pieces.{Token, starts_simple, simple_at}
use Rattle.rules.specs.Paths.{starts_include, Segment, segments_from, segments_at, Element, fresh, grown, split_text, split_from, elements_of, judge, keys_of}
use Rattle.rules.specs.Reading.{value_place, allowed_keys, field_with, field_judged, field_at}
use Rattle.theory_text.specs.Choices.{by-test}
use Rattle.theory_text.specs.Places.{inline-reached}
use Rattle.theory.specs.Lengths.{IfRead, ends, of-read, then-read, unread, simple-forward, Within, elements-within}
use Rattle.rules.specs.Paths.{sizes}
use Rattle.text_chars.specs.Cursor.{refusal}
use Rattle.text_chars.specs.declared.DocAt.{DocAt}
use Rattle.text_chars.specs.declared.Refusal.{Refusal as Refused}
use Rattle.text_chars.specs.declared.Cursor.{Cursor}
use Rattle.read_grammar.specs.Decisions.{Placed, PlaceIs}
use Rattle.text_elements.specs.Marks.Holding.{Held}
use Rattle.text_elements.specs.Marks.Judging.{JudgeIs}
use Rattle.text_elements.specs.Marks.Verdicts.{verdict-fine, verdict-bad}
use Rattle.text_paths.specs.Whole.{ElementsIs}
use Rattle.text_paths.specs.Joins.{joins, unjoined}
use Rattle.text_paths.specs.declared.Joined.{Joined}
use Rattle.read_grammar.specs.Limits.Limits.{AllowedIs}
use Rattle.doc_items.specs.Keys.{HeldKeys, key_sizes}
use Rattle.read_keys.specs.Keys.{Values, keyed, valued, JudgeKeyAsked, Judges, JudgeKeyIs, PathAsked, Paths, PathIs, KeyAsked, Keys, KeyIs}
use Rattle.read_keys.specs.declared.KeyRead.{KeyRead}

-- ---- judged

fails : (s : List ℕ) (end first allowed : ℕ) (es : List Element) (x : Refusal) → judge first allowed es ≡ some x
    → (value_at : Values) (nesting items : ℕ) → field_judged value_at s nesting end items es (judge first allowed es) ≡ refused x
unfolding field_judged
fails s end first allowed es x e value_at nesting items = rw e

module _ {s : List ℕ} {c : Cursor} {count : ℕ} {empty : Bool} {first : DocAt} {allowed : ℕ} {marks : List ℕ} {v : Result (Unit {0}) Refused}
    (k : JudgeIs count empty first.0 allowed marks v) where
  pub judged-bad : {y : Refused} → v ≡ Err y → JudgeKeyIs s c.at.0 count empty first.0 allowed marks (Err y)
  judged-bad {y} z = record {
    is = λ es out w i j.
        let (x, o, f, g) = verdict-bad first.0 allowed es y (sym z ∙ k.is es out w i j) in
        (x, fails s c.at.0 first.0 allowed es x o, f, g);
  }

  module _ (z : v ≡ Ok tt) {p : Result Cursor Refused} (h : PlaceIs (value_place s c.at.0) s c.at.0 p) where
    misplaced : (es : List Element) → 0 < length es → judge first.0 allowed es ≡ none → (x : Refusal) → value_place s c.at.0 ≡ refused x
        → (value_at : Values) (nesting items : ℕ) → field_judged value_at s nesting c.at.0 items es (judge first.0 allowed es) ≡ refused x
    unfolding field_judged field_with
    misplaced [] l e x q value_at nesting items = absurd (omega arith)
    misplaced (y ∷ ys) l e x q value_at nesting items = rw (e, q)

    pub judged-misplaced : {y : Refused} → p ≡ Err y → JudgeKeyIs s c.at.0 count empty first.0 allowed marks (Err y)
    judged-misplaced {y} e =
        let u : Placed (value_place s c.at.0) (length s) c.at.0 (Err y) = rw e at h.is in
        record {
          is = λ es out w i j.
              let (o, f, g) = verdict-fine first.0 allowed es (sym z ∙ k.is es out w i j) in
              (u.0, misplaced es f o u.0 u.1, u.2, u.3);
        }

    pub judged-fine : {d : Cursor} → p ≡ Ok d → JudgeKeyIs s c.at.0 count empty first.0 allowed marks (Ok (record { count = count; next = d }))
    judged-fine {d} e =
        let u : Placed (value_place s c.at.0) (length s) c.at.0 (Ok d) = rw e at h.is in
        record {
          is = λ es out w i j.
              let (o, f, g) = verdict-fine first.0 allowed es (sym z ∙ k.is es out w i j) in
              (u.0, u.1, o, i, f, g, u.2, u.3);
        }

pub ruleset judgeds = (judged-bad, judged-misplaced, judged-fine)

-- ---- what is read of a key

-- pieces have elements
text-some : (e : Element) (at : ℕ) (t : Text) (k : Element → List Element) → ((x : Element) → 0 < length (k x)) → 0 < length (split_text e at t k)
unfolding split_text
text-some e at [] k f = f e
text-some e at (b ∷ bs) k f =
    by-test (λ (es : List Element). 0 < length es) (eqb b 46) (λ q. omega arith) (λ q. text-some (grown e (b ∷ []) false) (at + 1) bs k f)

split-some : (e : Element) (gs : List Segment) → 0 < length (split_from e gs)
unfolding split_from
split-some e [] = omega arith
split-some e (g ∷ gs) =
    by-test (λ (es : List Element). 0 < length es) g.in_quotes (λ q. split-some (grown e g.text true) gs)
    (λ q. text-some e g.place g.text (λ x. split_from x gs) (λ x. split-some x gs))

-- a path with a piece ends behind where it begins
module _ (s : List ℕ) (key : Bool) where
  abbrev Forward : ℕ → List Segment → ℕ → Type 0
  Forward at gs end = (at ≤ end) × (0 < length gs → at < end)

  simple-read : (at : ℕ) → starts_simple s at ≡ true → IfRead (λ t end. at < end) (simple_at s at)
  simple-read at h = go (simple_at s at) refl
    where
      go : (m : Scan Token) → simple_at s at ≡ m → IfRead (λ t end. at < end) m
      go (ok t end) e = ends (simple-forward s at t end h e)
      go (refused x) e = unread

  segments-read : (n from at : ℕ) → IfRead (Forward at) (segments_from n key s from at)
  unfolding segments_from
  segments-read zero from at = unread
  segments-read (suc n) from at =
      by-test (IfRead (Forward at)) (key && eqb (byte_at s at) 36) (λ e. unread) (λ e.
      by-test (IfRead (Forward at)) (starts_simple s at)
      (λ f. then-read (simple-read at f) (λ t end l.
      let i = (inline-reached s end).0 in
      then-read (segments-read n end (after_inline s end)) (λ rest after m.
      let o : after_inline s end ≤ after = m.0 in
      ends (omega arith, λ _. omega arith))))
      (λ f. ends (omega arith, λ z. absurd (omega arith))))

  segments-forward : (at : ℕ) (gs : List Segment) (end : ℕ) → segments_at key s at ≡ ok gs end → 0 < length gs → at < end
  unfolding segments_at
  segments-forward at gs end e = (of-read (rw e at (segments-read (suc (length s)) at at))).1

-- ---- how a key is held

held-keys : (from i at end : ℕ) (es : List Element) (out marks : List ℕ) → i + length es ≤ 17 → end ≤ max_document → Within at end es
    → Held from i es out marks → HeldKeys from i (keys_of es) out marks
held-keys from i at end [] out marks l b w h = tt
held-keys from i at end (e ∷ es) out marks l b w h =
    let m = h.1 (omega arith) in
    (h.0, m.0, m.1, omega (arith, w.1), held-keys (from + length e.text) (suc i) at end es out marks (omega arith) b w.2 h.2)

key-sizes : (es : List Element) → key_sizes (keys_of es) ≡ sizes es
unfolding sizes
key-sizes [] = refl
key-sizes (e ∷ es) = ap (λ n. length e.text + n) (key-sizes es)

-- ---- a key that does not start with `include`

-- the rules' field, by the segments of its key
keyed-none : (s : List ℕ) (at end : ℕ) → segments_at true s at ≡ ok [] end → (value_at : Values) (nesting items : ℕ)
    → keyed value_at s nesting at items ≡ refused (placed 3 end)
unfolding keyed
keyed-none s at end e value_at nesting items = rw e

keyed-fail : (s : List ℕ) (at : ℕ) (x : Refusal) → segments_at true s at ≡ refused x → (value_at : Values) (nesting items : ℕ)
    → keyed value_at s nesting at items ≡ refused x
unfolding keyed
keyed-fail s at x e value_at nesting items = rw e

keyed-some : (s : List ℕ) (at end : ℕ) (gs : List Segment) → segments_at true s at ≡ ok gs end → 0 < length (elements_of gs)
    → (value_at : Values) (nesting items : ℕ)
    → keyed value_at s nesting at items
    ≡ field_judged value_at s nesting end items (elements_of gs) (judge at (allowed_keys nesting items) (elements_of gs))
unfolding keyed elements_of
keyed-some s at end [] e l value_at nesting items = absurd (omega arith)
keyed-some s at end (g ∷ gs) e l value_at nesting items = rw e

-- a field whose keys are good goes on with its value
goes_on : (s : List ℕ) (end allowed at p place : ℕ) (e : Element) (es : List Element) → judge at allowed (e ∷ es) ≡ none
    → value_place s end ≡ ok p place → (value_at : Values) (nesting items : ℕ)
    → field_judged value_at s nesting end items (e ∷ es) (judge at allowed (e ∷ es))
    ≡ valued value_at nesting place (items + suc (length (keys_of es))) (record { text = e.text; place = e.place }) (keys_of es)
unfolding field_judged field_with
goes_on s end allowed at p place e es j v value_at nesting items = rw (j, v)

none_read : (s : List ℕ) (at end : ℕ) (gs : List Segment) → segments_at true s at ≡ ok gs end → length (elements_of gs) ≡ 0
    → (value_at : Values) (nesting items : ℕ) → keyed value_at s nesting at items ≡ refused (placed 3 end)
unfolding elements_of
none_read s at end [] e l = keyed-none s at end e
none_read s at end (g ∷ gs) e l = absurd (omega (arith, split-some (fresh g.place) (g ∷ gs)))

some_read : (gs : List Segment) → 0 < length (elements_of gs) → 0 < length gs
unfolding elements_of
some_read [] l = l
some_read (g ∷ gs) l = omega arith

-- a key by its elements
module _ (s : List ℕ) (at allowed end : ℕ) (gs : List Segment) (q : segments_at true s at ≡ ok gs end) (es : List Element) (r : elements_of gs ≡ es)
    (l : 0 < length es) where
  keyed-by : (value_at : Values) (nesting items : ℕ) → allowed ≡ allowed_keys nesting items
      → keyed value_at s nesting at items ≡ field_judged value_at s nesting end items es (judge at allowed es)
  keyed-by value_at nesting items i =
      let n : 0 < length (elements_of gs) = rw r l in
      keyed-some s at end gs q n value_at nesting items
      ∙ ap (λ m. field_judged value_at s nesting end items (elements_of gs) (judge at m (elements_of gs))) (sym i)
      ∙ ap (λ (ys : List Element). field_judged value_at s nesting end items ys (judge at allowed ys)) r

  pub begins-before : at < end
  begins-before = let n : 0 < length (elements_of gs) = rw r l in segments-forward s true at gs end q (some_read gs n)

done-path : (s : List ℕ) (at allowed : ℕ) (text marks : List ℕ) (end : ℕ) (gs : List Segment) → segments_at true s at ≡ ok gs end
    → (es : List Element) → elements_of gs ≡ es → Held 0 0 es text marks → sizes es + length es + at ≤ end + 1 → end ≤ max_document → Within at end es
    → allowed ≤ max_path → (v : KeyRead) → Judges s end at allowed es (Ok v) → Paths s at allowed text marks (Ok v)
unfolding sizes
done-path s at allowed text marks end gs q [] r h z b w f v u = absurd (omega (arith, u.4))
done-path s at allowed text marks end gs q (e ∷ es) r h z b w f v u =
    let m : length (keys_of es) ≡ length es = length-map es (λ (x : Element). record { text = x.text; place = x.place }) in
    let count : v.count ≡ suc (length (keys_of es)) = omega (arith, u.3) in
    let before : at < end = begins-before s at allowed end gs q (e ∷ es) r u.4 in (
      record { text = e.text; place = e.place },
      keys_of es,
      count,
      omega (arith, u.3, u.5),
      omega (arith, u.6),
      u.7,
      held-keys 0 0 at end (e ∷ es) text marks (omega (arith, u.5)) b w h,
      omega (arith, key-sizes es, u.6),
      λ value_at nesting items i.
          keyed-by s at allowed end gs q (e ∷ es) r u.4 value_at nesting items i
          ∙ goes_on s end allowed at u.0 v.next.at.0 e es u.2 u.1 value_at nesting items
          ∙ ap (λ y. valued value_at nesting v.next.at.0 (items + y) (record { text = e.text; place = e.place }) (keys_of es)) (sym count),
    )

module _ {s : List ℕ} {at allowed : ℕ} {text marks : List ℕ} (a : PathAsked s at allowed text marks) {text₁ marks₁ : List ℕ} {j : Result Joined Refused}
    (k : ElementsIs true s at text marks text₁ marks₁ j) where
  pub path-unjoined : {y : Refused} → j ≡ Err y → PathIs s at allowed text marks text₁ marks₁ (Err y)
  path-unjoined {y} e =
      let (x, q, f, g) = unjoined k y e in
      record { is = (x, λ value_at nesting items i. keyed-fail s at x q value_at nesting items, f, g); same_text = k.same_out; same-marks = k.same-marks }

  module _ {p : Joined} (e : j ≡ Ok p) where
    pub path-none : p.count ≡ 0 → PathIs s at allowed text marks text₁ marks₁ (Err (refusal 3 p.next.at))
    path-none z =
        let none-there : length (elements_of (joins k e).gs) ≡ 0 = omega (arith, (joins k e).count) in
        record {
          is = (
            placed 3 p.next.at.0,
            λ value_at nesting items i. none_read s at p.next.at.0 (joins k e).gs (joins k e).is none-there value_at nesting items,
            refl,
            refl,
          );
          same_text = k.same_out;
          same-marks = k.same-marks;
        }

    pub asks-judged : JudgeKeyAsked s p.next.at.0 allowed marks₁
    asks-judged = record { short = a.short; inside = (joins k e).inside; few = a.few; marks-room = omega (arith, k.same-marks, a.marks-room) }

    judges : (r : Result KeyRead Refused) → 0 < p.count → Judges s p.next.at.0 at allowed (elements_of (joins k e).gs) r → Paths s at allowed text₁ marks₁ r
    judges (Err y) l u = (
      u.0,
      λ value_at nesting items i.
          keyed-by s at allowed p.next.at.0 (joins k e).gs (joins k e).is (elements_of (joins k e).gs) refl (omega (arith, (joins k e).count))
          value_at nesting items i ∙ u.1 value_at nesting items,
      u.2,
      u.3,
    )
    judges (Ok v) l u =
        let es = elements_of (joins k e).gs in
        done-path s at allowed text₁ marks₁ p.next.at.0 (joins k e).gs (joins k e).is es refl (joins k e).held (joins k e).short
        (omega (arith, (joins k e).inside, a.short)) (elements-within s true at (joins k e).gs p.next.at.0 (joins k e).is) a.few v u

    pub path-judged : {r : Result KeyRead Refused} → (p.count ≡ 0 → ⊥) → JudgeKeyIs s p.next.at.0 p.count p.empty at allowed marks₁ r → PathIs s at allowed text marks text₁ marks₁ r
    path-judged {r} z w = record {
      is = judges r (omega (arith, z)) (w.is (elements_of (joins k e).gs) text₁ (joins k e).held (joins k e).count (joins k e).empty);
      same_text = k.same_out;
      same-marks = k.same-marks;
    }

pub ruleset key-paths = (path-unjoined, path-none, path-judged)

-- ---- the whole key

-- the rules' field, by its first letters
field-by : (value_at : Values) (s : List ℕ) (nesting at items : ℕ)
    → field_at value_at s nesting at items ≡ elim (starts_include s at) [ true ↦ refused (placed 6 at) | false ↦ keyed value_at s nesting at items ]
unfolding field_at keyed
field-by value_at s nesting at items = refl

module _ {s : List ℕ} {left items : ℕ} {text marks : List ℕ} {f : Bool} {c : Cursor} (i : f ≡ starts_include s c.at.0) where
  pub key-include : f ≡ true → KeyIs s left c.at.0 items text marks text marks (Err (refusal 6 c.at))
  key-include t = record {
    is = (
      placed 6 c.at.0,
      λ value_at. field-by value_at s (max_nesting - left) c.at.0 items ∙ rw (sym i ∙ t),
      refl,
      refl,
    );
    same_text = refl;
    same-marks = refl;
  }

  module _ (t : f ≡ false) (a : KeyAsked s c.at.0 left items text marks) {m : ℕ} (h : AllowedIs left items m) where
    pub asks-path : PathAsked s c.at.0 m text marks
    asks-path = record { short = a.short; inside = a.inside; few = h.few; room = a.room; marks-room = a.marks-room }

    keys : (text₁ marks₁ : List ℕ) (r : Result KeyRead Refused) → Paths s c.at.0 m text₁ marks₁ r → Keys s left c.at.0 items text₁ marks₁ r
    keys text₁ marks₁ (Err y) u = (
      u.0,
      λ value_at. field-by value_at s (max_nesting - left) c.at.0 items ∙ rw (sym i ∙ t) (u.1 value_at (max_nesting - left) items h.is),
      u.2,
      u.3,
    )
    keys text₁ marks₁ (Ok v) u = (
      u.0,
      u.1,
      u.2,
      omega (arith, u.3, h.few),
      omega (arith, u.3, h.is, a.many),
      omega (arith, u.3, h.is, a.deep),
      u.4,
      u.5,
      u.6,
      u.7,
      λ value_at. field-by value_at s (max_nesting - left) c.at.0 items ∙ rw (sym i ∙ t) (u.8 value_at (max_nesting - left) items h.is),
    )

    pub key-path : {text₁ marks₁ : List ℕ} {r : Result KeyRead Refused} → PathIs s c.at.0 m text marks text₁ marks₁ r
        → KeyIs s left c.at.0 items text marks text₁ marks₁ r
    key-path {text₁} {marks₁} {r} k = record { is = keys text₁ marks₁ r k.is; same_text = k.same_text; same-marks = k.same-marks }

pub ruleset whole-keys = (key-include, key-path)

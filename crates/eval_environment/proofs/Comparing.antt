-- Laws of the functions that compare a name with a path's elements.
use mathlib.Core.Path.{◌≡◌, refl, sym, ap, ◌∙◌}
use Prim.Native.Nat.{ℕ, zero, suc, ◌+◌, ◌*◌, ◌-◌, ◌≤◌, ◌<◌}
use mathlib.Core.List.{List, [], ◌∷◌, ◌++◌, append-nil}
use mathlib.Core.Bool.{Bool, true, false}
use native.Mathlib.Omega.{arith}
use lib.Dec.{leb, eqb}
use Rattle.std.specs.Prelude.{Some, None}
use Rattle.std.specs.declared.option.Option.{Option as Maybe}
use lib.ListN.{length, get_or, take, drop, length-append, length-drop, take-append-drop}
use lib.Seq.{drop-cons, drop-drop, length-take-le}
use borrow.Author.Tests.{le-leb, lt-leb, eq-eqb, ne_eqb, eqb-true, eqb-false}
use Rattle.rules.specs.Bytes.{Text, same}
use Rattle.rules.specs.Unresolved.{dotted}
use Rattle.theory.specs.Layout.{same-eq}
use Rattle.text_chars.specs.Clash.{clash}
use Rattle.sheet_records.specs.Kinds.Contracts.{PairIs}
use Rattle.eval_keys.specs.Texts.{by_equal, same_not, same_more, same-less}
use Rattle.eval_environment.specs.Model.{element_c, elements_c, behind_dots}
use Rattle.eval_environment.specs.Paths.{dots-dotted}
use Rattle.eval_environment.specs.Clauses.{DotIs, Compares, ComparedIs}

-- ---- texts one behind the other

-- what begins alike is the same if the rest is
same-front : (a c d : Text) → same (a ++ c) (a ++ d) ≡ same c d
same-front [] c d = refl
same-front (x ∷ a) c d = same_more x x (a ++ c) (a ++ d) refl ∙ same-front a c d

same-other : (a b c d : Text) → length a ≡ length b → same a b ≡ false → same (a ++ c) (b ++ d) ≡ false
unfolding same
same-other [] [] c d l e = clash (cc)
same-other [] (y ∷ b) c d l e = absurd (omega arith)
same-other (x ∷ a) [] c d l e = absurd (omega arith)
same-other (x ∷ a) (y ∷ b) c d l e =
    by_equal (same ((x ∷ a) ++ c) ((y ∷ b) ++ d) ≡ false) x y
    (λ q. same_more x y (a ++ c) (b ++ d) q ∙ same-other a b c d (omega arith) (sym (same_more x y a b q) ∙ e))
    (λ n. same-less x y (a ++ c) (b ++ d) n)

same-short : (a b d : Text) → length a < length b → same a (b ++ d) ≡ false
same-short a b d l = same_not a (b ++ d) (λ q. let z = ap length q in omega (arith, length-append b d))

-- ---- one element

pub dot-first : {name : List ℕ} {used : ℕ} → used ≡ 0 → DotIs name used true
dot-first e = record { is = rw e }

pub dot_before : (name : List ℕ) (used : ℕ) → (used ≡ 0 → ⊥) → DotIs name used (eqb (get_or name (used - 1) 0) 46)
dot_before name zero n = absurd (n refl)
dot_before name (suc u) n = let e : suc u - 1 ≡ u = omega arith in record { is = rw e }

pub ruleset dots = (dot-first, dot_before)

module _ (X : List ℕ) (at n : ℕ) where
  element-out : length X < at + n → behind_dots (element_c X at n []) ≡ []
  unfolding element_c behind_dots
  element-out h = rw (element_c, lt-leb (at + n) (length X) h) refl

  element-in : at + n ≤ length X → behind_dots (element_c X at n []) ≡ 46 ∷ take n (drop at X)
  unfolding element_c behind_dots
  element-in h = rw (element_c, le-leb (at + n) (length X) h) (append-nil (46 ∷ take n (drop at X)))

  element-size : at + n ≤ length X → length (take n (drop at X)) ≡ n
  element-size h = length-take-le n (drop at X) (omega (arith, length-drop at X))

module _ (X : List ℕ) (at n : ℕ) (name : List ℕ) (used : ℕ) where
  pub compared-none : length X < at + n → used ≤ length name + 1 → ComparedIs X at n name used (Some used)
  compared-none h u = record { is = (u, λ rest. rw (element-out X at n h)) }

  module _ (h : at + n ≤ length X) where
    -- beside a dot and the element
    beside : (rest : Text) {b : Bool} → same (drop used (46 ∷ name)) ((46 ∷ take n (drop at X)) ++ rest) ≡ b
        → same (drop used (46 ∷ name)) (behind_dots (element_c X at n []) ++ rest) ≡ b
    beside rest e = ap (λ (t : Text). same (drop used (46 ∷ name)) (t ++ rest)) (element-in X at n h) ∙ e

    pub compared-short : used ≤ length name + 1 → length name < used + n → ComparedIs X at n name used None
    compared-short u k = record {
      is = λ rest. beside rest (same-short (drop used (46 ∷ name)) (46 ∷ take n (drop at X)) rest
          (omega (arith, element-size X at n h, length-drop used (46 ∷ name))));
    }

    module _ (k : used + n ≤ length name) where
      left : drop used (46 ∷ name) ≡ get_or (46 ∷ name) used 0 ∷ drop used name
      left = drop-cons (46 ∷ name) used 0 (omega arith)

      left-more : drop used name ≡ take n (drop used name) ++ drop (used + n) name
      left-more = sym (take-append-drop n (drop used name)) ∙ ap (λ (t : List ℕ). take n (drop used name) ++ t) (drop-drop n used name)

      module _ {f : Bool} (d : DotIs name used f) where
        pub compared-other : f ≡ false → ComparedIs X at n name used None
        compared-other e = record {
          is = λ rest. beside rest
              (ap (λ (t : List ℕ). same t ((46 ∷ take n (drop at X)) ++ rest)) left
              ∙ same-less (get_or (46 ∷ name) used 0) 46 (drop used name) (take n (drop at X) ++ rest)
              (eqb-false (get_or (46 ∷ name) used 0) 46 (sym d.is ∙ e)));
        }

        module _ (e : f ≡ true) {g : Bool} (s : g ≡ same (take (used + n - used) (drop used name)) (take (at + n - at) (drop at X))) where
          texts : g ≡ same (take n (drop used name)) (take n (drop at X))
          texts =
              let y : used + n - used ≡ n = omega arith in
              let z : at + n - at ≡ n = omega arith in
              rw (y, z) at s

          -- behind the dot
          behind : (rest : Text) {b : Bool} → same (take n (drop used name) ++ drop (used + n) name) (take n (drop at X) ++ rest) ≡ b
              → same (drop used (46 ∷ name)) (behind_dots (element_c X at n []) ++ rest) ≡ b
          behind rest q =
              beside rest
              (ap (λ (t : List ℕ). same t ((46 ∷ take n (drop at X)) ++ rest)) left
              ∙ same_more (get_or (46 ∷ name) used 0) 46 (drop used name) (take n (drop at X) ++ rest)
              (eqb-true (get_or (46 ∷ name) used 0) 46 (sym d.is ∙ e))
              ∙ ap (λ (t : List ℕ). same t (take n (drop at X) ++ rest)) left-more ∙ q)

          pub compared_same : g ≡ true → ComparedIs X at n name used (Some (used + 1 + n))
          compared_same q =
              let t : take n (drop used name) ≡ take n (drop at X) = same-eq (take n (drop used name)) (take n (drop at X)) (sym texts ∙ q) in
              let z : used + 1 + n ≡ suc (used + n) = omega arith in
              record {
                is = (
                  omega arith,
                  λ rest. rw z (behind rest
                      (ap (λ (y : Text). same (y ++ drop (used + n) name) (take n (drop at X) ++ rest)) t
                      ∙ same-front (take n (drop at X)) (drop (used + n) name) rest)),
                );
              }

          pub compared-differ : g ≡ false → ComparedIs X at n name used None
          compared-differ q = record {
            is = λ rest. behind rest
                (same-other (take n (drop used name)) (take n (drop at X)) (drop (used + n) name) rest
                (length-take-le n (drop used name) (omega (arith, length-drop used name)) ∙ sym (element-size X at n h)) (sym texts ∙ q));
          }

pub ruleset compares = (arith, compared-none, compared-short, compared-other, compared_same, compared-differ)

-- ---- all elements

dots-element : (X : List ℕ) (at n : ℕ) (ts : List Text)
    → behind_dots (element_c X at n ts) ≡ behind_dots (element_c X at n []) ++ behind_dots ts
unfolding element_c behind_dots
dots-element X at n ts = go (leb (at + n) (length X)) refl
  where
    go : (t : Bool) → leb (at + n) (length X) ≡ t → behind_dots (element_c X at n ts) ≡ behind_dots (element_c X at n []) ++ behind_dots ts
    go true e = rw (element_c, e) (ap (λ (s : Text). s ++ behind_dots ts) (sym (append-nil (46 ∷ take n (drop at X)))))
    go false e = rw (element_c, e) refl

-- a name that is not empty is the elements joined by dots if a dot and the name are the elements behind dots
dotted-same : (name : List ℕ) (ts : List Text) → 0 < length name → same name (dotted ts) ≡ same (46 ∷ name) (behind_dots ts)
unfolding same dotted behind_dots
dotted-same [] ts h = absurd (omega arith)
dotted-same (c ∷ cs) [] h = refl
dotted-same (c ∷ cs) (t ∷ ts) h =
    ap (λ (y : Text). same (c ∷ cs) y) (dots-dotted (t ∷ ts)) ∙ sym (same_more 46 46 (c ∷ cs) (t ++ behind_dots ts) refl)

-- beside no element stands nothing
none_left : (l : List ℕ) → length l ≡ 0 → same l [] ≡ true
unfolding same
none_left [] e = refl
none_left (x ∷ l) e = absurd (omega arith)

some_left : (l : List ℕ) → 0 < length l → same l [] ≡ false
unfolding same
some_left [] h = absurd (omega arith)
some_left (x ∷ l) h = refl

at-end : (name : List ℕ) (used : ℕ) → used ≤ length name + 1 → same (drop used (46 ∷ name)) [] ≡ eqb used (length name + 1)
at-end name used u =
    let l = length-drop used (46 ∷ name) in
    by_equal (same (drop used (46 ∷ name)) [] ≡ eqb used (length name + 1)) used (length name + 1)
    (λ e. none_left (drop used (46 ∷ name)) (omega arith) ∙ sym (eq-eqb used (length name + 1) e))
    (λ n. some_left (drop used (46 ∷ name)) (omega (arith, n)) ∙ sym (ne_eqb used (length name + 1) n))

-- What is left of a dot and the name, beside what is left of the path's elements behind so many of them.
pub record Comparing (X : List ℕ) (at ends count : ℕ) (name : List ℕ) (i from used : ℕ) : Type 0 where
  pub is : same (46 ∷ name) (behind_dots (elements_c X at ends count 0))
      ≡ same (drop used (46 ∷ name)) (behind_dots (elements_c X at (ends + 2 * i) (count - i) from))
  pub upto : used ≤ length name + 1
  pub low : i ≤ count
  pub begin : from ≤ 65792
  pub far : ends ≤ 131070
  pub many : count < 65536
  pub first : at < 65536

pub comparing-start : {X : List ℕ} {at count : ℕ} (len : ℕ) {name : List ℕ} → at < 65536 → len < 65536 → count < 65536
    → Comparing X at (at + len) count name 0 0 0
comparing-start {X} {at} {count} len {name} h k l =
    let z : at + len + 2 * 0 ≡ at + len = omega arith in
    let y : count - 0 ≡ count = omega arith in
    record {
      is = rw (z, y) refl;
      upto = omega arith;
      low = omega arith;
      begin = omega arith;
      far = omega arith;
      many = l;
      first = h;
    }

module _ {X : List ℕ} {at ends count : ℕ} {name : List ℕ} {i from used : ℕ} (I : Comparing X at ends count name i from used) where
  pub path-end : count ≤ i → 0 < length name → eqb used (length name + 1) ≡ same name (dotted (elements_c X at ends count 0))
  unfolding elements_c behind_dots
  path-end h some =
      let z : count - i ≡ 0 = omega arith in
      sym
      (dotted-same name (elements_c X at ends count 0) some ∙ I.is
      ∙ ap (λ (n : ℕ). same (drop used (46 ∷ name)) (behind_dots (elements_c X at (ends + 2 * i) n from))) z ∙ at-end name used I.upto)

  module _ {end n : ℕ} (h : i < count) (p : PairIs X (ends + 2 * i) end) (e : n ≡ end - from) {r : Maybe ℕ} (c : ComparedIs X (at + from) n name used r) where
    -- the next element, and those behind it
    next : behind_dots (elements_c X at (ends + 2 * i) (count - i) from)
        ≡ behind_dots (element_c X (at + from) n []) ++ behind_dots (elements_c X at (ends + 2 * (i + 1)) (count - (i + 1)) end)
    unfolding elements_c
    next =
        let rest = elements_c X at (ends + 2 * i + 2) (count - (i + 1)) end in
        let m : count - i ≡ suc (count - (i + 1)) = omega arith in
        let y : ends + 2 * i + 2 ≡ ends + 2 * (i + 1) = omega arith in
        sym
        (ap (λ (q : ℕ). behind_dots (element_c X (at + from) n []) ++ behind_dots (elements_c X at q (count - (i + 1)) end)) (sym y)
        ∙ sym (dots-element X (at + from) n rest)
        ∙ ap (λ (q : ℕ). behind_dots (element_c X (at + from) q rest)) e
        ∙ ap (λ (q : ℕ). behind_dots (element_c X (at + from) (q - from) (elements_c X at (ends + 2 * i + 2) (count - (i + 1)) q))) p.is
        ∙ ap (λ (q : ℕ). behind_dots (elements_c X at (ends + 2 * i) q from)) (sym m))

    pub path-differ : r ≡ None → 0 < length name → false ≡ same name (dotted (elements_c X at ends count 0))
    path-differ d some =
        let z : Compares X (at + from) n name used None = rw d at c.is in
        sym
        (dotted-same name (elements_c X at ends count 0) some ∙ I.is
        ∙ ap (λ (t : Text). same (drop used (46 ∷ name)) t) next ∙ z (behind_dots (elements_c X at (ends + 2 * (i + 1)) (count - (i + 1)) end)))

    pub comparing-step : {more : ℕ} → r ≡ Some more → Comparing X at ends count name (i + 1) end more
    comparing-step {more} d =
        let z : Compares X (at + from) n name used (Some more) = rw d at c.is in
        record {
          is = I.is ∙ ap (λ (t : Text). same (drop used (46 ∷ name)) t) next ∙ z.1 (behind_dots (elements_c X at (ends + 2 * (i + 1)) (count - (i + 1)) end));
          upto = z.0;
          low = omega arith;
          begin = p.small;
          far = I.far;
          many = I.many;
          first = I.first;
        }

  pub comparing-ends : ends + 2 * i ≤ 1048576
  comparing-ends = let n = I.low in let m = I.many in let f = I.far in omega arith

  pub comparing-at : at + from ≤ 1048576
  comparing-at = let h = I.begin in let f = I.first in omega arith

  pub comparing-len : {end n : ℕ} → PairIs X (ends + 2 * i) end → n ≡ end - from → n ≤ 1048576
  comparing-len p e = let s = p.small in omega arith

pub ruleset comparisons = (arith, comparing-start, path-end, path-differ, comparing-step, comparing-ends, comparing-at, comparing-len)

-- Laws of the functions: what each answer is, by what its place in the code knows.
use mathlib.Core.Path.{◌≡◌, refl, sym, ap, subst, ◌∙◌}
use mathlib.Core.Bool.{Bool, true, false, cond}
use mathlib.Core.List.{List}
use Prim.Native.Nat.{ℕ, zero, suc, ◌+◌, ◌-◌, ◌*◌, ◌/◌, ◌%◌, ◌≤◌, ◌<◌}
use native.Mathlib.Omega.{arith}
use mir.Syntax.{w64}
use mir.Val.{Fits}
use lib.ListN.{length, get_or, get_or-eq_default}
use lib.Dec.{ltb, eqb}
use borrow.Author.Tests.{lt-ltb, le-ltb, le-leb, lt-leb, eq-eqb, ne_eqb, ltb-true, ltb-false}
use Rattle.sheet_runs.specs.Clauses.{RunIs}
use Rattle.sheet_forms.specs.Model.{shape_of, end_by, end_c, member_of, count_n, count_c, members_c, text_c, head_c, counted_c, key_c, record_by, record_c}
use Rattle.sheet_forms.specs.Clauses.{Wide, ShapeIs, PairIs, EndIs, CountIs, TextIs, HeadIs, CountedIs, KeyIs, RecordIs, SizeIs, TextLenIs}
use Rattle.sheet_forms.specs.Ends.{count-end, count-step, count-run}
use Rattle.sheet_forms.specs.declared.Form.{Form}
use Rattle.sheet_forms.specs.declared.Shape.{Shape}
use Rattle.sheet_forms.specs.declared.Record.{Record}

module _ {b : ℕ} where
  pub shape-plain : b < 4 → ShapeIs b Shape.Plain
  unfolding shape_of
  shape-plain h = record { is = rw (lt-ltb b 4 h) }

  module _ (h : 4 ≤ b) where
    pub shape-word : b < 6 → ShapeIs b Shape.Word
    unfolding shape_of
    shape-word i = record { is = rw (le-ltb b 4 h, lt-ltb b 6 i) }

    module _ (i : 6 ≤ b) where
      pub shape-head : b < 8 → ShapeIs b Shape.Head
      unfolding shape_of
      shape-head j = record { is = rw (le-ltb b 4 h, le-ltb b 6 i, lt-ltb b 8 j) }

      pub shape-key : 8 ≤ b → b ≡ 8 → ShapeIs b Shape.Key
      unfolding shape_of
      shape-key j e = record { is = rw (le-ltb b 4 h, le-ltb b 6 i, le-ltb b 8 j, eq-eqb b 8 e) }

      pub shape-other : 8 ≤ b → (b ≡ 8 → ⊥) → ShapeIs b Shape.Plain
      unfolding shape_of
      shape-other j e = record { is = rw (le-ltb b 4 h, le-ltb b 6 i, le-ltb b 8 j, ne_eqb b 8 e) }

pub ruleset shape-laws = (shape-plain, shape-word, shape-head, shape-key, shape-other)

-- ---- the end of a record

pub byte-out : (s : List ℕ) (p : ℕ) → length s ≤ p → 0 ≡ get_or s p 0
byte-out s p h = sym (get_or-eq_default s 0 h)

pub pair_is : (s : List ℕ) (p : ℕ) {h l x y : ℕ} → h ≡ get_or s p 0 → l ≡ get_or s (p + 1) 0 → Wide h x → Wide l y → PairIs s p (x * 256 + y)
pair_is s p e f i j = record { is = rw (i.is, j.is, e, f); small = omega (arith, i.small, j.small) }

ends : (s : List ℕ) (p : ℕ) {b : ℕ} {k : Shape} (j : Shape) → b ≡ get_or s p 0 → ShapeIs b k → k ≡ j → end_by j s p ≡ end_c s p
unfolding end_c
ends s p j e f i = rw (← e, ← f.is, i)

module _ {s : List ℕ} {p b : ℕ} {k : Shape} (e : b ≡ get_or s p 0) (f : ShapeIs b k) where
  pub end-plain : k ≡ Shape.Plain → EndIs s p (p + 1)
  end-plain i = record { is = ends s p Shape.Plain e f i; low = omega arith; high = omega arith }

  pub end-word : k ≡ Shape.Word → EndIs s p (p + 5)
  end-word i = record { is = ends s p Shape.Word e f i; low = omega arith; high = omega arith }

  pub end-key : k ≡ Shape.Key → EndIs s p (p + 5)
  end-key i = record { is = ends s p Shape.Key e f i; low = omega arith; high = omega arith }

  pub end-head : {n : ℕ} → k ≡ Shape.Head → PairIs s (p + 1) n → EndIs s p (p + 3 + n)
  end-head {n} i j = record { is = ap (λ (m : ℕ). p + 3 + m) j.is ∙ ends s p Shape.Head e f i; low = omega arith; high = omega (arith, j.small) }

pub ruleset end-laws = (end-plain, end-word, end-key, end-head)

-- ---- members counted

module _ (n b : ℕ) where
  pub key-alone : b ≡ 8 → n ≡ n + member_of b
  key-alone e = rw (eq-eqb b 8 e) (omega arith)

  pub one-member : (b ≡ 8 → ⊥) → n + 1 ≡ n + member_of b
  one-member e = rw (ne_eqb b 8 e)

pub ruleset member-laws = (key-alone, one-member)

-- those so far, and those still to count
pub record Counting (s : List ℕ) (from end p n : ℕ) : Type 0 where
  pub fuel : ℕ
  pub enough : end - p ≤ fuel
  pub is : count_c s end from ≡ n + count_n fuel s end p
  pub few : n ≤ p

module _ {s : List ℕ} {from end : ℕ} where
  pub counting-start : Counting s from end from 0
  unfolding count_c
  counting-start = record { fuel = end - from; enough = omega arith; is = omega arith; few = omega arith }

  module _ {p n : ℕ} (I : Counting s from end p n) where
    pub counting-end : end ≤ p → CountIs s from end n
    counting-end l = record { is = omega (arith, I.is, count-end s end I.fuel p l) }

    -- a run more
    with-run : {q : ℕ} → RunIs s p end q → Counting s from end q (n + (q - p))
    with-run {q} u = go (ltb p q) refl
      where
        go : (t : Bool) → ltb p q ≡ t → Counting s from end q (n + (q - p))
        go true e =
            let l = ltb-true p q e in
            let h = u.high l in
            let k = q - p in
            let f : p + k ≡ q = omega arith in
            let w = I.fuel in
            let g : count_n w s end p ≡ k + count_n (w - k) s end q =
            count-run s end k w p (omega (arith, I.enough)) (omega arith) (λ i x y. u.plain i x (omega arith)) ∙ ap (λ (j : ℕ). k + count_n (w - k) s end j) f in
            record { fuel = w - k; enough = omega (arith, I.enough); is = omega (arith, I.is); few = omega (arith, I.few) }
        go false e =
            let z : p ≡ q = omega (arith, ltb-false p q e, u.low) in
            let y : n ≡ n + (q - p) = omega arith in
            subst (λ (m : ℕ). Counting s from end q m) y (subst (λ (j : ℕ). Counting s from end j n) z I)

    pub counting-near : p < end → end ≤ 1099511627776 → n ≤ 1099511627776
    counting-near l m = omega (arith, I.few)

    one-step : {b m q : ℕ} → p < end → b ≡ get_or s p 0 → m ≡ n + member_of b → EndIs s p q → Counting s from end q m
    one-step {b} {m} {q} l e f g = go I.fuel I.enough I.is
      where
        small : (c : ℕ) → member_of c ≤ 1
        small c = go (eqb c 8)
          where
            go : (t : Bool) → cond t 0 1 ≤ 1
            go true = omega arith
            go false = omega arith

        go : (w : ℕ) → end - p ≤ w → count_c s end from ≡ n + count_n w s end p → Counting s from end q m
        go zero o i = absurd (omega arith)
        go (suc w) o i =
            let h : count_n (suc w) s end p ≡ member_of b + count_n w s end q =
            count-step s end w p q (member_of b) (count_n w s end q) l (ap member_of (sym e)) (sym g.is) refl in
            record { fuel = w; enough = omega (arith, g.low); is = omega arith; few = omega (arith, g.low, I.few, small b) }

  module _ {p n : ℕ} (I : Counting s from end p n) (l : p < end) {q r : ℕ} (g : EndIs s p q) (u : RunIs s q end r) where
    pub counting-less : end - r < end - p
    counting-less = omega (arith, g.low, u.low)

    -- a record, and a run behind it
    pub counting-step : {b m : ℕ} → b ≡ get_or s p 0 → m ≡ n + member_of b → Counting s from end r (m + (r - q))
    counting-step e f = with-run (one-step I l e f g) u

    pub counting-fits : {b m : ℕ} → b ≡ get_or s p 0 → m ≡ n + member_of b → end ≤ 1099511627776 → Fits w64 (m + (r - q))
    counting-fits e f h = record { fits = omega (arith, (counting-step e f).few, reach (ltb q r) refl, g.high) }
      where
        reach : (t : Bool) → ltb q r ≡ t → r ≤ 1099511627776 + q
        reach true z = omega (arith, u.high (ltb-true q r z))
        reach false z = omega (arith, ltb-false q r z)

pub ruleset count-laws = (counting-start, counting-end, counting-near, counting-less, counting-step, counting-fits)

pub members-are : {s : List ℕ} {p e n : ℕ} → EndIs s p e → CountIs s (p + 3) e n → n ≡ members_c s p
unfolding members_c
members-are e c = c.is ∙ rw e.is

-- ---- one record

shaped : (form : Form) (s : List ℕ) (len p t : ℕ) (k j : Shape) → p < len → ShapeIs (get_or s p 0) k → k ≡ j → record_by form j s len p t ≡ record_c form s len p t
unfolding record_c
shaped form s len p t k j h e i = rw (lt-leb len p h, ← e.is, i)

module _ {s : List ℕ} {len p : ℕ} where
  pub text-cut : {t : ℕ} → p < len → len - p < 5 → TextIs s len p t Record.End
  unfolding text_c
  text-cut i h = record { is = rw (lt-ltb (len - p) 5 h); fits = omega arith }

  pub text-five : {t c d : ℕ} → 5 ≤ len - p → c ≡ t / 256 % 256 → d ≡ t % 256
      → TextIs s len p t (Record.Five (get_or s p 0) c d (get_or s (p + 3) 0) (get_or s (p + 4) 0))
  unfolding text_c
  text-five h e f = record { is = rw (le-ltb (len - p) 5 h, e, f); fits = omega arith }

  pub head-cut : p < len → len - p < 3 → HeadIs s len p Record.End
  unfolding head_c
  head-cut i h = record { is = rw (lt-ltb (len - p) 3 h); fits = omega arith }

  pub head_three : 3 ≤ len - p → HeadIs s len p (Record.Three (get_or s p 0) (get_or s (p + 1) 0) (get_or s (p + 2) 0))
  unfolding head_c
  head_three h = record { is = rw (le-ltb (len - p) 3 h); fits = omega arith }

  pub counted-cut : p < len → len - p < 3 → CountedIs s len p Record.End
  unfolding counted_c
  counted-cut i h = record { is = rw (lt-ltb (len - p) 3 h); fits = omega arith }

  pub counted-three : {n c d : ℕ} → 3 ≤ len - p → n ≡ members_c s p → c ≡ n / 256 % 256 → d ≡ n % 256 → CountedIs s len p (Record.Three (get_or s p 0) c d)
  unfolding counted_c
  counted-three h e f g = record { is = rw (le-ltb (len - p) 3 h, f, g, e); fits = omega arith }

  pub key-cut : p < len → len - p < 5 → KeyIs s len p Record.End
  unfolding key_c
  key-cut i h = record { is = rw (lt-ltb (len - p) 5 h); fits = omega arith }

  pub key-five : 5 ≤ len - p
      → KeyIs s len p (Record.Five (get_or s p 0) (get_or s (p + 1) 0) (get_or s (p + 2) 0) (get_or s (p + 3) 0) (get_or s (p + 4) 0))
  unfolding key_c
  key-five h = record { is = rw (le-ltb (len - p) 5 h); fits = omega arith }

  module _ {form : Form} where
    pub record-end : {t : ℕ} → len ≤ p → RecordIs form s len p t Record.End
    unfolding record_c
    record-end h = record { is = rw (le-leb len p h); fits = λ i. omega arith }

    module _ {t : ℕ} {k : Shape} (h : p < len) (e : ShapeIs (get_or s p 0) k) where
      pub record-plain : k ≡ Shape.Plain → RecordIs form s len p t (Record.One (get_or s p 0))
      unfolding record_by
      record-plain i = record { is = shaped form s len p t k Shape.Plain h e i; fits = λ q. omega arith }

      pub record-kept-head : {r : Record} → k ≡ Shape.Head → form ≡ Form.Kept → HeadIs s len p r → RecordIs form s len p t r
      unfolding record_by
      record-kept-head i j f = record { is = f.is ∙ ap (λ (q : Form). record_by q Shape.Head s len p t) (sym j) ∙ shaped form s len p t k Shape.Head h e i; fits = λ q. f.fits }

      pub record-public-head : {r : Record} → k ≡ Shape.Head → form ≡ Form.Public → CountedIs s len p r → RecordIs form s len p t r
      unfolding record_by
      record-public-head i j f = record { is = f.is ∙ ap (λ (q : Form). record_by q Shape.Head s len p t) (sym j) ∙ shaped form s len p t k Shape.Head h e i; fits = λ q. f.fits }

      pub record-word : {r : Record} → k ≡ Shape.Word → TextIs s len p t r → RecordIs form s len p t r
      unfolding record_by
      record-word i f = record { is = f.is ∙ shaped form s len p t k Shape.Word h e i; fits = λ q. f.fits }

      pub record-public-key : {r : Record} → k ≡ Shape.Key → form ≡ Form.Public → TextIs s len p t r → RecordIs form s len p t r
      unfolding record_by
      record-public-key i j f = record { is = f.is ∙ ap (λ (q : Form). record_by q Shape.Key s len p t) (sym j) ∙ shaped form s len p t k Shape.Key h e i; fits = λ q. f.fits }

      pub record-kept-key : {r : Record} → k ≡ Shape.Key → form ≡ Form.Kept → KeyIs s len p r → RecordIs form s len p t r
      unfolding record_by
      record-kept-key i j f = record { is = f.is ∙ ap (λ (q : Form). record_by q Shape.Key s len p t) (sym j) ∙ shaped form s len p t k Shape.Key h e i; fits = λ q. f.fits }

pub ruleset text-laws = (text-cut, text-five)

pub ruleset head-laws = (head-cut, head_three)

pub ruleset counted-laws = (counted-cut, counted-three)

pub ruleset key_laws = (key-cut, key-five)

pub ruleset record-laws = (record-end, record-plain, record-kept-head, record-public-head, record-word, record-public-key, record-kept-key)

module _ {r : Record} where
  pub size-end : r ≡ Record.End → SizeIs r 0
  size-end e = record { is = rw e }

  pub size-one : {b : ℕ} → r ≡ Record.One b → SizeIs r 1
  size-one e = record { is = rw e }

  pub size-three : {b c d : ℕ} → r ≡ Record.Three b c d → SizeIs r 3
  size-three e = record { is = rw e }

  pub size-five : {b c d e f : ℕ} → r ≡ Record.Five b c d e f → SizeIs r 5
  size-five e = record { is = rw e }

  pub text-len-end : r ≡ Record.End → TextLenIs r 0
  text-len-end e = record { is = rw e; small = omega arith }

  pub text-len-one : {b : ℕ} → r ≡ Record.One b → TextLenIs r 0
  text-len-one e = record { is = rw e; small = omega arith }

  pub text-len-three : {b c d : ℕ} → r ≡ Record.Three b c d → TextLenIs r 0
  text-len-three e = record { is = rw e; small = omega arith }

  pub text-len-five : {b c d e f x y : ℕ} → r ≡ Record.Five b c d e f → Wide e x → Wide f y → TextLenIs r (x * 256 + y)
  text-len-five i j k = record { is = rw (i, j.is, k.is); small = omega (arith, j.small, k.small) }

pub ruleset size-laws = (size-end, size-one, size-three, size-five)

pub ruleset text-len-laws = (text-len-end, text-len-one, text-len-three, text-len-five)

-- The laws of writing a key's items.
use mathlib.Core.Path.{◌≡◌, refl, sym, ◌∙◌, ap}
use mathlib.Core.Bool.{Bool, true, false}
use mathlib.Core.List.{List, [], ◌∷◌}
use Prim.Native.Nat.{ℕ, suc, ◌+◌, ◌*◌, ◌-◌, ◌≤◌, ◌<◌}
use native.Mathlib.Numerals.{add-one}
use native.Mathlib.Omega.{arith}
use lib.Dec.{ltb}
use lib.ListN.{length, get_or}
use borrow.Author.Tests.{ltb-true, ltb-false}
use Rattle.rules.specs.Tree.{Key}
use Rattle.text_chars.specs.declared.DocAt.{DocAt}
use Rattle.text_chars.specs.declared.TextAt.{TextAt}
use Rattle.text_chars.specs.declared.TextLen.{TextLen}
use Rattle.text_elements.specs.Marks.Marks.{end_of, place_of}
use Rattle.doc_items.specs.Writing.{ItemIs}
use Rattle.doc_items.specs.Keys.{HeldKeys, key_sizes}
use Rattle.read_values.specs.Fields.Keys.{from_of, KeyItem, KeyAsked, KeyIs, PutAsked, PutIs}

-- ---- what the marks of a key are

pub record Marked (marks : List ℕ) (j end : ℕ) : Type 0 where
  pub begins : from_of marks j ≤ end_of marks j
  pub ends : end_of marks j ≤ end
  pub place : place_of marks j ≤ 32768

marked : (ks : List Key) (x marks : List ℕ) (from i j : ℕ) → from_of marks i ≡ from → HeldKeys from i ks x marks → i ≤ j → j < i + length ks
    → Marked marks j (from + key_sizes ks)
marked [] x marks from i j e h l u = absurd (omega arith)
marked (k ∷ ks) x marks from i j e h l u =
    go (ltb i j) refl (λ v. marked ks x marks (from + length k.text) (suc i) j h.1 h.4 (omega arith) (omega arith))
  where
    go : (t : Bool) → ltb i j ≡ t → (i < j → Marked marks j (from + length k.text + key_sizes ks))
        → Marked marks j (from + (length k.text + key_sizes ks))
    go true t m =
        let r = m (ltb-true i j t) in
        record { begins = r.begins; ends = omega (arith, r.ends); place = r.place }
    go false t m =
        let v : j ≤ i = ltb-false i j t in
        let q : j ≡ i = omega arith in
        let a = h.1 in
        let b = h.2 in
        let c = h.3 in
        rw q (record { begins = omega arith; ends = omega arith; place = omega arith })

-- ---- the item of an element

pub key-is : {marks before after : List ℕ} {j size kind : ℕ} {from base text end : TextAt} {textlen : TextLen} {place : DocAt}
    → end.0 ≡ end_of marks j → place.0 ≡ place_of marks j
    → ItemIs j (record {
      kind = kind;
      size = size - j;
      key = record { 0 = base.0 + from.0 };
      keylen = record { 0 = end.0 - from.0 };
      text = text;
      textlen = textlen;
      place = place;
      number = 0;
    }) before after
    → KeyIs marks before after j from.0 size base.0 kind text.0 textlen.0
key-is {from = from} e d w = record {
  item = record {
    kind = w.kind;
    size = w.size;
    key = w.key;
    keylen = w.keylen ∙ ap (λ (n : ℕ). n - from.0) e;
    text = w.text;
    textlen = w.textlen;
    place = w.place ∙ d;
    number = w.number;
  };
  below = w.below;
  above = w.above;
  kept = w.kept;
}

-- ---- the loop: the items up to j are written

pub record Putting (marks before table : List ℕ) (count size base kind text textlen j from : ℕ) : Type 0 where
  pub asked : PutAsked marks before count size base kind text textlen
  pub begins : from ≡ from_of marks j
  pub inside : j < count
  pub upper : (i : ℕ) → i < j → KeyItem marks table i (from_of marks i) size base 7 0 0
  pub above : (k : ℕ) → 8 * j ≤ k → get_or table k 0 ≡ get_or before k 0
  pub kept : length table ≡ length before

pub put-start : {marks before : List ℕ} {count size base kind text textlen : ℕ} → PutAsked marks before count size base kind text textlen
    → Putting marks before before count size base kind text textlen 0 0
put-start a = record {
  asked = a;
  begins = refl;
  inside = omega (arith, a.some);
  upper = λ i l. absurd (omega arith);
  above = λ k l. refl;
  kept = refl;
}

-- an item that is written leaves those before it
kept-item : {marks before after : List ℕ} {i j from size base k o z from' k' o' z' : ℕ} → KeyIs marks before after j from' size base k' o' z' → i < j
    → KeyItem marks before i from size base k o z → KeyItem marks after i from size base k o z
kept-item {i = i} w l m = record {
  kind = w.below (8 * i) (omega arith) ∙ m.kind;
  size = w.below (8 * i + 1) (omega arith) ∙ m.size;
  key = w.below (8 * i + 2) (omega arith) ∙ m.key;
  keylen = w.below (8 * i + 3) (omega arith) ∙ m.keylen;
  text = w.below (8 * i + 4) (omega arith) ∙ m.text;
  textlen = w.below (8 * i + 5) (omega arith) ∙ m.textlen;
  place = w.below (8 * i + 6) (omega arith) ∙ m.place;
  number = w.below (8 * i + 7) (omega arith) ∙ m.number;
}

module _ {marks before table : List ℕ} {count size base kind text textlen j from : ℕ}
    (p : Putting marks before table count size base kind text textlen j from) where
  any-asked : (k o z : ℕ) → k < 65536 → o < 65536 → z < 65536 → KeyAsked marks table j from size base k o z
  any-asked k o z u v w =
      let a = p.asked in
      let m = marked a.keys a.x marks 0 0 j refl a.held (omega arith) (omega (arith, a.counted, p.inside)) in
      record {
        room = omega (arith, a.room, p.kept, p.inside);
        marks-room = omega (arith, a.marks-room, a.few, p.inside);
        begins = omega (arith, m.begins, p.begins);
        text-ends = omega (arith, m.ends, a.base-fits);
        place-fits = omega (arith, m.place);
        inside = omega (arith, p.inside, a.sized);
        size_fits = a.size_fits;
        kind_fits = u;
        text-fits = v;
        textlen-fits = w;
      }

  pub upper-asked : j < count - 1 → KeyAsked marks table j from size base 7 0 0
  upper-asked l = any-asked 7 0 0 (omega arith) (omega arith) (omega arith)

  pub last-asked : count - 1 ≤ j → KeyAsked marks table (count - 1) from size base kind text textlen
  last-asked l =
      let q : count - 1 ≡ j = omega (arith, p.inside) in
      rw q (any-asked kind text textlen p.asked.kind_fits p.asked.text-fits p.asked.textlen-fits)

  pub in-marks : 2 * j + 1 < length marks
  in-marks = omega (arith, p.asked.marks-room, p.asked.few, p.inside)

  module _ {table' : List ℕ} where
    written : {k o z : ℕ} → KeyIs marks table table' j from size base k o z → KeyItem marks table' j (from_of marks j) size base k o z
    written w = rw (sym p.begins) w.item

    pub put-more : {end : TextAt} → j < count - 1 → KeyIs marks table table' j from size base 7 0 0 → end.0 ≡ end_of marks j
        → Putting marks before table' count size base kind text textlen (j + 1) end.0
    put-more l w e = record {
      asked = p.asked;
      begins = rw (add-one j) e;
      inside = omega arith;
      upper = λ i u. go i u (ltb i j) refl;
      above = λ k u. w.above k (omega arith) ∙ p.above k (omega arith);
      kept = w.kept ∙ p.kept;
    }
      where
        go : (i : ℕ) → i < j + 1 → (t : Bool) → ltb i j ≡ t → KeyItem marks table' i (from_of marks i) size base 7 0 0
        go i u true t = kept-item w (ltb-true i j t) (p.upper i (ltb-true i j t))
        go i u false t = let v : j ≤ i = ltb-false i j t in let q : i ≡ j = omega arith in rw q (written w)

    pub put-done : count - 1 ≤ j → KeyIs marks table table' (count - 1) from size base kind text textlen
        → PutIs marks before table' count size base kind text textlen
    put-done l v = let e : count - 1 ≡ j = omega (arith, p.inside) in let w = rw e at v in record {
      upper = λ i u. kept-item w (omega (arith, p.inside)) (p.upper i (omega (arith, p.inside)));
      last = λ i u. let q : i ≡ j = omega (arith, p.inside) in rw q (written w);
      above = λ k u. w.above k (omega (arith, p.inside)) ∙ p.above k (omega (arith, p.inside));
      kept = w.kept ∙ p.kept;
    }

pub ruleset puts = (put-start, upper-asked, last-asked, in-marks, put-more, put-done)

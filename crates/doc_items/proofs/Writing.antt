-- The laws of writing an item.
use mathlib.Core.Path.{◌≡◌, sym, ◌∙◌, ap}
use Prim.Native.Nat.{ℕ, ◌+◌, ◌*◌, ◌<◌}
use mathlib.Core.List.{List}
use native.Mathlib.Omega.{arith}
use lib.ListN.{length, get_or, set, length-set}
use lib.Seq.{get_or-set_same, get_or-set_other}
use Rattle.doc_items.specs.Writing.{FourAsked, FourIs, ItemAsked, ItemIs}
use Rattle.doc_items.specs.declared.Item.{Item}

module _ (at a b c d : ℕ) (t : List ℕ) where
  abbrev t1 : List ℕ
  t1 = set t (at) a

  abbrev t2 : List ℕ
  t2 = set t1 (at + 1) b

  abbrev t3 : List ℕ
  t3 = set t2 (at + 2) c

  abbrev t4 : List ℕ
  t4 = set t3 (at + 3) d

  long1 : length t1 ≡ length t
  long1 = length-set t (at) a

  long2 : length t2 ≡ length t
  long2 = length-set t1 (at + 1) b ∙ length-set t (at) a

  long3 : length t3 ≡ length t
  long3 = length-set t2 (at + 2) c ∙ length-set t1 (at + 1) b ∙ length-set t (at) a

  long4 : length t4 ≡ length t
  long4 = length-set t3 (at + 3) d ∙ length-set t2 (at + 2) c ∙ length-set t1 (at + 1) b ∙ length-set t (at) a

  other : (k : ℕ) → ((c : ℕ) → c < 4 → k ≡ at + c → ⊥) → get_or t4 k 0 ≡ get_or t k 0
  other k h =
      get_or-set_other t3 (at + 3) k d 0 (λ e. h 3 (omega arith) (omega arith))
      ∙ get_or-set_other t2 (at + 2) k c 0 (λ e. h 2 (omega arith) (omega arith))
      ∙ get_or-set_other t1 (at + 1) k b 0 (λ e. h 1 (omega arith) (omega arith))
      ∙ get_or-set_other t (at) k a 0 (λ e. h 0 (omega arith) (omega arith))

  pub four_is : FourAsked at a b c d t → FourIs at a b c d t t4
  four_is x = record {
    one = get_or-set_other t3 (at + 3) (at) d 0 (λ e. absurd (omega arith))
        ∙ get_or-set_other t2 (at + 2) (at) c 0 (λ e. absurd (omega arith))
        ∙ get_or-set_other t1 (at + 1) (at) b 0 (λ e. absurd (omega arith))
        ∙ get_or-set_same t (at) a 0 (omega (arith, x.room));
    two = get_or-set_other t3 (at + 3) (at + 1) d 0 (λ e. absurd (omega arith))
        ∙ get_or-set_other t2 (at + 2) (at + 1) c 0 (λ e. absurd (omega arith))
        ∙ get_or-set_same t1 (at + 1) b 0 (omega (arith, x.room, long1));
    three = get_or-set_other t3 (at + 3) (at + 2) d 0 (λ e. absurd (omega arith))
        ∙ get_or-set_same t2 (at + 2) c 0 (omega (arith, x.room, long2));
    four = get_or-set_same t3 (at + 3) d 0 (omega (arith, x.room, long3));
    below = λ k l. other k (λ c u e. absurd (omega arith));
    above = λ k l. other k (λ c u e. absurd (omega arith));
    kept = long4;
  }

  pub in_two : FourAsked at a b c d t → at + 1 < length t1
  in_two x = omega (arith, x.room, long1)

  pub in_three : FourAsked at a b c d t → at + 2 < length t2
  in_three x = omega (arith, x.room, long2)

  pub in_four : FourAsked at a b c d t → at + 3 < length t3
  in_four x = omega (arith, x.room, long3)

pub ruleset fours = (four_is, in_two, in_three, in_four)

-- two halves make an item
pub item-is : {i : ℕ} {x : Item} {t u v : List ℕ} → FourIs (8 * i) x.kind x.size x.key.0 x.keylen.0 t u
    → FourIs (8 * i + 4) x.text.0 x.textlen.0 x.place.0 x.number u v → ItemIs i x t v
item-is {i} {x} {t} {u} {v} p q = record {
  kind = q.below (8 * i) (omega arith) ∙ p.one;
  size = q.below (8 * i + 1) (omega arith) ∙ p.two;
  key = q.below (8 * i + 2) (omega arith) ∙ p.three;
  keylen = q.below (8 * i + 3) (omega arith) ∙ p.four;
  text = q.one;
  textlen = let e : 8 * i + 4 + 1 ≡ 8 * i + 5 = omega arith in ap (λ k. get_or v k 0) (sym e) ∙ q.two;
  place = let e : 8 * i + 4 + 2 ≡ 8 * i + 6 = omega arith in ap (λ k. get_or v k 0) (sym e) ∙ q.three;
  number = let e : 8 * i + 4 + 3 ≡ 8 * i + 7 = omega arith in ap (λ k. get_or v k 0) (sym e) ∙ q.four;
  below = λ k l. q.below k (omega arith) ∙ p.below k l;
  above = λ k l. q.above k (omega arith) ∙ p.above k (omega arith);
  kept = q.kept ∙ p.kept;
}

module _ {i : ℕ} {x : Item} {t : List ℕ} (a : ItemAsked i x t) where
  pub first-asked : FourAsked (8 * i) x.kind x.size x.key.0 x.keylen.0 t
  first-asked = record { room = omega (arith, a.room); one = a.kind; two = a.size; three = a.key; four = a.keylen }

  pub second-asked : {u : List ℕ} → FourIs (8 * i) x.kind x.size x.key.0 x.keylen.0 t u
      → FourAsked (8 * i + 4) x.text.0 x.textlen.0 x.place.0 x.number u
  second-asked p = record { room = omega (arith, a.room, p.kept); one = a.text; two = a.textlen; three = a.place; four = a.number }

pub ruleset items = (item-is, first-asked, second-asked)

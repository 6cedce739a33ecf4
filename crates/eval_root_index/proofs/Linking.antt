-- Linking the root's fields: laws for `field_size`, `link_back`, `link_by_key` and `link_root`, one for each return.
use mathlib.Core.Path.{◌≡◌, refl, sym, ap, ◌∙◌}
use mathlib.Core.Bool.{cond}
use mathlib.Core.List.{List, []}
use Prim.Native.Nat.{ℕ, ◌+◌, ◌*◌, ◌≤◌, ◌<◌}
use native.Mathlib.Omega.{arith}
use lib.Dec.{ltb}
use lib.ListN.{length, set, length-set}
use lib.Seq.{get_or-set_same, get_or-set_other}
use borrow.Author.Tests.{lt-ltb, le-ltb}
use Rattle.doc_items.specs.Room.{capacity}
use Rattle.doc_items.specs.Parts.{numbers}
use Rattle.doc_items.specs.Writing.{ReadIs}
use Rattle.eval_keys.specs.Texts.{by_less}
use Rattle.eval_keys.specs.Columns.{keys_at, firsts_at, nexts_at, columns_end, Room, key_at, first_at, next_at}
use Rattle.eval_root_index.specs.Links.{Every, Listed, Follows, Falls, Linked, onto, every-unto, every-onto, every-below, every-falls, with-same, listed_same}
use Rattle.eval_root_index.specs.Links.{Back, back_start, back-seam, back-size, back_field, back-falls, back_end}
use Rattle.eval_root_index.specs.Links.{Turned, turned-start, turned-falls, turned-here, turned-step, turned-end}
use Rattle.eval_keys.specs.Clauses.{ClearIs}
use Rattle.eval_root_index.specs.Clauses.{FieldSizeIs, LinkBackIs, LinkByKeyIs, LinkRootIs}

-- ---- how many items a field has

module _ {T : List ℕ} {i kind : ℕ} (r : ReadIs T (8 * i) kind) where
  pub size-piece : 16 ≤ kind → FieldSizeIs T i 0
  size-piece l = record { is = rw (sym r.is, le-ltb kind 16 l) refl; small = omega arith }

  pub size-field : {size : ℕ} → kind < 16 → ReadIs T (8 * i + 1) size → FieldSizeIs T i size
  size-field {size} l s = record { is = rw (sym r.is, lt-ltb kind 16 l) s.is; small = s.small }

pub ruleset sizes = (size-piece, size-field)

-- ---- links back

-- what `field_size` says of an item's kind and size
small_is : {k z r : ℕ} → k < 16 → r ≡ cond (ltb k 16) z 0 → r ≡ z
small_is {k} {z} {r} l e = e ∙ rw (lt-ltb k 16 l) refl

some_is : (k z r : ℕ) → r ≡ cond (ltb k 16) z 0 → (r ≡ 0 → ⊥) → k < 16
some_is k z r e d = by_less (k < 16) k 16 (λ l. l) (λ l. absurd (d (e ∙ rw (le-ltb k 16 l) refl)))

pub record BackInv (end : ℕ) (T₀ T : List ℕ) (last at : ℕ) : Type 0 where
  pub is : (js : List ℕ) → Listed (numbers T₀) 1 end js → Back (numbers T₀) (next_at T) end js at last
  pub kept : (j : ℕ) → (nexts_at ≤ j → j < columns_end → ⊥) → numbers T j ≡ numbers T₀ j
  pub len : length T ≡ length T₀
  pub low : 1 ≤ at
  pub small : last < capacity
  pub few : end ≤ capacity
  pub room : Room T₀

pub back-begins : {end : ℕ} {T : List ℕ} → Room T → end ≤ capacity → BackInv end T T 0 1
back-begins {end} {T} room few = record {
  is = λ js x. back_start (numbers T) x;
  kept = λ j o. refl;
  len = refl;
  low = omega arith;
  small = omega arith;
  few = few;
  room = room;
}

module _ {end : ℕ} {T₀ T : List ℕ} {last at : ℕ} (I : BackInv end T₀ T last at) where
  module _ {size : ℕ} (l : at < end) (s : FieldSizeIs T at size) where
    size_is : size ≡ cond (ltb (numbers T₀ (8 * at)) 16) (numbers T₀ (8 * at + 1)) 0
    size_is =
        let few = I.few in
        s.is ∙ rw (I.kept (8 * at) (λ u v. omega arith), I.kept (8 * at + 1) (λ u v. omega arith)) refl

    pub back_passes : size ≡ 0 → BackInv end T₀ T last (at + 1)
    back_passes z = record {
      is = λ js x. let B = I.is js x in
          back-seam (numbers T₀) B l (by_less (16 ≤ numbers T₀ (8 * at)) (numbers T₀ (8 * at)) 16
          (λ k. let n = back-size (numbers T₀) B l k in let e = small_is k size_is in absurd (omega arith)) (λ k. k));
      kept = I.kept;
      len = I.len;
      low = omega arith;
      small = I.small;
      few = I.few;
      room = I.room;
    }

    pub back-links : (size ≡ 0 → ⊥) → BackInv end T₀ (set T (nexts_at + at) last) at (at + size)
    back-links d =
        let room = I.room in
        let few = I.few in
        let n : length T ≡ length T₀ = I.len in
        let b : 1 ≤ at = I.low in
        let k : numbers T₀ (8 * at) < 16 = some_is (numbers T₀ (8 * at)) (numbers T₀ (8 * at + 1)) size size_is d in
        record {
          is = λ js x. rw (small_is k size_is) (back_field (numbers T₀) (I.is js x) I.low l k
              (get_or-set_same T (nexts_at + at) last 0 (omega arith))
              (λ j u. get_or-set_other T (nexts_at + at) (nexts_at + j) last 0 (λ e. omega arith)));
          kept = λ j o. get_or-set_other T (nexts_at + at) j last 0 (λ e. o (omega arith) (omega arith)) ∙ I.kept j o;
          len = length-set T (nexts_at + at) last ∙ I.len;
          low = omega arith;
          small = omega arith;
          few = I.few;
          room = I.room;
        }

  pub back_done : end ≤ at → LinkBackIs end T₀ T last
  back_done l = record {
    is = λ js x. let B = I.is js x in (B.done, back_end (numbers T₀) B l, B.follows, back-falls (numbers T₀) B I.small);
    small = I.small;
    kept = I.kept;
    len = I.len;
  }

pub ruleset backs = (back-begins, back_passes, back-links, back_done)

-- ---- links by key

pub record ByKeyInv (last : ℕ) (T₀ T : List ℕ) (i : ℕ) : Type 0 where
  pub is : (ds : List ℕ) → Follows (next_at T₀) last ds → Falls capacity ds → ((k : ℕ) → k < capacity → first_at T₀ k ≡ 0)
      → Turned (key_at T₀) (next_at T) (first_at T) (onto ds []) i
  pub kept : (j : ℕ) → (firsts_at ≤ j → j < columns_end → ⊥) → numbers T j ≡ numbers T₀ j
  pub len : length T ≡ length T₀
  pub small : i < capacity

pub key-start : {last : ℕ} {T : List ℕ} → last < capacity → ByKeyInv last T T last
key-start {last} {T} l = record {
  is = λ ds f x z. turned-start ds f x z;
  kept = λ j o. refl;
  len = refl;
  small = l;
}

module _ {last : ℕ} {T₀ T : List ℕ} {i : ℕ} (I : ByKeyInv last T₀ T i) where
  module _ {k : ℕ} (d : i ≡ 0 → ⊥) (r : ReadIs T (keys_at + i) k) where
    key-is : key_at T₀ i ≡ k
    key-is = let s = I.small in sym (r.is ∙ I.kept (keys_at + i) (λ u v. omega arith))

    pub key-large : capacity ≤ k → LinkByKeyIs last T₀ T
    key-large l = record {
      is = λ ds f x y z.
          let a : key_at T₀ i < capacity =
          turned-here (I.is ds f x z) (λ j. key_at T₀ j < capacity) (omega arith) (every-unto (λ j. key_at T₀ j < capacity) ds [] y tt) in
          let e = key-is in
          absurd (omega arith);
      kept = I.kept;
      len = I.len;
    }

    module _ {before : ℕ} (s : ReadIs T (nexts_at + i) before) where
      pub key-stuck : i ≤ before → LinkByKeyIs last T₀ T
      key-stuck l = record {
        is = λ ds f x y z. let a = turned-falls (I.is ds f x z) (omega arith) in let e = s.is in absurd (omega arith);
        kept = I.kept;
        len = I.len;
      }

      pub key-again : {n : ℕ} → Room T₀ → k < capacity → before < i → ReadIs T (firsts_at + k) n
          → ByKeyInv last T₀ (set (set T (nexts_at + i) n) (firsts_at + k) i) before
      key-again {n} room small falls t =
          let l : length T ≡ length T₀ = I.len in
          let h : i < capacity = I.small in
          let e : key_at T₀ i ≡ k = key-is in
          record {
            is = λ ds f x z. rw s.is (turned-step (I.is ds f x z) (omega arith)
                (get_or-set_other (set T (nexts_at + i) n) (firsts_at + k) (nexts_at + i) i 0 (λ q. omega arith)
                ∙ get_or-set_same T (nexts_at + i) n 0 (omega arith) ∙ t.is ∙ ap (first_at T) (sym e))
                (ap (λ (m : ℕ). first_at (set (set T (nexts_at + i) n) (firsts_at + k) i) m) e
                ∙ get_or-set_same (set T (nexts_at + i) n) (firsts_at + k) i 0 (omega (arith, length-set T (nexts_at + i) n)))
                (λ j u. get_or-set_other (set T (nexts_at + i) n) (firsts_at + k) (nexts_at + j) i 0 (λ q. omega arith)
                ∙ get_or-set_other T (nexts_at + i) (nexts_at + j) n 0 (λ q. u (omega arith)))
                (λ m u v. get_or-set_other (set T (nexts_at + i) n) (firsts_at + k) (firsts_at + m) i 0 (λ q. v (omega arith))
                ∙ get_or-set_other T (nexts_at + i) (firsts_at + m) n 0 (λ q. omega arith)));
            kept = λ j o. get_or-set_other (set T (nexts_at + i) n) (firsts_at + k) j i 0 (λ q. o (omega arith) (omega arith))
                ∙ get_or-set_other T (nexts_at + i) j n 0 (λ q. o (omega arith) (omega arith)) ∙ I.kept j o;
            len = length-set (set T (nexts_at + i) n) (firsts_at + k) i ∙ length-set T (nexts_at + i) n ∙ I.len;
            small = omega arith;
          }

  pub in-firsts : (n k : ℕ) → Room T₀ → k < capacity → firsts_at + k < length (set T (nexts_at + i) n)
  in-firsts n k room l = let e = I.len in omega (arith, length-set T (nexts_at + i) n)

  pub key-done : i ≡ 0 → LinkByKeyIs last T₀ T
  key-done e = record {
    is = λ ds f x y z. record { at = λ k u. turned-end (I.is ds f x z) e k u };
    kept = I.kept;
    len = I.len;
  }

pub ruleset by_keys = (key-start, key-large, key-stuck, key-again, in-firsts, key-done)

-- ---- the root

module _ {items : ℕ} {T T₁ : List ℕ} {kind : ℕ} (few : items < capacity) (c : ClearIs firsts_at nexts_at T T₁) (r : ReadIs T₁ 0 kind) where
  kind-of : kind ≡ numbers T 0
  kind-of = r.is ∙ c.kept 0 (λ u v. omega arith)

  pub root-other : (kind ≡ 7 → ⊥) → LinkRootIs items T T₁
  root-other d = record {
    is = λ e js x y. absurd (d (kind-of ∙ e));
    none = λ n k u. c.zero (firsts_at + k) (omega arith) (omega arith);
    kept = λ j o. c.kept j (λ u v. o u (omega arith));
    len = c.len;
  }

  pub root-links : {T₂ T₃ : List ℕ} {last : ℕ} → kind ≡ 7 → LinkBackIs (items + 1) T₁ T₂ last → LinkByKeyIs last T₂ T₃ → LinkRootIs items T T₃
  root-links {T₂} {T₃} {last} z b p = record {
    is = λ e js x y. go js x y;
    none = λ n k u. absurd (n (sym kind-of ∙ z));
    kept = λ j o. p.kept j o ∙ b.kept j (λ u v. o (omega arith) v) ∙ c.kept j (λ u v. o u (omega arith));
    len = p.len ∙ b.len ∙ c.len;
  }
    where
      keys-stay : (j : ℕ) → j < capacity → key_at T₂ j ≡ key_at T j
      keys-stay j l = b.kept (keys_at + j) (λ u v. omega arith) ∙ c.kept (keys_at + j) (λ u v. omega arith)

      go : (js : List ℕ) → Listed (numbers T) 1 (items + 1) js → Every (λ j. key_at T j < capacity) js → Linked (key_at T) T₃ js
      go js x y =
          let (ds, e, f, falls) = b.is js (listed_same (numbers T) (numbers T₁) 1 (items + 1) js (λ k u. c.kept k (λ v w. omega arith)) x) in
          let ys : Every (λ j. key_at T j < capacity) ds = (every-onto (λ j. key_at T j < capacity) ds [] (rw e at y)).0 in
          let L = p.is ds f falls (every-below capacity ds falls (λ j u v. rw (keys-stay j u) v) ys)
          (λ k u. b.kept (firsts_at + k) (λ v w. omega arith) ∙ c.zero (firsts_at + k) (omega arith) (omega arith)) in
          let same : Every (λ j. key_at T j ≡ key_at T₂ j) (onto ds []) =
          every-unto (λ j. key_at T j ≡ key_at T₂ j) ds [] (every-falls capacity ds falls (λ j u. sym (keys-stay j u))) tt in
          rw e (record { at = λ k u. rw (with-same (key_at T₂) (key_at T) k (onto ds []) same) (L.at k u) })

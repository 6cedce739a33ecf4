-- Parts of the stack as lists, what stays below a walk, and what is pushed.
use Rattle.std.specs.Prelude.{◌≡◌, ℕ, zero, suc, ◌+◌, ◌-◌, ◌≤◌, ◌<◌, ltb, Bool, true, false}
use Rattle.std.proofs.Math.Path.{refl, ap}
use Rattle.std.proofs.Common.{◌∙◌, arith, get_or-set_same}
use mathlib.Core.List.{List, [], ◌∷◌}
use Rattle.std.proofs.Math.ListN.{length, get_or, set, length-set}
use Rattle.std.proofs.Math.Seq.{get_or-set_other}
use borrow.Author.Tests.{lt-ltb, le-ltb, ltb-true, ltb-false}
use Rattle.doc_items.specs.Room.{capacity}
use Rattle.eval_stack.specs.Model.{entries, Work, code_place, code_at, link_at, seg, seg-length, pushed, push_top, push_c}
use Rattle.eval_stack.specs.Clauses.{PushIs, Same, Grew}

-- ---- parts of the stack

pub seg_same : (w v : List ℕ) (b n : ℕ) → ((p : ℕ) → b ≤ p → p < b + n → code_at v p ≡ code_at w p) → seg v b n ≡ seg w b n
seg_same w v b zero h = refl
seg_same w v b (suc n) h =
    ap (λ (x : ℕ). x ∷ seg v b n) (h (b + n) (omega arith) (omega arith))
    ∙ ap (λ (x : List ℕ). code_at w (b + n) ∷ x) (seg_same w v b n (λ p l u. h p l (omega arith)))

-- one entry more, at the top
pub seg-more : (w : List ℕ) (b t : ℕ) → b ≤ t → seg w b (t + 1 - b) ≡ code_at w t ∷ seg w b (t - b)
seg-more w b t h =
    let e : t + 1 - b ≡ suc (t - b) = omega arith in
    let f : b + (t - b) ≡ t = omega arith in
    ap (seg w b) e ∙ ap (λ (x : ℕ). code_at w x ∷ seg w b (t - b)) f

pub seg-last : (w : List ℕ) (b t : ℕ) → b < t → seg w b (t - b) ≡ code_at w (t - 1) ∷ seg w b (t - 1 - b)
seg-last w b t h =
    let e : t - b ≡ suc (t - 1 - b) = omega arith in
    let f : b + (t - 1 - b) ≡ t - 1 = omega arith in
    ap (seg w b) e ∙ ap (λ (x : ℕ). code_at w x ∷ seg w b (t - 1 - b)) f

pub seg-none : (w : List ℕ) (b : ℕ) → seg w b (b - b) ≡ []
seg-none w b = let e : b - b ≡ 0 = omega arith in ap (seg w b) e

-- ---- what stays

module _ {base : ℕ} (w v : List ℕ) (s : Same base w v) where
  -- the layers below
  pub same_code : (p : ℕ) → p < base → code_at v p ≡ code_at w p
  same_code p l = s (code_place p) (λ q m e. omega arith)

  -- every link
  pub same-link : (p : ℕ) → link_at v p ≡ link_at w p
  same-link p = s (code_place p + 1) (λ q m e. omega arith)

  -- what stands before the stack
  pub same-where : (k : ℕ) → k < capacity → get_or v k 0 ≡ get_or w k 0
  same-where k l = s k (λ q m e. omega arith)

  -- all that stays below a lower place
  pub same-lower : (lower : ℕ) → lower ≤ base → Same lower w v
  same-lower lower l i o = s i (λ p m e. o p (omega arith) e)

  pub same-seg : (b n : ℕ) → b + n ≤ base → seg v b n ≡ seg w b n
  same-seg b n l = seg_same w v b n (λ p m u. same_code p (omega arith))

-- ---- what is pushed

module _ (top c : ℕ) (w : List ℕ) where
  pub pushed_room : top < entries → pushed top c w ≡ set w (code_place top) c
  unfolding pushed
  pushed_room l = rw (pushed, lt-ltb top entries l) refl

  pub pushed-full : entries ≤ top → pushed top c w ≡ w
  unfolding pushed
  pushed-full l = rw (pushed, le-ltb top entries l) refl

pub top-room : (top : ℕ) → top < entries → push_top top ≡ top + 1
unfolding push_top
top-room top l = rw (push_top, lt-ltb top entries l) refl

pub top-full : (top : ℕ) → entries ≤ top → push_top top ≡ top
unfolding push_top
top-full top l = rw (push_top, le-ltb top entries l) refl

module _ (c : ℕ) {base top : ℕ} (w : List ℕ) (low : base ≤ top) (work : Work w) where
  grows_in : top < entries → Grew base w top (push_c c) (set w (code_place top) c) (top + 1)
  unfolding push_c
  grows_in h =
      let n : length (seg w base (top - base)) < entries - base = omega (arith, seg-length w base (top - base)) in
      let v = set w (code_place top) c in
      let other : (i : ℕ) → (i ≡ code_place top → ⊥) → get_or v i 0 ≡ get_or w i 0 =
      λ i z. get_or-set_other w (code_place top) i c 0 z in
      record {
        list =
            seg-more v base top low
            ∙ ap (λ (x : ℕ). x ∷ seg v base (top - base)) (get_or-set_same w (code_place top) c 0 (omega arith))
            ∙ ap (λ (x : List ℕ). c ∷ x) (seg_same w v base (top - base) (λ p l u. other (code_place p) (λ e. omega arith)))
            ∙ rw (lt-ltb (length (seg w base (top - base))) (entries - base) n) refl;
        same = λ i o. other i (o top low);
        low = omega arith;
        high = omega arith;
        len = length-set w (code_place top) c;
      }

  grows-not : entries ≤ top → top ≤ entries → Grew base w top (push_c c) w top
  unfolding push_c
  grows-not h u =
      let n : entries - base ≤ length (seg w base (top - base)) = omega (arith, seg-length w base (top - base)) in
      record {
        list = rw (le-ltb (length (seg w base (top - base))) (entries - base) n) refl;
        same = λ i o. refl;
        low = low;
        high = u;
        len = refl;
      }

-- what `push` does to the entries from any place on
pub push-grows : {base top c : ℕ} {w w' : List ℕ} {r : ℕ} → base ≤ top → top ≤ entries → Work w → PushIs top c w w' r → Grew base w top (push_c c) w' r
push-grows {base} {top} {c} {w} {w'} {r} low high work x = go (ltb top entries) refl
  where
    go : (t : Bool) → ltb top entries ≡ t → Grew base w top (push_c c) w' r
    go true e =
        let l = ltb-true top entries e in
        rw (x.is ∙ pushed_room top c w l, x.next ∙ top-room top l) (grows_in c w low work l)
    go false e =
        let l = ltb-false top entries e in
        rw (x.is ∙ pushed-full top c w l, x.next ∙ top-full top l) (grows-not c w low work l high)

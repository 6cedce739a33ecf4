-- One law for each answer of the functions that split unquoted text at its dots.
use mathlib.Core.Path.{◌≡◌, refl, sym, ◌∙◌, ap}
use mathlib.Core.Bool.{Bool, true, false}
use mathlib.Core.List.{List, [], ◌∷◌, ◌++◌}
use Prim.Native.Nat.{ℕ, suc, ◌+◌, ◌≤◌, ◌<◌}
use native.Mathlib.Numerals.{add-one}
use native.Mathlib.Omega.{arith}
use lib.Dec.{eqb}
use lib.ListN.{length, get_or, set, take, length-set, length-drop}
use lib.Seq.{slice, slice_empty, take-suc, length-take-le, drop-append-le}
use Rattle.text_chars.specs.declared.DocAt.{DocAt}
use Rattle.text_elements.specs.Model.{finish_c}
use Rattle.text_elements.specs.Marks.Marks.{mark_c}
use Rattle.text_elements.specs.Marks.Marking.{mark-length}
use Rattle.text_elements.specs.Segments.Model.{State, state, push_c, FinishIs, PushIs, byte_c, ByteIs, split_c, SplitAsked, SplitIs}
use Rattle.text_elements.specs.declared.Path.{Path}

-- ---- one element's end

pub finished : {p : Path} {next : DocAt} {before after : List ℕ} {r : Path} → after ≡ mark_c p.count p.used.0 p.place.0 before
    → r ≡ finish_c next.0 p → FinishIs p next.0 before after r
finished m i = record { is = i; marked = m }

pushed : {p : Path} {b : ℕ} {before : List ℕ}
    → PushIs p b before (set before p.used.0 b)
    (record { count = p.count; used = record { 0 = p.used.0 + 1 }; from = p.from; place = p.place; quotes = p.quotes; empty = p.empty })
unfolding push_c
pushed = record { is = refl; put = refl }

-- ---- one byte

module _ {p : Path} {b at : ℕ} {out marks : List ℕ} {r : Path} where
  pub byte-dot : {marks' : List ℕ} {f : Bool} {next : DocAt} → f ≡ eqb b 46 → f ≡ true → next.0 ≡ at + 1 → FinishIs p next.0 marks marks' r
      → ByteIs p b at out marks out marks' r
  unfolding byte_c finish_c
  byte-dot {next = next} g e n f = record {
    is = rw (sym g ∙ e, f.is, f.marked, n);
    more-text = rw f.is (omega arith);
    more-count = rw f.is (omega arith);
    same_out = refl;
    same-marks = rw f.marked (mark-length p.count p.used.0 p.place.0 marks);
  }

  other : {out' : List ℕ} {f : Bool} → f ≡ eqb b 46 → f ≡ false → PushIs p b out out' r → ByteIs p b at out marks out' marks r
  unfolding byte_c push_c
  other g e f = record {
    is = rw (sym g ∙ e, f.is, f.put);
    more-text = rw f.is (omega arith);
    more-count = rw f.is (omega arith);
    same_out = rw f.put (length-set out p.used.0 b);
    same-marks = refl;
  }

pub byte-other : {p : Path} {b at : ℕ} {out marks : List ℕ} {f : Bool} → f ≡ eqb b 46 → f ≡ false
    → ByteIs p b at out marks (set out p.used.0 b) marks
    (record { count = p.count; used = record { 0 = p.used.0 + 1 }; from = p.from; place = p.place; quotes = p.quotes; empty = p.empty })
byte-other g e = other g e pushed

-- ---- the loop

pub split_c-snoc : (bs : List ℕ) (b at : ℕ) (x : State) → split_c at (bs ++ (b ∷ [])) x ≡ byte_c b (at + length bs) (split_c at bs x)
unfolding split_c
split_c-snoc [] b at x = let z : at ≡ at + 0 = omega arith in ap (λ n. byte_c b n x) z
split_c-snoc (c ∷ bs) b at x =
    let z : at + 1 + length bs ≡ at + suc (length bs) = omega arith in
    split_c-snoc bs b (at + 1) (byte_c c at x) ∙ ap (λ n. byte_c b n (split_c (at + 1) bs (byte_c c at x))) z

slice-more : (s : List ℕ) (from i : ℕ) → from ≤ i → i < length s → slice from (i + 1) s ≡ slice from i s ++ (get_or s i 0 ∷ [])
slice-more s from i h k =
    let l : from ≤ length (take i s) = omega (arith, length-take-le i s (omega arith)) in
    rw (add-one, take-suc s i 0 k) (drop-append-le from (take i s) (get_or s i 0 ∷ []) l)

slice-length : (s : List ℕ) (from i : ℕ) → from ≤ i → i ≤ length s → from + length (slice from i s) ≡ i
slice-length s from i h k = omega (arith, length-drop from (take i s), length-take-le i s k)

-- what the loop keeps: so far it has split the bytes up to i
pub record Splits (s : List ℕ) (from to i : ℕ) (p : Path) (out marks out' marks' : List ℕ) (q : Path) : Type 0 where
  pub so_far : SplitIs s from i p out marks out' marks' q
  pub begun : from ≤ i
  pub ahead : i ≤ to
  pub asked : SplitAsked s from to p out marks

pub split-start : {s : List ℕ} {from to : ℕ} {p : Path} {out marks : List ℕ} → SplitAsked s from to p out marks
    → Splits s from to from p out marks out marks p
unfolding split_c
split-start {s} {from} a = record {
  so_far = record { is = rw (slice_empty from s); more-text = omega arith; more-count = omega arith; same_out = refl; same-marks = refl };
  begun = omega arith;
  ahead = a.forward;
  asked = a;
}

module _ {s : List ℕ} {from to i : ℕ} {p q : Path} {out marks out' marks' : List ℕ} (h : Splits s from to i p out marks out' marks' q) where
  pub split-more : {r : Path} {out'' marks'' : List ℕ} → i < to → ByteIs q (get_or s i 0) i out' marks' out'' marks'' r
      → Splits s from to (i + 1) p out marks out'' marks'' r
  split-more l y =
      let k : i < length s = omega (arith, h.asked.inside) in
      let sl = slice-more s from i h.begun k in
      let n = slice-length s from i h.begun (omega arith) in
      record {
        so_far = record {
          is = y.is ∙ ap (byte_c (get_or s i 0) i) h.so_far.is
              ∙ ap (λ m. byte_c (get_or s i 0) m (split_c from (slice from i s) (state p out marks))) (sym n)
              ∙ sym (split_c-snoc (slice from i s) (get_or s i 0) from (state p out marks)) ∙ rw sl;
          more-text = omega (arith, h.so_far.more-text, y.more-text);
          more-count = omega (arith, h.so_far.more-count, y.more-count);
          same_out = y.same_out ∙ h.so_far.same_out;
          same-marks = y.same-marks ∙ h.so_far.same-marks;
        };
        begun = omega (arith, h.begun);
        ahead = omega arith;
        asked = h.asked;
      }

  pub split-end : to ≤ i → SplitIs s from to p out marks out' marks' q
  split-end l = let z : i ≡ to = omega (arith, h.ahead) in rw z at h.so_far

pub ruleset bytes = (byte-dot, byte-other)

pub ruleset splits = (split-start, split-more, split-end)

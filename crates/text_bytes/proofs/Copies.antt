-- A copy of some bytes of the text.
use mathlib.Core.Path.{◌≡◌, refl, sym, ap, ◌∙◌}
use mathlib.Core.List.{List, [], ◌∷◌, ◌++◌, append_assoc}
use Prim.Native.Nat.{ℕ, suc, ◌+◌, ◌-◌, ◌≤◌, ◌<◌}
use native.Mathlib.Numerals.{add-one}
use native.Mathlib.Omega.{arith}
use lib.ListN.{length, get_or, set, take, drop, length-set}
use lib.Seq.{take-suc, drop-cons, drop-append-le, set_at, length-take-le, slice, slice_empty, length-slice}
use Rattle.text_bytes.specs.Clauses.{WriteIs}

-- so many bytes are copied
pub record CopyLoop (s : List ℕ) (from n : ℕ) (before out : List ℕ) (i : ℕ) : Type 0 where
  pub near : i ≤ n
  pub bytes : out ≡ slice from (from + i) s ++ drop i before
  pub kept : length out ≡ length before

pub copy_start : {s : List ℕ} {from n : ℕ} {b : List ℕ} → CopyLoop s from n b b 0
copy_start {s} {from} {n} {b} = record { near = omega arith; bytes = none; kept = refl }
  where
    here : from + 0 ≡ from
    here = omega arith

    none : b ≡ slice from (from + 0) s ++ drop 0 b
    none = rw (here, slice_empty from s)

-- one byte more of a slice
slice-more : (s : List ℕ) (from i : ℕ) → from + i < length s → slice from (from + (i + 1)) s ≡ slice from (from + i) s ++ (get_or s (from + i) 0 ∷ [])
slice-more s from i h =
    ap (λ (n : ℕ). slice from n s) next
    ∙ ap (drop from) (take-suc s (from + i) 0 h)
    ∙ drop-append-le from (take (from + i) s) (get_or s (from + i) 0 ∷ []) (rw (length-take-le (from + i) s (omega arith)) (omega arith))
  where
    next : from + (i + 1) ≡ suc (from + i)
    next = omega arith

module _ {s : List ℕ} {from to : ℕ} {b x : List ℕ} {i : ℕ} (I : CopyLoop s from (to - from) b x i) where
  pub copy-turn : i < to - from → to ≤ length s → to - from ≤ length b → CopyLoop s from (to - from) b (set x i (get_or s (from + i) 0)) (i + 1)
  copy-turn h k l = record {
    near = omega arith;
    bytes = rw (
      I.bytes,
      drop-cons b i 0 (omega arith),
      set_at (slice from (from + i) s) (get_or b i 0) (drop (suc i) b) (get_or s (from + i) 0) i long,
      slice-more s from i (omega arith),
      add-one i,
    ) (sym (append_assoc (slice from (from + i) s) (get_or s (from + i) 0 ∷ []) (drop (suc i) b)));
    kept = length-set x i (get_or s (from + i) 0) ∙ I.kept;
  }
    where
      gone : from + i - from ≡ i
      gone = omega arith

      long : length (slice from (from + i) s) ≡ i
      long = length-slice from (from + i) s (omega arith) ∙ gone

pub copy_done : {s : List ℕ} {from to : ℕ} {b x : List ℕ} {i : ℕ} → CopyLoop s from (to - from) b x i → to - from ≤ i → from ≤ to → to ≤ length s
    → WriteIs (slice from to s) b x (to - from)
copy_done {s} {from} {to} {b} {x} {i} I h k l = record {
  is = sym long;
  bytes = I.bytes ∙ rw (there, long, sym all);
  kept = I.kept;
}
  where
    all : to - from ≡ i
    all = omega (arith, I.near)

    there : from + i ≡ to
    there = omega (arith, I.near)

    long : length (slice from to s) ≡ to - from
    long = length-slice from to s l

pub ruleset copies = (arith, copy_start, copy-turn, copy_done)

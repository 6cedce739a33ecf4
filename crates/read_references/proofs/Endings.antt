-- The loop that writes the ends of a path's elements behind their texts.
use mathlib.Core.Path.{◌≡◌, refl, sym, ◌∙◌, ap}
use mathlib.Core.List.{List, [], ◌∷◌, ◌++◌, append_assoc, append-nil}
use Prim.Native.Nat.{ℕ, suc, ◌+◌, ◌-◌, ◌*◌, ◌/◌, ◌%◌, ◌≤◌, ◌<◌}
use native.Mathlib.Numerals.{add-one}
use native.Mathlib.Omega.{arith}
use lib.ListN.{length, set, take, length-set}
use lib.Seq.{take-suc-set}
use Rattle.text_chars.specs.declared.TextAt.{TextAt}
use Rattle.text_elements.specs.Marks.Marks.{end_of}
use Rattle.read_references.specs.References.{ends_to, EndsAsked, EndsIs}

-- what the loop keeps: so many ends are written
pub record Ending (marks : List ℕ) (count size : ℕ) (before out : List ℕ) (i : ℕ) : Type 0 where
  pub asked : EndsAsked marks count before
  pub size_is : size ≡ end_of marks (count - 1)
  pub near : i ≤ count
  pub wrote : take (size + 2 * i) out ≡ take size before ++ ends_to marks i
  pub kept : length out ≡ length before

pub ends-start : {marks : List ℕ} {count : ℕ} {out : List ℕ} {whole : TextAt} → EndsAsked marks count out → whole.0 ≡ end_of marks (count - 1)
    → Ending marks count whole.0 out out 0
unfolding ends_to
ends-start {marks} {count} {out} {whole} a e =
    let size = whole.0 in
    let z : size + 2 * 0 ≡ size = omega arith in
    record {
      asked = a;
      size_is = e;
      near = omega arith;
      wrote = rw z (sym (append-nil (take size out)));
      kept = refl;
    }

-- two bytes more
two : (n : ℕ) (out : List ℕ) (a b : ℕ) → n + 1 < length out → take (n + 2) (set (set out n a) (n + 1) b) ≡ take n out ++ (a ∷ b ∷ [])
two n out a b h =
    let z : n + 2 ≡ suc (n + 1) = omega arith in
    let l : n + 1 < length (set out n a) = rw (length-set out n a) h in
    rw z (take-suc-set (set out n a) (n + 1) b l
    ∙ ap (λ (t : List ℕ). t ++ (b ∷ [])) (ap (λ m. take m (set out n a)) (add-one n) ∙ take-suc-set out n a (omega arith))
    ∙ append_assoc (take n out) (a ∷ []) (b ∷ []))

module _ {marks : List ℕ} {count size : ℕ} {before out : List ℕ} {i : ℕ} (I : Ending marks count size before out i) where
  pub ends_more : {end : TextAt} → i < count → end.0 ≡ end_of marks i
      → Ending marks count size before (set (set out (size + 2 * i) (end.0 / 256)) (size + 2 * i + 1) (end.0 % 256)) (i + 1)
  unfolding ends_to
  ends_more {end} h w =
      let e = end.0 in
      let z : size + 2 * (i + 1) ≡ size + 2 * i + 2 = omega arith in
      record {
        asked = I.asked;
        size_is = I.size_is;
        near = omega arith;
        wrote = rw (z, add-one i)
            (two (size + 2 * i) out (e / 256) (e % 256) (omega (arith, I.kept, I.asked.room, I.size_is))
            ∙ ap (λ (t : List ℕ). t ++ (e / 256 ∷ e % 256 ∷ [])) I.wrote
            ∙ append_assoc (take size before) (ends_to marks i) (e / 256 ∷ e % 256 ∷ [])
            ∙ ap (λ (n : ℕ). take size before ++ (ends_to marks i ++ (n / 256 ∷ n % 256 ∷ []))) w);
        kept = length-set (set out (size + 2 * i) (e / 256)) (size + 2 * i + 1) (e % 256) ∙ length-set out (size + 2 * i) (e / 256) ∙ I.kept;
      }

  pub ends-done : count ≤ i → EndsIs marks count before out (record { 0 = size })
  ends-done h =
      let z : i ≡ count = omega (arith, I.near) in
      record { is = I.size_is; wrote = rw z at I.wrote; kept = I.kept }

  -- an end is below 65536, and so its two bytes are bytes
  pub end-high : {end : TextAt} → i < count → end.0 ≡ end_of marks i → end.0 / 256 < 256
  end-high h e = let b : end_of marks i ≤ 32768 = I.asked.low i h in omega arith

  pub low-room : (b : ℕ) → i < count → size + 2 * i + 1 < length (set out (size + 2 * i) b)
  low-room b h = rw (length-set out (size + 2 * i) b) (omega (arith, I.kept, I.asked.room, I.size_is))

pub ruleset endings = (ends-start, ends_more, ends-done)

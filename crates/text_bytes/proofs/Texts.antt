-- One law for each answer of the functions that compare texts.
use mathlib.Core.Path.{◌≡◌, refl, sym, ◌∙◌, ap}
use mathlib.Core.Bool.{Bool}
use mathlib.Core.List.{List, [], ◌∷◌}
use Prim.Native.Nat.{ℕ, suc, ◌+◌, ◌-◌, ◌<◌, min}
use native.Mathlib.Omega.{arith}
use lib.ListN.{length, take, drop, length-take, length-drop}
use lib.Seq.{slice, get_or-take, get_or-drop, ext_get_or}
use lib.Dec.{eqb}
use borrow.Author.Tests.{ne_eqb}
use Rattle.rules.specs.Bytes.{byte_at, same}
use Rattle.text_chars.specs.Parts.{part_slice}
use Rattle.text_bytes.specs.Parts.{SizeIs}

slice-size : (text : List ℕ) (from len : ℕ) → length (slice from (from + len) text) ≡ min (from + len) (length text) - from
slice-size text from len = length-drop from (take (from + len) text) ∙ ap (λ (n : ℕ). n - from) (length-take (from + len) text)

slice-byte : (text : List ℕ) (from len i : ℕ) → i < len → byte_at (slice from (from + len) text) i ≡ byte_at text (from + i)
slice-byte text from len i h = get_or-drop from (take (from + len) text) i 256 ∙ get_or-take (from + len) text (from + i) 256 (omega arith)

-- What is asked for past the end of the text part does not matter.
clipped : (text : List ℕ) (from len n : ℕ) → SizeIs text from len n → slice from (from + len) text ≡ slice from (from + n) text
clipped text from len n h =
    ext_get_or 256 (slice from (from + len) text) (slice from (from + n) text)
    (omega (arith, h.is, slice-size text from len, slice-size text from n)) (λ i l. at i (omega (arith, h.is, slice-size text from len)))
  where
    at : (i : ℕ) → (i < len) × (i < n) → byte_at (slice from (from + len) text) i ≡ byte_at (slice from (from + n) text) i
    at i l = slice-byte text from len i l.0 ∙ sym (slice-byte text from n i l.1)

empty-is : (l : List ℕ) → length l ≡ 0 → l ≡ []
empty-is [] e = refl
empty-is (x ∷ l) e = absurd (omega arith)

same-empty : (key : List ℕ) → same [] key ≡ eqb (length key) 0
unfolding same
same-empty [] = refl
same-empty (x ∷ key) = sym (ne_eqb (suc (length key)) 0 (λ e. absurd (omega arith)))

module _ (key : List ℕ) {text : List ℕ} {from len n : ℕ} (h : SizeIs text from len n) where
  pub text-none : n ≡ 0 → eqb (length key) 0 ≡ same (slice from (from + len) text) key
  text-none z =
      let e : slice from (from + len) text ≡ [] = empty-is (slice from (from + len) text) (slice-size text from len ∙ sym h.is ∙ z) in
      sym (rw e (same-empty key))

  pub text-part : {r : Bool} → (n ≡ 0 → ⊥) → r ≡ same (take (from + n - from) (drop from text)) key
      → r ≡ same (slice from (from + len) text) key
  text-part z k = k ∙ rw (part_slice text from (from + n) (omega arith), clipped text from len n h)

pub ruleset equals = (text-none, text-part)

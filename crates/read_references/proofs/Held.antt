-- What the buffers of a path hold, once its elements are whole: its bytes, and how long they are.
use mathlib.Core.Path.{◌≡◌, refl, sym, ◌∙◌, ap}
use mathlib.Core.List.{List, [], ◌∷◌, ◌++◌, append_assoc, append-nil}
use Prim.Native.Nat.{ℕ, zero, suc, ◌+◌, ◌/◌, ◌%◌, ◌≤◌, ◌<◌}
use native.Mathlib.Omega.{arith}
use lib.ListN.{length, take, drop, length-append}
use lib.Seq.{slice, take-add, drop_at, drop-drop, length-take-le}
use Rattle.rules.specs.Bytes.{Text}
use Rattle.rules.specs.Paths.{Element, texts_of, sizes}
use Rattle.text_elements.specs.Marks.Marks.{marked, end_of}
use Rattle.text_elements.specs.Marks.Holding.{Held}
use Rattle.doc_items.specs.Codes.{path_texts, path_ends}
use Rattle.read_references.specs.References.{ends_to}

-- ---- the texts

slice_is : (f n : ℕ) (l : List ℕ) → f ≤ length l → slice f (f + n) l ≡ take n (drop f l)
slice_is f n l h = ap (drop f) (take-add f n l) ∙ drop_at (take f l) (take n (drop f l)) f (length-take-le f l h)

pub texts-length : (es : List Element) → length (path_texts (texts_of es)) ≡ sizes es
unfolding path_texts sizes
texts-length [] = refl
texts-length (e ∷ es) = length-append e.text (path_texts (texts_of es)) ∙ ap (λ n. length e.text + n) (texts-length es)

pub held-texts : (from i : ℕ) (es : List Element) (out marks : List ℕ) → from + sizes es ≤ length out → Held from i es out marks
    → take (sizes es) (drop from out) ≡ path_texts (texts_of es)
unfolding path_texts sizes
held-texts from i [] out marks l h = refl
held-texts from i (e ∷ es) out marks l h =
    let n = length e.text in
    take-add n (sizes es) (drop from out)
    ∙ ap (λ (t : Text). t ++ take (sizes es) (drop n (drop from out))) (sym (slice_is from n out (omega arith)) ∙ h.0)
    ∙ ap (λ (t : Text). e.text ++ take (sizes es) t) (drop-drop n from out)
    ∙ ap (λ (t : Text). e.text ++ t) (held-texts (from + n) (suc i) es out marks (omega arith) h.2)

-- ---- the marks

-- the end of the last element is the length of all texts
pub held-last : (from i n : ℕ) (es : List Element) (out marks : List ℕ) → length es ≡ suc n → i + n < marked → Held from i es out marks
    → end_of marks (i + n) ≡ from + sizes es
unfolding sizes
held-last from i n [] out marks l b h = absurd (omega arith)
held-last from i n (e ∷ []) out marks l b h =
    let z : i + n ≡ i = omega arith in
    let y : from + length e.text ≡ from + (length e.text + 0) = omega arith in
    rw z ((h.1 (omega arith)).0 ∙ y)
held-last from i zero (e ∷ f ∷ es) out marks l b h = absurd (omega arith)
held-last from i (suc n) (e ∷ f ∷ es) out marks l b h =
    let z : i + suc n ≡ suc i + n = omega arith in
    let y : from + length e.text + sizes (f ∷ es) ≡ from + (length e.text + sizes (f ∷ es)) = omega arith in
    rw z (held-last (from + length e.text) (suc i) n (f ∷ es) out marks (omega arith) (omega arith) h.2 ∙ y)

pub held_low : (from i n : ℕ) (es : List Element) (out marks : List ℕ) → n < length es → i + n < marked → Held from i es out marks
    → end_of marks (i + n) ≤ from + sizes es
unfolding sizes
held_low from i n [] out marks l b h = absurd (omega arith)
held_low from i zero (e ∷ es) out marks l b h =
    let z : i + 0 ≡ i = omega arith in
    rw z (omega (arith, (h.1 (omega arith)).0))
held_low from i (suc n) (e ∷ es) out marks l b h =
    let z : i + suc n ≡ suc i + n = omega arith in
    rw z (omega (arith, held_low (from + length e.text) (suc i) n es out marks (omega arith) (omega arith) h.2))

pub held-ends : (from i : ℕ) (es : List Element) (out marks : List ℕ) → i + length es ≤ marked → Held from i es out marks
    → ends_to marks (i + length es) ≡ ends_to marks i ++ path_ends from (texts_of es)
unfolding ends_to path_ends
held-ends from i [] out marks b h =
    let z : i + 0 ≡ i = omega arith in
    rw z (sym (append-nil (ends_to marks i)))
held-ends from i (e ∷ es) out marks b h =
    let z : i + suc (length es) ≡ suc i + length es = omega arith in
    let m : end_of marks i ≡ from + length e.text = (h.1 (omega arith)).0 in
    rw z (held-ends (from + length e.text) (suc i) es out marks (omega arith) h.2
    ∙ append_assoc (ends_to marks i) (end_of marks i / 256 ∷ end_of marks i % 256 ∷ []) (path_ends (from + length e.text) (texts_of es))
    ∙ ap (λ (p : ℕ). ends_to marks i ++ (p / 256 ∷ p % 256 ∷ path_ends (from + length e.text) (texts_of es))) m)

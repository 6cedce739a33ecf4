-- The path by the numbers is that of the substitution which the item holds; and behind the first of its dots it is the rules' name.
use Rattle.std.specs.Prelude.{◌≡◌, refl, ℕ, ◌+◌, ◌*◌, ◌-◌, ◌/◌, ◌%◌, ◌≤◌, List, [], ◌∷◌, ◌++◌, length, drop}
use Rattle.std.proofs.Common.{sym, ◌∙◌, append-nil, le-leb}
use Rattle.std.proofs.Math.Path.{ap}
use native.Mathlib.Omega.{arith}
use Rattle.std.proofs.Math.ListN.{length-append}
use Rattle.rules.specs.Bytes.{Text, byte_at}
use Rattle.rules.specs.Ascii as ascii
use Rattle.rules.specs.Sheet.{pair_at}
use Rattle.rules.specs.Tree.{Substitution}
use Rattle.rules.specs.Unresolved.{dotted}
use Rattle.doc_items.specs.Codes.{path_texts, path_ends}
use Rattle.doc_items.specs.Holds.{Spells, TextAt, ReferenceAt}
use Rattle.doc_items.specs.Parts.{numbers, letters}
use Rattle.eval_keys.specs.Texts.{text_of}
use Rattle.eval_keys.specs.Documents.{text-is}
use Rattle.eval_writer.specs.Texts.{spelled-part}
use Rattle.eval_environment.specs.Model.{element_c, elements_c, path_c, behind_dots}

-- ---- texts one behind the other

spells-first : (h : ℕ → ℕ) (o : ℕ) (t u : Text) → Spells h o (t ++ u) → Spells h o t
spells-first h o [] u s = tt
spells-first h o (b ∷ bs) u s = (s.0, spells-first h (o + 1) bs u s.1)

spells-second : (h : ℕ → ℕ) (o : ℕ) (t u : Text) → Spells h o (t ++ u) → Spells h (o + length t) u
spells-second h o [] u s = let e : o ≡ o + 0 = omega arith in rw e at s
spells-second h o (b ∷ bs) u s =
    let e : o + 1 + length bs ≡ o + length (b ∷ bs) = omega arith in rw e at (spells-second h (o + 1) bs u s.1)

-- two bytes that spell a number
pair_is : (X : List ℕ) (o n : ℕ) (bs : Text) → o + 2 ≤ length X → Spells (letters 0 X) o (n / 256 ∷ n % 256 ∷ bs) → pair_at X o ≡ n
unfolding pair_at text_of
pair_is X o n bs l s =
    let two : TextAt (letters 0 X) 0 (length X) o 2 (n / 256 ∷ n % 256 ∷ []) =
    record { from = omega arith; upto = l; size = refl; bytes = (s.0, (s.1.0, tt)) } in
    let e : byte_at X o ∷ byte_at X (o + 1) ∷ [] ≡ n / 256 ∷ n % 256 ∷ [] = text-is X (omega arith) two in
    let a : byte_at X o ≡ n / 256 = cc (e) in
    let b : byte_at X (o + 1) ≡ n % 256 = cc (e) in
    omega arith

-- ---- the elements

elements-are : (X : List ℕ) (at ends from : ℕ) (ts : List Text) → at + from + length (path_texts ts) ≤ length X → ends + 2 * length ts ≤ length X
    → Spells (letters 0 X) (at + from) (path_texts ts) → Spells (letters 0 X) ends (path_ends from ts)
    → elements_c X at ends (length ts) from ≡ ts
unfolding elements_c element_c path_texts path_ends
elements-are X at ends from [] l m s e = refl
elements-are X at ends from (t ∷ ts) l m s e =
    let n = length-append t (path_texts ts) in
    let p : pair_at X ends ≡ from + length t = pair_is X ends (from + length t) (path_ends (from + length t) ts) (omega arith) e in
    let z : from + length t - from ≡ length t = omega arith in
    let w : at + from + length t ≡ at + (from + length t) = omega arith in
    let q : ends + 1 + 1 ≡ ends + 2 = omega arith in
    let first = spells-first (letters 0 X) (at + from) t (path_texts ts) s in
    let second : Spells (letters 0 X) (at + (from + length t)) (path_texts ts) =
    rw w at (spells-second (letters 0 X) (at + from) t (path_texts ts) s) in
    let rest : Spells (letters 0 X) (ends + 2) (path_ends (from + length t) ts) = rw q at e.1.1 in
    rw (elements_c, p, z, element_c, le-leb (at + from + length t) (length X) (omega arith), spelled-part X (at + from) t (omega arith) first)
    (ap (λ (us : List Text). t ∷ us) (elements-are X at (ends + 2) (from + length t) ts (omega arith) (omega arith) second rest))

module _ (T X : List ℕ) (i lo hi : ℕ) (N : ℕ → ℕ → Type 0) (high : hi ≤ length X) (x : Substitution) where
  pub path-is : ReferenceAt (numbers T) (letters 0 X) lo hi N (numbers T (8 * i)) (numbers T (8 * i + 4)) (numbers T (8 * i + 5)) (numbers T (8 * i + 7)) x
      → path_c T X i ≡ x.path
  unfolding path_c
  path-is r =
      let ts = x.path in
      let at = numbers T (8 * i + 4) in
      let z : at + 0 ≡ at = omega arith in
      let l = length-append (path_texts ts) (path_ends 0 ts) in
      let upto = r.path.upto in
      let first = spells-first (letters 0 X) at (path_texts ts) (path_ends 0 ts) r.path.bytes in
      let second : Spells (letters 0 X) (at + numbers T (8 * i + 5)) (path_ends 0 ts) =
      rw (sym r.size) at (spells-second (letters 0 X) at (path_texts ts) (path_ends 0 ts) r.path.bytes) in
      let first' : Spells (letters 0 X) (at + 0) (path_texts ts) = rw z first in
      ap (λ (n : ℕ). elements_c X at (at + numbers T (8 * i + 5)) n 0) r.count
      ∙ elements-are X at (at + numbers T (8 * i + 5)) 0 ts (omega (arith, r.size)) (omega (arith, r.count)) first' second

-- ---- the name

pub dots-dotted : (ts : List Text) → dotted ts ≡ drop 1 (behind_dots ts)
unfolding dotted behind_dots
dots-dotted [] = refl
dots-dotted (t ∷ []) = sym (append-nil t)
dots-dotted (t ∷ (u ∷ us)) = ap (λ (s : Text). t ++ (ascii.dot ∷ s)) (dots-dotted (u ∷ us))

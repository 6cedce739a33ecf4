-- The path of a substitution that stands in memory: the numbers of its elements are the numbers of their texts.
use Rattle.std.specs.Prelude.{◌≡◌, ℕ, suc, ◌+◌, ◌*◌, ◌-◌, ◌/◌, ◌%◌, ◌≤◌, ◌<◌, get_or}
use Rattle.std.proofs.Math.Path.{refl, ap}
use Rattle.std.proofs.Common.{sym, subst, ◌∙◌}
use mathlib.Core.List.{List, [], ◌∷◌, ◌++◌}
use native.Mathlib.Omega.{arith}
use Rattle.std.proofs.Math.ListN.{length, length-append}
use borrow.Author.Tests.{lt-ltb, ne_eqb}
use Rattle.rules.specs.Bytes.{Text, byte_at}
use Rattle.rules.specs.Tree.{Substitution}
use Rattle.rules.specs.Sheet.{pair_at}
use Rattle.doc_items.specs.Codes.{path_texts, path_ends}
use Rattle.doc_items.specs.Holds.{Spells, ReferenceAt}
use Rattle.doc_items.specs.Parts.{numbers, letters}
use Rattle.doc_items.specs.Room.{number_bound}
use Rattle.eval_keys.specs.Texts.{text_of}
use Rattle.eval_keys.specs.Numbers.{Numbered, number_of}
use Rattle.eval_keys.specs.Documents.{text-is}
use Rattle.eval_substitutions.specs.Keys.Model.{ends_at, begins_at, text_span, element_at, element_len}
use Rattle.eval_substitutions.specs.Keys.Contracts.{path_capacity, RouteIs, PathKeysIs}
use Rattle.eval_substitutions.specs.declared.keys.Route.{Route}

-- the numbers from i on are those of the texts
abbrev pub KeysOf : (Text → ℕ) → List ℕ → ℕ → List Text → Type 0
KeysOf num K i [] = Unit {0}
KeysOf num K i (t ∷ ts) = (get_or K i 0 ≡ num t) × KeysOf num K (i + 1) ts

-- a text in two parts
spells-parts : (h : ℕ → ℕ) (o : ℕ) (t u : Text) → Spells h o (t ++ u) → Spells h o t × Spells h (o + length t) u
spells-parts h o [] u s = let e : o ≡ o + 0 = omega arith in (tt, rw e at s)
spells-parts h o (b ∷ t) u s =
    let e : o + 1 + length t ≡ o + suc (length t) = omega arith in
    let r = spells-parts h (o + 1) t u s.1 in
    ((s.0, r.0), rw e at r.1)

ends-length : (f : ℕ) (ts : List Text) → length (path_ends f ts) ≡ 2 * length ts
unfolding path_ends
ends-length f [] = refl
ends-length f (t ∷ ts) = omega (arith, ends-length (f + length t) ts)

module _ (X : List ℕ) (hi : ℕ) (room : hi ≤ length X) where
  -- two bytes as a number
  pair_read : (p a b : ℕ) (ts : Text) → Spells (letters 0 X) p (a ∷ b ∷ ts) → p + 2 ≤ hi → pair_at X p ≡ a * 256 + b
  unfolding pair_at text_of
  pair_read p a b ts s l =
      let e : text_of (byte_at X) p 2 ≡ a ∷ b ∷ [] =
      text-is X {lo = 0} room (record { from = omega arith; upto = l; size = refl; bytes = (s.0, (s.1.0, tt)) }) in
      let f : byte_at X p ≡ a = cc (e) in
      let g : byte_at X (p + 1) ≡ b = cc (e) in
      rw (pair_at, f, g) refl

  module _ (x : Route) (i f : ℕ) (b : begins_at X (ends_at x) i ≡ f) where
    element-at : element_at X x i ≡ x.at.0 + f
    unfolding element_at
    element-at = ap (λ (m : ℕ). x.at.0 + m) b

    module _ (g : ℕ) (to : pair_at X (ends_at x + 2 * i) ≡ g) where
      element-len : g - f < number_bound → element_len X x i ≡ g - f
      unfolding element_len text_span
      element-len l = rw (element_len, b, to, text_span, lt-ltb (g - f) number_bound l) refl

      -- the next begins where it ends
      begins-next : begins_at X (ends_at x) (i + 1) ≡ g
      unfolding begins_at
      begins-next =
          let z : i + 1 - 1 ≡ i = omega arith in
          rw (begins_at, ne_eqb (i + 1) 0 (λ e. omega arith), z) to

  begins-zero : (ends : ℕ) → begins_at X ends 0 ≡ 0
  unfolding begins_at
  begins-zero ends = refl

  module _ {T : List ℕ} {n : ℕ} (N : Numbered X T n) (x : Route) {K K' : List ℕ} (found : PathKeysIs X T x K K') where
    -- the elements us from index i on, which begin at f
    elements-read : (us : List Text) (i f : ℕ) → Spells (letters 0 X) (x.at.0 + f) (path_texts us) → Spells (letters 0 X) (ends_at x + 2 * i) (path_ends f us)
        → begins_at X (ends_at x) i ≡ f → f + length (path_texts us) ≤ x.len.0 → x.len.0 < number_bound → ends_at x + 2 * (i + length us) ≤ hi
        → x.count ≡ i + length us → KeysOf (number_of X T n) K' i us
    unfolding path_texts path_ends
    elements-read [] i f s e b l z h c = tt
    elements-read (t ∷ us) i f s e b l z h c =
        let g = f + length t in
        let a = length-append t (path_texts us) in
        let parts = spells-parts (letters 0 X) (x.at.0 + f) t (path_texts us) s in
        let both : g / 256 * 256 + g % 256 ≡ g = omega arith in
        let to : pair_at X (ends_at x + 2 * i) ≡ g = pair_read (ends_at x + 2 * i) (g / 256) (g % 256) (path_ends g us) e (omega arith) ∙ both in
        let m : g - f ≡ length t = omega arith in
        let len : element_len X x i ≡ length t = element-len x i f b g to (omega arith) ∙ m in
        let text : text_of (byte_at X) (element_at X x i) (element_len X x i) ≡ t =
        ap (λ (p : ℕ). text_of (byte_at X) p (element_len X x i)) (element-at x i f b) ∙ ap (text_of (byte_at X) (x.at.0 + f)) len
        ∙ text-is X {lo = 0} room (record { from = omega arith; upto = omega arith; size = refl; bytes = parts.0 }) in
        let p : x.at.0 + f + length t ≡ x.at.0 + g = omega arith in
        let q : ends_at x + 2 * i + 1 + 1 ≡ ends_at x + 2 * (i + 1) = omega arith in (
          (found.found i (omega arith)).found.is n N ∙ ap (number_of X T n) text,
          elements-read us (i + 1) g (subst (λ (o : ℕ). Spells (letters 0 X) o (path_texts us)) p parts.1)
              (subst (λ (o : ℕ). Spells (letters 0 X) o (path_ends g us)) q e.1.1) (begins-next x i f b g to) (omega arith) z (omega arith) (omega arith),
        )

    -- of a substitution
    pub path-read : (M : ℕ → ℕ → Type 0) (g : ℕ → ℕ) {kind : ℕ} (y : Substitution)
        → ReferenceAt g (letters 0 X) 0 hi M kind x.at.0 x.len.0 x.count y → x.len.0 < number_bound → KeysOf (number_of X T n) K' 0 y.path
    path-read M g y R l =
        let ts = y.path in
        let s = spells-parts (letters 0 X) x.at.0 (path_texts ts) (path_ends 0 ts) R.path.bytes in
        let e : x.at.0 + 0 ≡ x.at.0 = omega arith in
        let f : x.at.0 + length (path_texts ts) ≡ ends_at x + 2 * 0 = omega (arith, R.size) in
        elements-read ts 0 0 (subst (λ (o : ℕ). Spells (letters 0 X) o (path_texts ts)) (sym e) s.0)
        (subst (λ (o : ℕ). Spells (letters 0 X) o (path_ends 0 ts)) f s.1) (begins-zero (ends_at x)) (omega (arith, R.size)) l
        (omega (arith, R.count, R.path.upto)) (omega (arith, R.count))

    -- that stands in an item
    pub item-read : (M : ℕ → ℕ → Type 0) (item : ℕ) {kind : ℕ} (y : Substitution) → RouteIs T item x → length y.path ≤ path_capacity
        → ReferenceAt (numbers T) (letters 0 X) 0 hi M kind (numbers T (8 * item + 4)) (numbers T (8 * item + 5)) (numbers T (8 * item + 7)) y
        → KeysOf (number_of X T n) K' 0 y.path
    item-read M item {kind} y r l R =
        let c : x.count ≡ numbers T (8 * item + 7) = r.count (omega (arith, R.count)) in
        path-read M (numbers T) {kind = kind} y (rw (r.at, r.len, c) R) r.close.1

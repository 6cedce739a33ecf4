-- A table and a text part as lists of numbers, and what becomes of them where the part from an offset on is lent and comes back.
use Rattle.std.specs.Prelude.{◌≡◌, ℕ, suc, ◌+◌, ◌*◌, ◌-◌, ◌≤◌, List, [], ◌∷◌, length, get_or, take}
use Rattle.std.proofs.Common.{sym, ap, ◌∙◌, arith}
use Rattle.answers.specs.Theory.Sound.{clash}
use Rattle.rules.specs.Bytes.{Text}
use Rattle.text_chars.specs.Parts.{back, back_below, back_above}
use Rattle.doc_items.specs.Holds.{Spells}
use Rattle.doc_items.specs.Moving.{Agree, Grown}

-- the numbers of a table; the bytes of a text part whose first byte has the offset b
abbrev pub numbers : List ℕ → ℕ → ℕ
numbers t k = get_or t k 0

abbrev pub letters : ℕ → List ℕ → ℕ → ℕ
letters b x o = get_or x (o - b) 0

-- ---- tables

module _ (x y : List ℕ) (d : ℕ) (h : 8 * d ≤ length x) where
  -- the items of the part that came back
  pub agree-back : (i end : ℕ) → Agree (numbers y) (numbers (back (8 * d) x y)) d i end
  agree-back i end k u v =
      let e : k + 8 * d ≡ 8 * d + k = omega arith in
      sym (ap (λ (n : ℕ). get_or (back (8 * d) x y) n 0) e ∙ back_above (8 * d) x y k h)

  -- those before it
  pub agree-kept : (i end : ℕ) → end ≤ d → Agree (numbers x) (numbers (back (8 * d) x y)) 0 i end
  agree-kept i end l k u v =
      let e : k + 8 * 0 ≡ k = omega arith in
      sym (ap (λ (n : ℕ). get_or (back (8 * d) x y) n 0) e ∙ back_below (8 * d) x y k h (omega arith))

-- ---- texts

module _ (x y : List ℕ) (b v : ℕ) (h : v ≤ length x) where
  pub grown-back : (lo hi lo' hi' : ℕ) → b + v ≤ lo → lo' ≤ lo → hi ≤ hi' → Grown (letters (b + v) y) (letters b (back v x y)) lo hi lo' hi'
  grown-back lo hi lo' hi' l m n = record {
    low = m;
    high = n;
    text = λ p u w.
        let e : p - b ≡ v + (p - (b + v)) = omega arith in
        sym (ap (λ (k : ℕ). get_or (back v x y) k 0) e ∙ back_above v x y (p - (b + v)) h);
  }

  pub grown-kept : (lo hi lo' hi' : ℕ) → b ≤ lo → hi ≤ b + v → lo' ≤ lo → hi ≤ hi' → Grown (letters b x) (letters b (back v x y)) lo hi lo' hi'
  grown-kept lo hi lo' hi' c l m n = record {
    low = m;
    high = n;
    text = λ p u w. sym (back_below v x y (p - b) h (omega arith));
  }

-- ---- a text at the start of a part

spells-from : (h : ℕ → ℕ) (o : ℕ) (y : List ℕ) (t : Text) → take (length t) y ≡ t → ((k : ℕ) → h (o + k) ≡ get_or y k 0) → Spells h o t
spells-from h o y [] e s = tt
spells-from h o [] (a ∷ t) e s = clash (cc (e))
spells-from h o (c ∷ y) (a ∷ t) e s =
    let z : o + 0 ≡ o = omega arith in (
      ap h (sym z) ∙ s 0 ∙ cc (e),
      spells-from h (o + 1) y t (cc (e)) (λ k. let q : o + 1 + k ≡ o + suc k = omega arith in ap h q ∙ s (suc k)),
    )

pub spells-take : (b n : ℕ) (x : List ℕ) (t : Text) → take n x ≡ t → n ≡ length t → Spells (letters b x) b t
spells-take b n x t e l =
    spells-from (letters b x) b x t (ap (λ (k : ℕ). take k x) (sym l) ∙ e) (λ k. let q : b + k - b ≡ k = omega arith in ap (λ (m : ℕ). get_or x m 0) q)

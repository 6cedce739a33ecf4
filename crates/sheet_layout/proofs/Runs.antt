-- Laws of records of one byte each that are laid in a run.
use mathlib.Core.Path.{◌≡◌, refl, sym, ap, ◌∙◌}
use Prim.Native.Nat.{ℕ, zero, suc, ◌+◌, ◌-◌, ◌≤◌, ◌<◌}
use mathlib.Core.Bool.{Bool, true, false}
use mathlib.Core.List.{List, [], ◌∷◌, ◌++◌}
use native.Mathlib.Omega.{arith}
use lib.Dec.{ltb}
use lib.ListN.{length, get_or, set, take, drop, length-set, length-drop}
use lib.Seq.{sets, take-suc, get_or-drop, drop-cons, length-take-le}
use borrow.Author.Tests.{lt-ltb, lt-leb, ltb-true, ltb-false}
use Rattle.sheet_kept.specs.Sets.{sets-append}
use Rattle.sheet_runs.specs.Clauses.{AllPlain, RunIs}
use Rattle.sheet_forms.specs.Model.{shape_of, record_by, record_c}
use Rattle.sheet_layout.specs.Model.{lays_by, lays}
use Rattle.sheet_layout.specs.Clauses.{RunLaidIs}
use Rattle.sheet_forms.specs.declared.Form.{Form}
use Rattle.sheet_forms.specs.declared.Record.{Record}

-- ---- the loop

-- what is laid of a run so far
pub record Laying (s : List ℕ) (p q : ℕ) (b a : List ℕ) (i : ℕ) : Type 0 where
  pub is : a ≡ sets b p (take (i - p) (drop p s))
  pub low : p ≤ i
  pub high : i ≤ q
  pub size : length a ≡ length b

module _ {s : List ℕ} {len p q : ℕ} {b : List ℕ} (r : RunIs s p len q) where
  pub laying-start : Laying s p q b b p
  laying-start =
      let e : 0 ≡ p - p = omega arith in
      record { is = ap (λ (j : ℕ). sets b p (take j (drop p s))) e; low = omega arith; high = r.low; size = refl }

  module _ {a : List ℕ} {i : ℕ} (I : Laying s p q b a i) where
    pub laying-step : i < q → Laying s p q b (set a i (get_or s i 0)) (i + 1)
    laying-step h =
        let j = i - p in
        let d = drop p s in
        let k : j < length d = omega (arith, I.low, r.inside (omega (arith, I.low)), length-drop p s) in
        let e : i + 1 - p ≡ suc j = omega (arith, I.low) in
        let f : p + j ≡ i = omega (arith, I.low) in
        let t : take (i + 1 - p) d ≡ take j d ++ (get_or d j 0 ∷ []) = ap (λ (n : ℕ). take n d) e ∙ take-suc d j 0 k in
        let z : p + length (take j d) ≡ i = omega (arith, length-take-le j d (omega arith)) in
        let v : get_or d j 0 ≡ get_or s i 0 = get_or-drop p s j 0 ∙ ap (λ (n : ℕ). get_or s n 0) f in
        record {
          is =
              ap (λ (l : List ℕ). set l i (get_or s i 0)) I.is
              ∙ ap (λ (x : ℕ). set (sets b p (take j d)) i x) (sym v)
              ∙ ap (λ (n : ℕ). set (sets b p (take j d)) n (get_or d j 0)) (sym z)
              ∙ sym (ap (sets b p) t ∙ sets-append b p (take j d) (get_or d j 0 ∷ []));
          low = omega (arith, I.low);
          high = omega arith;
          size = length-set a i (get_or s i 0) ∙ I.size;
        }

    pub laying-end : q ≤ i → RunLaidIs s len p q b a
    laying-end h =
        let e : i ≡ q = omega (arith, I.high) in
        record { run = r; is = I.is ∙ ap (λ (j : ℕ). sets b p (take (j - p) (drop p s))) e }

    pub laying-in : i < q → i < length s
    laying-in h = omega (arith, r.inside (omega (arith, I.low)))

    pub laying-room : len ≤ length b → i < q → i < length a
    laying-room l h = omega (arith, I.size, r.high (omega (arith, I.low)))

pub ruleset run-laws = (laying-start, laying-step, laying-end, laying-in, laying-room)

-- ---- what is laid of a run

plain-record : (form : Form) (s : List ℕ) (len p t : ℕ) → p < len → get_or s p 0 < 4 → record_c form s len p t ≡ Record.One (get_or s p 0)
unfolding record_c record_by shape_of
plain-record Form.Kept s len p t l h = rw (lt-leb len p l, lt-ltb (get_or s p 0) 4 h)
plain-record Form.Public s len p t l h = rw (lt-leb len p l, lt-ltb (get_or s p 0) 4 h)

-- it is the bytes as they stand
pub lays-run : (form : Form) (s : List ℕ) (len k n p t : ℕ) → k ≤ n → p + k ≤ len → len ≤ length s → AllPlain s p (p + k)
    → lays form n s len p t ≡ take k (drop p s) ++ lays form (n - k) s len (p + k) t
unfolding lays
lays-run form s len zero n p t m l h a =
    let e : n ≡ n - 0 = omega arith in
    let f : p ≡ p + 0 = omega arith in
    ap (λ (i : ℕ). lays form i s len p t) e ∙ ap (λ (i : ℕ). lays form (n - 0) s len i t) f
lays-run form s len (suc k) zero p t m l h a = absurd (omega arith)
lays-run form s len (suc k) (suc n) p t m l h a =
    let b = get_or s p 0 in
    let xs = take k (drop (suc p) s) in
    let d : drop p s ≡ b ∷ drop (suc p) s = drop-cons s p 0 (omega arith) in
    let e : p + 1 ≡ suc p = omega arith in
    let f : t + 0 ≡ t = omega arith in
    let g : n - k ≡ suc n - suc k = omega arith in
    let i : suc p + k ≡ p + suc k = omega arith in
    ap (lays_by (λ q u. lays form n s len q u) p t) (plain-record form s len p t (omega arith) (a p (omega arith) (omega arith)))
    ∙ ap (λ (q : ℕ). b ∷ lays form n s len q (t + 0)) e
    ∙ ap (λ (u : ℕ). b ∷ lays form n s len (suc p) u) f
    ∙ ap (λ (ys : List ℕ). b ∷ ys) (lays-run form s len k n (suc p) t (omega arith) (omega arith) h (λ j x y. a j (omega arith) (omega arith)))
    ∙ ap (λ (j : ℕ). b ∷ (xs ++ lays form j s len (suc p + k) t)) g
    ∙ ap (λ (q : ℕ). b ∷ (xs ++ lays form (suc n - suc k) s len q t)) i
    ∙ sym (ap (λ (ys : List ℕ). take (suc k) ys ++ lays form (suc n - suc k) s len (p + suc k) t) d)

-- no run goes past the end
pub run-upto : {s : List ℕ} {len p q : ℕ} → RunIs s p len q → p ≤ len → q ≤ len
run-upto {s} {len} {p} {q} r l = go (ltb p q) refl
  where
    go : (t : Bool) → ltb p q ≡ t → q ≤ len
    go true e = r.high (ltb-true p q e)
    go false e = omega (arith, ltb-false p q e)

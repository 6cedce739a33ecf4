-- Laws of storing and comparing one record.
use mathlib.Core.Path.{◌≡◌, refl, sym, ap, ◌∙◌}
use Prim.Native.Nat.{ℕ, suc, ◌+◌, ◌≤◌, ◌<◌}
use mathlib.Core.Bool.{Bool, true, false, cond}
use mathlib.Core.List.{List, [], ◌∷◌}
use native.Mathlib.Omega.{arith}
use lib.ListN.{length, get_or, set}
use lib.Seq.{length-sets, lt-length-set}
use lib.Dec.{eqb}
use borrow.Author.Tests.{eq-eqb, ne_eqb}
use Rattle.sheet_forms.specs.Model.{size_of}
use Rattle.sheet_layout.specs.Model.{eq_at}
use Rattle.sheet_layout.specs.Clauses.{SetIs, EqIs, StoreIs, SameIs}
use Rattle.sheet_layout.specs.Compared.{eq_at-append}
use Rattle.sheet_forms.specs.declared.Record.{Record}

-- what a record's case says of its size
module _ {r : Record} where
  size-one : {b : ℕ} → r ≡ Record.One b → 1 ≡ size_of r
  size-one e = rw e

  size-three : {b c d : ℕ} → r ≡ Record.Three b c d → 3 ≡ size_of r
  size-three e = rw e

  size-five : {b c d e f : ℕ} → r ≡ Record.Five b c d e f → 5 ≡ size_of r
  size-five e = rw e

  module _ {p : ℕ} {o : List ℕ} where
    pub store-end : r ≡ Record.End → StoreIs p r o o
    store-end i = record { is = rw i }

    pub store-one : {b : ℕ} → r ≡ Record.One b → StoreIs p r o (set o p b)
    store-one i = record { is = rw i }

    pub store-three : {b c d : ℕ} {a : List ℕ} → r ≡ Record.Three b c d → SetIs p (b ∷ c ∷ d ∷ []) o a → StoreIs p r o a
    store-three i f = record { is = rw i f.is }

    pub store-five : {b c d e f : ℕ} {a : List ℕ} → r ≡ Record.Five b c d e f → SetIs p (b ∷ c ∷ d ∷ e ∷ f ∷ []) o a → StoreIs p r o a
    store-five i g = record { is = rw i g.is }

    pub same_end : r ≡ Record.End → SameIs p r o true
    unfolding eq_at
    same_end i = record { is = rw i }

    pub same-one : {b : ℕ} → r ≡ Record.One b → SameIs p r o (eqb (get_or o p 0) b)
    unfolding eq_at
    same-one {b} i = record { is = rw i (go (eqb (get_or o p 0) b)) }
      where
        go : (t : Bool) → t ≡ cond t true false
        go true = refl
        go false = refl

    pub same-3 : {b c d : ℕ} {u : Bool} → r ≡ Record.Three b c d → EqIs p (b ∷ c ∷ d ∷ []) o u → SameIs p r o u
    same-3 i f = record { is = rw i f.is }

    pub same-5 : {b c d e f : ℕ} {u : Bool} → r ≡ Record.Five b c d e f → EqIs p (b ∷ c ∷ d ∷ e ∷ f ∷ []) o u → SameIs p r o u
    same-5 i g = record { is = rw i g.is }

  -- what a record needs of the part
  module _ (p n : ℕ) (h : p + size_of r ≤ n) where
    pub room-one : {b : ℕ} → r ≡ Record.One b → p < n
    room-one e = omega (arith, size-one e)

    pub room-three : {b c d : ℕ} → r ≡ Record.Three b c d → p + 3 ≤ n
    room-three e = omega (arith, size-three e)

    pub room-five : {b c d e f : ℕ} → r ≡ Record.Five b c d e f → p + 5 ≤ n
    room-five e = omega (arith, size-five e)

pub ruleset store-laws = (store-end, store-one, store-three, store-five, room-one, room-three, room-five)

pub ruleset same-laws = (same_end, same-one, same-3, same-5, room-one, room-three, room-five)

-- bytes stored one behind the other
pub three-stored : {o : List ℕ} {p b c d : ℕ} → SetIs p (b ∷ c ∷ d ∷ []) o (set (set (set o p b) (p + 1) c) (p + 2) d)
three-stored {o} {p} {b} {c} {d} =
    let e : p + 1 ≡ suc p = omega arith in
    let f : p + 2 ≡ suc (suc p) = omega arith in
    record { is = rw (e, f) }

pub five-stored : {o x : List ℕ} {p b c d e f : ℕ} → SetIs p (b ∷ c ∷ d ∷ []) o x → SetIs p (b ∷ c ∷ d ∷ e ∷ f ∷ []) o (set (set x (p + 3) e) (p + 4) f)
five-stored {o} {x} {p} {b} {c} {d} {e} {f} h =
    let i : p + 3 ≡ suc (suc (suc p)) = omega arith in
    let j : p + 4 ≡ suc (suc (suc (suc p))) = omega arith in
    record { is = rw (h.is, i, j) }

pub in-set-1 : (o : List ℕ) (p b : ℕ) → p + 3 ≤ length o → p + 1 < length (set o p b)
in-set-1 o p b h = lt-length-set o p b (omega arith)

pub in-set-2 : (o : List ℕ) (p b c : ℕ) → p + 3 ≤ length o → p + 2 < length (set (set o p b) (p + 1) c)
in-set-2 o p b c h = lt-length-set (set o p b) (p + 1) c (lt-length-set o p b (omega arith))

pub in-set-3 : {o x ys : List ℕ} {p : ℕ} (e : ℕ) → SetIs p ys o x → p + 5 ≤ length o → p + 4 < length (set x (p + 3) e)
in-set-3 {o} {x} {ys} {p} e s h = lt-length-set x (p + 3) e (omega (arith, ap length s.is, length-sets o p ys))

-- bytes compared one behind the other
tested : (t : Bool) → t ≡ cond t true false
tested true = refl
tested false = refl

module _ {s : List ℕ} {p b c d : ℕ} where
  pub three-first : (get_or s p 0 ≡ b → ⊥) → EqIs p (b ∷ c ∷ d ∷ []) s false
  unfolding eq_at
  three-first h = record { is = rw (ne_eqb (get_or s p 0) b h) }

  pub three-second : get_or s p 0 ≡ b → (get_or s (p + 1) 0 ≡ c → ⊥) → EqIs p (b ∷ c ∷ d ∷ []) s false
  unfolding eq_at
  three-second e h =
      let i : p + 1 ≡ suc p = omega arith in
      let h' : get_or s (suc p) 0 ≡ c → ⊥ = rw i at h in
      record { is = rw (eq-eqb (get_or s p 0) b e, ne_eqb (get_or s (suc p) 0) c h') }

  pub three_third : get_or s p 0 ≡ b → get_or s (p + 1) 0 ≡ c → EqIs p (b ∷ c ∷ d ∷ []) s (eqb (get_or s (p + 2) 0) d)
  unfolding eq_at
  three_third e h =
      let i : p + 1 ≡ suc p = omega arith in
      let j : p + 2 ≡ suc (suc p) = omega arith in
      let h' : get_or s (suc p) 0 ≡ c = rw i at h in
      record { is = rw (j, eq-eqb (get_or s p 0) b e, eq-eqb (get_or s (suc p) 0) c h') (tested (eqb (get_or s (suc (suc p)) 0) d)) }

  module _ {u : Bool} (k : EqIs p (b ∷ c ∷ d ∷ []) s u) where
    five : (e f : ℕ) (w : Bool) → u ≡ w → cond w (eq_at s (p + 3) (e ∷ f ∷ [])) false ≡ eq_at s p (b ∷ c ∷ d ∷ e ∷ f ∷ [])
    five e f w i = ap (λ (x : Bool). cond x (eq_at s (p + 3) (e ∷ f ∷ [])) false) (sym i ∙ k.is) ∙ sym (eq_at-append s p (b ∷ c ∷ d ∷ []) (e ∷ f ∷ []))

    pub five-first : {e f : ℕ} → u ≡ false → EqIs p (b ∷ c ∷ d ∷ e ∷ f ∷ []) s false
    five-first {e} {f} i = record { is = five e f false i }

    pub five-fourth : {e f : ℕ} → u ≡ true → (get_or s (p + 3) 0 ≡ e → ⊥) → EqIs p (b ∷ c ∷ d ∷ e ∷ f ∷ []) s false
    unfolding eq_at
    five-fourth {e} {f} i h = record { is = rw (ne_eqb (get_or s (p + 3) 0) e h) at (five e f true i) }

    pub five-fifth : {e f : ℕ} → u ≡ true → get_or s (p + 3) 0 ≡ e → EqIs p (b ∷ c ∷ d ∷ e ∷ f ∷ []) s (eqb (get_or s (p + 4) 0) f)
    unfolding eq_at
    five-fifth {e} {f} i h =
        let j : p + 4 ≡ suc (p + 3) = omega arith in
        record { is = ap (λ (x : ℕ). eqb (get_or s x 0) f) j ∙ tested (eqb (get_or s (suc (p + 3)) 0) f) ∙ (rw (eq-eqb (get_or s (p + 3) 0) e h) at (five e f true i)) }

pub ruleset same-three-laws = (three-first, three-second, three_third)

pub ruleset same-five-laws = (five-first, five-fourth, five-fifth)

pub ruleset store-three-laws = (three-stored, in-set-1, in-set-2)

pub ruleset store-five-laws = (five-stored, in-set-3)

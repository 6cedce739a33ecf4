-- A law for each place where `is_sole` returns.
use mathlib.Core.Path.{◌≡◌}
use Prim.Native.Nat.{ℕ, ◌+◌, ◌*◌, ◌≤◌, ◌<◌}
use mathlib.Core.Bool.{true, false}
use mathlib.Core.List.{List}
use native.Mathlib.Omega.{arith}
use Rattle.text_chars.specs.Clash.{clash}
use Rattle.doc_items.specs.Writing.{ReadIs}
use Rattle.eval_pieces.specs.Cursor.Contracts.{EndIs, Sole, SoleIs}

not-sole : {T : List ℕ} {item : ℕ} → (Sole T item → ⊥) → SoleIs T item false
not-sole f = record { yes = λ e. clash (cc (e)); no = λ e. f }

module _ {T : List ℕ} {item end : ℕ} (h : EndIs T item end) where
  pub sole_none : end ≤ item + 1 → SoleIs T item false
  sole_none l = not-sole (λ s. omega (arith, h.is, s.some))

  pub sole-literal : {k : ℕ} → ReadIs T (8 * (item + 1)) k → k < 25 → SoleIs T item false
  sole-literal r l = not-sole (λ s. omega (arith, r.is, s.kind))

  pub sole-several : {n : ℕ} → ReadIs T (8 * (item + 1) + 1) n → (item + 1 + n ≡ end → ⊥) → SoleIs T item false
  sole-several r f = not-sole (λ s. f (omega (arith, h.is, r.is, s.one)))

  pub sole-one : {k n : ℕ} → item + 1 < end → ReadIs T (8 * (item + 1)) k → 25 ≤ k → ReadIs T (8 * (item + 1) + 1) n → item + 1 + n ≡ end
      → SoleIs T item true
  sole-one l r m q e = record {
    yes = λ z. record { some = omega (arith, h.is); kind = omega (arith, r.is); one = omega (arith, h.is, q.is) };
    no = λ z. clash (cc (z));
  }

pub ruleset sole-laws = (sole_none, sole-literal, sole-several, sole-one)

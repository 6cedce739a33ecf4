-- As many elements of a key are allowed as its three limits allow.
use Rattle.std.specs.Prelude.{◌≡◌, refl, ℕ, ◌<◌, Bool, true, false, ◌↔◌, ltb}
use Rattle.std.proofs.Common.{arith, ltb-true, ltb-false}
use Rattle.rules.specs.Reading.{allowed_keys}
use Rattle.theory_plain.specs.Keys.{Allowed}

-- The elements before the number `allowed_keys` are allowed, and no others.
pub allowed-exactly : (nesting items i : ℕ) → (i < allowed_keys nesting items) ↔ Allowed nesting items i
allowed-exactly nesting items i = (
  λ h. record { elements = omega arith; counted = omega arith; nested = omega arith },
  λ a. omega (arith, a.elements, a.counted, a.nested),
)

-- So the first element over a limit is the one of that number.
pub first-over : (nesting items i : ℕ) → (Allowed nesting items i → ⊥) → ((j : ℕ) → j < i → Allowed nesting items j)
    → i ≡ allowed_keys nesting items
first-over nesting items i over before = go (ltb i (allowed_keys nesting items)) refl (ltb (allowed_keys nesting items) i) refl
  where
    go : (t : Bool) → ltb i (allowed_keys nesting items) ≡ t → (u : Bool) → ltb (allowed_keys nesting items) i ≡ u
        → i ≡ allowed_keys nesting items
    go true e u f = absurd (over ((allowed-exactly nesting items i).0 (ltb-true i (allowed_keys nesting items) e)))
    go false e true f =
        let a = allowed_keys nesting items in
        let less = (allowed-exactly nesting items a).1 (before a (ltb-true a i f)) in
        absurd (omega (arith, less))
    go false e false f = omega (arith, ltb-false i (allowed_keys nesting items) e, ltb-false (allowed_keys nesting items) i f)

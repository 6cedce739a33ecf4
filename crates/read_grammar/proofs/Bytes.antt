-- A byte that was read, and the cursor past it.
use mathlib.Core.Path.{◌≡◌, refl, sym, ◌∙◌}
use mathlib.Core.Bool.{Bool, true, false}
use mathlib.Core.List.{List}
use Prim.Native.Nat.{ℕ, ◌+◌, ◌≤◌, ◌<◌}
use native.Mathlib.Omega.{arith}
use lib.Dec.{ltb, eqb}
use lib.ListN.{length}
use borrow.Author.Tests.{eq-eqb, ne_eqb, ltb-true, ltb-false}
use Rattle.rules.specs.Bytes.{byte_at}
use Rattle.theory_text.specs.Places.{byte_past, byte_inside}
use Rattle.theory_text.specs.Ascii.{ascii-next}
use Rattle.text_chars.specs.Cursor.{ByteIs}
use Rattle.text_scan.specs.Scan.{SeenIs}
use Rattle.text_chars.specs.declared.Step.{Step}

module _ {s : List ℕ} {at b : ℕ} (k : ByteIs s at b) where
  pub is_byte : (n : ℕ) → b ≡ n → eqb (byte_at s at) n ≡ true
  is_byte n e = eq-eqb (byte_at s at) n (sym k.is ∙ e)

  pub not_byte : (n : ℕ) → (b ≡ n → ⊥) → eqb (byte_at s at) n ≡ false
  not_byte n z = ne_eqb (byte_at s at) n (λ e. z (k.is ∙ e))

  pub byte-within : b < 256 → at < length s
  byte-within h = byte_inside s at b h (is_byte b refl)

  -- no byte is 256
  pub byte-end : at ≤ length s → b ≡ 256 → at ≡ length s
  byte-end h e = go (ltb at (length s)) refl
    where
      go : (t : Bool) → ltb at (length s) ≡ t → at ≡ length s
      go true u = let z : b < 256 = k.small (ltb-true at (length s) u) in absurd (omega arith)
      go false u = let z : length s ≤ at = ltb-false at (length s) u in omega arith

  pub byte-before : at ≤ length s → (b ≡ 256 → ⊥) → at < length s
  byte-before h n = go (ltb at (length s)) refl
    where
      go : (t : Bool) → ltb at (length s) ≡ t → at < length s
      go true u = ltb-true at (length s) u
      go false u = absurd (n (k.is ∙ byte_past s at (ltb-false at (length s) u)))

-- the cursor past an ASCII byte
pub one_on : {s : List ℕ} {at : ℕ} {r : Step} → SeenIs s at r → byte_at s at < 128 → r.next.at.0 ≡ at + 1
one_on {s} {at} k h =
    k.next ∙ ascii-next s at (byte_inside s at (byte_at s at) (omega arith) (eq-eqb (byte_at s at) (byte_at s at) refl)) h

-- A byte is at most 256, which stands for the end.
use Rattle.std.specs.Prelude.{◌≡◌, refl, ℕ, ◌≤◌, Bool, true, false, List, ltb, length}
use Rattle.std.proofs.Common.{arith, ltb-true, ltb-false}
use Rattle.theory_text.specs.Places.{byte_past}
use Rattle.text_chars.specs.Cursor.{ByteIs}

pub byte_le : {s : List ℕ} {at b : ℕ} → ByteIs s at b → b ≤ 256
byte_le {s} {at} {b} h = go (ltb at (length s)) refl
  where
    go : (t : Bool) → ltb at (length s) ≡ t → b ≤ 256
    go true e = omega (arith, h.small (ltb-true at (length s) e))
    go false e = omega (arith, h.is, byte_past s at (ltb-false at (length s) e))

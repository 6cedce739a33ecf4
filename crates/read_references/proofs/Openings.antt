-- One law for each answer of the function that reads a substitution's first bytes.
use mathlib.Core.Path.{◌≡◌, refl, sym, ◌∙◌, ap}
use mathlib.Core.Bool.{Bool, true, false}
use mathlib.Core.List.{List}
use Prim.Native.Nat.{ℕ, ◌+◌, ◌<◌}
use native.Mathlib.Omega.{arith}
use lib.Dec.{ltb}
use lib.ListN.{length, get_or-eq_default}
use borrow.Author.Tests.{ltb-true, ltb-false, eq-eqb, ne_eqb}
use Rattle.rules.specs.Bytes.{byte_at}
use Rattle.rules.specs.Characters.{after_inline}
use Rattle.rules.specs.Paths.{braced, substitution_at}
use Rattle.theory_text.specs.Ascii.{ascii-character, ascii-byte, ascii-next}
use Rattle.text_chars.specs.declared.Cursor.{Cursor}
use Rattle.text_scan.specs.Scan.{SeenIs, EndIs}
use Rattle.text_chars.specs.declared.Step.{Step}
use Rattle.read_references.specs.References.{OpenedAsked, OpenedIs}

-- a byte stands inside the text
pub byte_inside : (s : List ℕ) (at : ℕ) → byte_at s at < 256 → at < length s
byte_inside s at h = go (ltb at (length s)) refl
  where
    go : (t : Bool) → ltb at (length s) ≡ t → at < length s
    go true e = ltb-true at (length s) e
    go false e = let z : byte_at s at ≡ 256 = get_or-eq_default s 256 (ltb-false at (length s) e) in absurd (omega arith)

-- the place after an ASCII byte
past_ascii : {s : List ℕ} {at : ℕ} {r : Step} → SeenIs s at r → (b : ℕ) → b < 128 → byte_at s at ≡ b → r.next.at.0 ≡ at + 1
past_ascii {s} {at} k b l e = k.next ∙ ascii-next s at (byte_inside s at (omega arith)) (omega arith)

module _ {s : List ℕ} {at : ℕ} (a : OpenedAsked s at) {d b e : Step} (h : SeenIs s at d) (i : SeenIs s d.next.at.0 b)
    (j : SeenIs s b.next.at.0 e) where
  third : b.next.at.0 ≡ at + 2
  third =
      let second : d.next.at.0 ≡ at + 1 = past_ascii h 36 (omega arith) a.dollar in
      let z : b.next.at.0 ≡ d.next.at.0 + 1 = past_ascii i 123 (omega arith) (ap (byte_at s) second ∙ a.brace) in
      omega arith

  pub opened-optional : {r : Cursor} → e.ch ≡ 63 → EndIs s e.next.at.0 (after_inline s e.next.at.0) r
      → OpenedIs s at (record { optional = true; next = r })
  unfolding substitution_at
  opened-optional {r} q k =
      let p : b.next.at.0 ≡ at + 2 = third in
      let y : byte_at s b.next.at.0 ≡ 63 = ascii-byte s b.next.at.0 (omega (arith, j.is)) ∙ sym j.is ∙ q in
      let f : e.next.at.0 ≡ at + 3 = past_ascii j 63 (omega arith) y ∙ (let w : b.next.at.0 + 1 ≡ at + 3 = omega arith in w) in
      record {
        is = rw (eq-eqb (byte_at s (at + 2)) 63 (ap (byte_at s) (sym p) ∙ y), substitution_at)
            (ap (braced s at true) (ap (after_inline s) (sym f) ∙ sym k.is));
        forward = omega (arith, k.forward);
        inside = k.inside;
      }

  pub opened-required : {r : Cursor} → (e.ch ≡ 63 → ⊥) → EndIs s b.next.at.0 (after_inline s b.next.at.0) r
      → OpenedIs s at (record { optional = false; next = r })
  unfolding substitution_at
  opened-required {r} q k =
      let p : b.next.at.0 ≡ at + 2 = third in
      let y : byte_at s (at + 2) ≡ 63 → ⊥ = λ z.
      let w : byte_at s b.next.at.0 ≡ 63 = ap (byte_at s) p ∙ z in
      q (j.is ∙ ascii-character s b.next.at.0 (omega arith) ∙ w) in
      record {
        is = rw (ne_eqb (byte_at s (at + 2)) 63 y, substitution_at) (ap (braced s at false) (ap (after_inline s) (sym p) ∙ sym k.is));
        forward = omega (arith, k.forward);
        inside = k.inside;
      }

pub ruleset openings = (opened-optional, opened-required)

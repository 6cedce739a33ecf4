-- One law for each answer of the functions that go on to a member or a value.
use Rattle.std.specs.Prelude.{Ok, Err}
use mathlib.Core.Path.{◌≡◌, refl, sym, ◌∙◌, ap}
use mathlib.Core.Bool.{Bool, true, false, ◌||◌}
use mathlib.Core.List.{List}
use Prim.Native.Nat.{ℕ, ◌+◌, ◌<◌}
use native.Mathlib.Omega.{arith}
use lib.Dec.{eqb}
use Rattle.rules.specs.Bytes.{byte_at}
use Rattle.rules.specs.Refusals.{placed, not_allowed, Scan, ok, refused}
use Rattle.rules.specs.Characters.{gap_at, after_gap}
use Rattle.rules.specs.Reading.{parted, value_place}
use Rattle.text_chars.specs.Cursor.{refusal, ByteIs}
use Rattle.text_chars.specs.declared.Cursor.{Cursor}
use Rattle.text_scan.specs.Scan.{SeenIs, EndIs, GapIs}
use Rattle.text_chars.specs.declared.Step.{Step}
use Rattle.text_scan.specs.declared.Gap.{Gap}
use Rattle.read_grammar.specs.Decisions.{PlaceIs, NotAllowedIs}
use Rattle.read_grammar.proofs.Bytes.{is_byte, not_byte, one_on}

-- ---- behind a byte

pub behind-end : {s : List ℕ} {at : ℕ} {r : Step} {g : Gap} → SeenIs s at r → byte_at s at < 128 → GapIs s r.next.at.0 g
    → EndIs s at (after_gap s (at + 1)) g.next
behind-end {s} {at} {r} {g} k h j =
    record { is = j.is ∙ ap (after_gap s) (one_on k h); forward = omega (arith, k.forward, j.forward); inside = j.inside }

-- ---- members

-- the rule from the gap's end on; stated apart, so that the gap stays whole where the tests are worked out
abbrev parted_by : ℕ → List ℕ → ℕ → Bool → Scan ℕ
parted_by closing s p newline =
    elim (eqb (byte_at s p) 44) [
      | true ↦ ok p (after_gap s (p + 1))
      | false ↦ elim (eqb (byte_at s p) 256 || eqb (byte_at s p) closing || newline) [ true ↦ ok p p | false ↦ refused (placed 3 p) ]
    ]

module _ (closing : ℕ) {s : List ℕ} {at b : ℕ} {g : Gap} (j : GapIs s at g) (k : ByteIs s g.next.at.0 b) where
  parted-gap : parted closing s at ≡ parted_by closing s g.next.at.0 g.newline
  unfolding parted
  parted-gap =
      ap (λ p. parted_by closing s p (gap_at s at).newline) (sym j.is)
      ∙ ap (λ n. parted_by closing s g.next.at.0 n) (sym j.newline)

  -- the gap's end is the place
  stays : parted_by closing s g.next.at.0 g.newline ≡ ok g.next.at.0 g.next.at.0
      → PlaceIs (parted closing s at) s at (Ok g.next)
  stays e = record { is = (g.next.at.0, parted-gap ∙ e, j.forward, j.inside) }

  pub parted-comma : {c : Cursor} → b ≡ 44 → EndIs s g.next.at.0 (after_gap s (g.next.at.0 + 1)) c
      → PlaceIs (parted closing s at) s at (Ok c)
  parted-comma e h = record {
    is = (
      g.next.at.0,
      parted-gap ∙ rw (is_byte k 44 e, parted_by) (ap (ok g.next.at.0) (sym h.is)),
      omega (arith, j.forward, h.forward),
      h.inside,
    );
  }

  module _ (n : b ≡ 44 → ⊥) where
    pub parted-end : b ≡ 256 → PlaceIs (parted closing s at) s at (Ok g.next)
    parted-end e = stays (rw (not_byte k 44 n, is_byte k 256 e, parted_by))

    module _ (m : b ≡ 256 → ⊥) where
      pub parted-closing : b ≡ closing → PlaceIs (parted closing s at) s at (Ok g.next)
      parted-closing e = stays (rw (not_byte k 44 n, not_byte k 256 m, is_byte k closing e, parted_by))

      module _ (z : b ≡ closing → ⊥) where
        pub parted-newline : g.newline ≡ true → PlaceIs (parted closing s at) s at (Ok g.next)
        parted-newline e = stays (rw (not_byte k 44 n, not_byte k 256 m, not_byte k closing z, e, parted_by))

        pub parted-refused : g.newline ≡ false → PlaceIs (parted closing s at) s at (Err (refusal 3 g.next.at))
        parted-refused e = record {
          is = (
            placed 3 g.next.at.0,
            parted-gap ∙ rw (not_byte k 44 n, not_byte k 256 m, not_byte k closing z, e, parted_by),
            refl,
            refl,
          );
        }

pub ruleset partings = (parted-comma, parted-end, parted-closing, parted-newline, parted-refused)

-- ---- key and value

abbrev value_by : List ℕ → ℕ → Scan ℕ
value_by s p =
    elim (eqb (byte_at s p) 58 || eqb (byte_at s p) 61) [
      | true ↦ ok p (after_gap s (p + 1))
      | false ↦ elim (eqb (byte_at s p) 123) [ true ↦ ok p p | false ↦ refused (not_allowed s p) ]
    ]

module _ {s : List ℕ} {at b : ℕ} {g : Gap} (j : GapIs s at g) (k : ByteIs s g.next.at.0 b) where
  value-gap : value_place s at ≡ value_by s g.next.at.0
  unfolding value_place
  value-gap = ap (value_by s) (sym j.is)

  module _ {c : Cursor} (h : EndIs s g.next.at.0 (after_gap s (g.next.at.0 + 1)) c) where
    goes : value_by s g.next.at.0 ≡ ok g.next.at.0 (after_gap s (g.next.at.0 + 1)) → PlaceIs (value_place s at) s at (Ok c)
    goes e = record {
      is = (
        g.next.at.0,
        value-gap ∙ e ∙ ap (ok g.next.at.0) (sym h.is),
        omega (arith, j.forward, h.forward),
        h.inside,
      );
    }

    pub value-colon : b ≡ 58 → PlaceIs (value_place s at) s at (Ok c)
    value-colon e = goes (rw (is_byte k 58 e, value_by))

    pub value-equals : (b ≡ 58 → ⊥) → b ≡ 61 → PlaceIs (value_place s at) s at (Ok c)
    value-equals n e = goes (rw (not_byte k 58 n, is_byte k 61 e, value_by))

  module _ (n : b ≡ 58 → ⊥) (m : b ≡ 61 → ⊥) where
    pub value-brace : b ≡ 123 → PlaceIs (value_place s at) s at (Ok g.next)
    value-brace e = record {
      is = (g.next.at.0, value-gap ∙ rw (not_byte k 58 n, not_byte k 61 m, is_byte k 123 e, value_by), j.forward, j.inside);
    }

    pub value-refused : {r : ℕ} → (b ≡ 123 → ⊥) → NotAllowedIs s g.next.at.0 r
        → PlaceIs (value_place s at) s at (Err (refusal r g.next.at))
    value-refused z h = record {
      is = (
        not_allowed s g.next.at.0,
        value-gap ∙ rw (not_byte k 58 n, not_byte k 61 m, not_byte k 123 z, value_by),
        h.number,
        h.place,
      );
    }

pub ruleset values = (value-colon, value-equals, value-brace, value-refused)

-- The code points of an escape: one law for each answer.
use mathlib.Core.Path.{◌≡◌, sym, ap, ◌∙◌}
use mathlib.Core.Bool.{Bool, true, false}
use mathlib.Core.List.{List}
use Rattle.std.specs.Prelude.{Result, Ok, Err}
use Prim.Native.Nat.{ℕ, ◌≤◌}
use native.Mathlib.Omega.{arith}
use lib.ListN.{length}
use Rattle.rules.specs.Refusals.{placed, ok, refused, and_then}
use Rattle.rules.specs.Utf8.{encoded}
use Rattle.rules.specs.Strings.{is_high, is_low, mate_of, unicode_escape}
use Rattle.text_chars.specs.declared.DocAt.{DocAt}
use Rattle.text_chars.specs.Cursor.{refusal}
use Rattle.text_chars.specs.declared.Cursor.{Cursor}
use Rattle.text_chars.specs.declared.Refusal.{Refusal}
use Rattle.text_escapes.specs.Units.{unit_scan, UnitFar, UnitIs, PairIs}
use Rattle.text_escapes.specs.Ranges.{high-least, high-most, low-least, low-most}
use Rattle.text_escapes.specs.declared.units.Unit.{Unit as CodeUnit}
use Rattle.text_escapes.specs.Clauses.{expect_scan, ExpectFar, ExpectIs, point, PointFar, PointIs}
use Rattle.text_escapes.specs.declared.CodePoint.{CodePoint}

module _ {s : List ℕ} {first at : ℕ} (high : ℕ) {r : Result Cursor Refusal} (h : ExpectIs 92 s first at r) where
  pub mate-none : {x : Refusal} → r ≡ Err x → PointIs (mate_of s first high at) s at (Err x)
  unfolding mate_of
  mate-none e = record { is = rw (h.is ∙ ap (expect_scan 92) e, mate_of); far = tt }

  module _ {c : Cursor} (e : r ≡ Ok c) {q : Result Cursor Refusal} (k : ExpectIs 117 s first c.at.0 q) where
    pub mate-bare : {x : Refusal} → q ≡ Err x → PointIs (mate_of s first high at) s at (Err x)
    unfolding mate_of
    mate-bare f = record { is = rw (h.is ∙ ap (expect_scan 92) e, k.is ∙ ap (expect_scan 117) f, mate_of); far = tt }

    module _ {d : Cursor} (f : q ≡ Ok d) {u : Result CodeUnit Refusal} (l : UnitIs s first d.at.0 u) where
      pub mate-short : {x : Refusal} → u ≡ Err x → PointIs (mate_of s first high at) s at (Err x)
      unfolding mate_of
      mate-short g = record { is = rw (h.is ∙ ap (expect_scan 92) e, k.is ∙ ap (expect_scan 117) f, l.is ∙ ap unit_scan g, mate_of); far = tt }

      module _ {low : CodeUnit} (g : u ≡ Ok low) {t : Bool} (i : t ≡ is_low low.unit) where
        pub mate-high : {place : DocAt} → place.0 ≡ first → t ≡ false → PointIs (mate_of s first high at) s at (Err (refusal 5 place))
        unfolding mate_of
        mate-high {place} w j = record {
          is = rw (h.is ∙ ap (expect_scan 92) e, k.is ∙ ap (expect_scan 117) f, l.is ∙ ap unit_scan g, sym i ∙ j, mate_of, and_then)
              (ap (λ (n : ℕ). refused (placed 5 n)) (sym w));
          far = tt;
        }

        pub mate-pair : {p : ℕ} → t ≡ true → PairIs high low.unit p → PointIs (mate_of s first high at) s at (Ok (point p low.next))
        unfolding mate_of
        mate-pair {p} j m =
            let x : ExpectFar (length s) at (Ok c) = rw e at h.far in
            let y : ExpectFar (length s) c.at.0 (Ok d) = rw f at k.far in
            let z : UnitFar (length s) d.at.0 (Ok low) = rw g at l.far in
            record {
              is = rw (h.is ∙ ap (expect_scan 92) e, k.is ∙ ap (expect_scan 117) f, l.is ∙ ap unit_scan g, sym i ∙ j, mate_of, and_then)
                  (ap (λ (n : ℕ). ok (encoded n) low.next.at.0) (sym m.is));
              far = (m.small, omega arith, z.2);
            }

pub ruleset mates = (arith, mate-none, mate-bare, mate-short, mate-high, mate-pair, low-least, low-most)

point-far : (len at p : ℕ) (q : Result CodePoint Refusal) → at ≤ p → PointFar len p q → PointFar len at q
point-far len at p (Ok v) h f = (f.0, omega arith, f.2)
point-far len at p (Err x) h f = tt

module _ {s : List ℕ} {first at : ℕ} {r : Result CodeUnit Refusal} (h : UnitIs s first at r) where
  pub unicode-short : {x : Refusal} → r ≡ Err x → PointIs (unicode_escape s first at) s at (Err x)
  unfolding unicode_escape
  unicode-short e = record { is = rw (h.is ∙ ap unit_scan e, unicode_escape); far = tt }

  module _ {v : CodeUnit} (e : r ≡ Ok v) {t : Bool} (i : t ≡ is_low v.unit) where
    pub unicode-low : {place : DocAt} → place.0 ≡ first → t ≡ true → PointIs (unicode_escape s first at) s at (Err (refusal 5 place))
    unfolding unicode_escape
    unicode-low {place} w j = record {
      is = rw (h.is ∙ ap unit_scan e, sym i ∙ j, unicode_escape, and_then) (ap (λ (n : ℕ). refused (placed 5 n)) (sym w));
      far = tt;
    }

    module _ (j : t ≡ false) {u : Bool} (k : u ≡ is_high v.unit) where
      pub unicode-mate : {q : Result CodePoint Refusal} → u ≡ true → PointIs (mate_of s first v.unit v.next.at.0) s v.next.at.0 q
          → PointIs (unicode_escape s first at) s at q
      unfolding unicode_escape
      unicode-mate {q} l m =
          let z : UnitFar (length s) at (Ok v) = rw e at h.far in
          record {
            is = rw (h.is ∙ ap unit_scan e, sym i ∙ j, sym k ∙ l, unicode_escape, and_then) m.is;
            far = point-far (length s) at v.next.at.0 q (omega arith) m.far;
          }

      pub unicode-plain : u ≡ false → PointIs (unicode_escape s first at) s at (Ok (point v.unit v.next))
      unfolding unicode_escape
      unicode-plain l =
          let z : UnitFar (length s) at (Ok v) = rw e at h.far in
          record { is = rw (h.is ∙ ap unit_scan e, sym i ∙ j, sym k ∙ l, unicode_escape, and_then); far = (omega arith, omega arith, z.2) }

pub ruleset unicodes = (arith, unicode-short, unicode-low, unicode-mate, unicode-plain, high-least, high-most)

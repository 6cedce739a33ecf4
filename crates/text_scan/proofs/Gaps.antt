-- One law for each answer of the functions that find comments and gaps.
use mathlib.Core.Path.{◌≡◌, refl, sym, ◌∙◌, ap}
use mathlib.Core.Bool.{Bool, true, false, ◌||◌}
use mathlib.Core.List.{List}
use Prim.Native.Nat.{ℕ, zero, suc, ◌+◌, ◌-◌, ◌≤◌, ◌<◌}
use native.Mathlib.Omega.{arith}
use lib.ListN.{length, get_or}
use lib.Dec.{eqb}
use borrow.Author.Tests.{ne_eqb}
use Rattle.rules.specs.Bytes.{byte_at}
use Rattle.rules.specs.Characters.{next_place, character_at, is_newline, is_space, starts_comment, line_end, gap_from, gap_at}
use Rattle.theory_text.specs.Ascii.{ascii-character}
use Rattle.theory_text.specs.Places.{inside, character-past, next-forward, comment-forward, gap-stable}
use Rattle.text_chars.specs.Cursor.{cur}
use Rattle.text_chars.specs.declared.Cursor.{Cursor}
use Rattle.text_scan.specs.Scan.{SeenIs, EndIs, BlanksIs, rest, Passes, PassedIs, GapIs}
use Rattle.text_chars.specs.declared.Step.{Step}
use Rattle.std.specs.Prelude.{Option, Some, None}
use Rattle.text_scan.specs.declared.Gap.{Gap}
use Rattle.text_scan.specs.Looks.{get_d_any, byte_next, visible, byte-eqb, is_byte, not_byte, ascii-next}

-- ---- the start of a comment

module _ {s : List ℕ} {at : ℕ} {r : Step} (k : SeenIs s at r) where
  pub comment-hash : r.ch ≡ 35 → true ≡ starts_comment s at
  unfolding starts_comment
  comment-hash e = rw (is_byte k 35 (omega arith) e, starts_comment)

  pub comment-slash : {r₂ : Step} → SeenIs s r.next.at.0 r₂ → r.ch ≡ 47 → eqb r₂.ch 47 ≡ starts_comment s at
  unfolding starts_comment
  comment-slash {r₂} k₂ e =
      let j : eqb (byte_at s (at + 1)) 47 ≡ eqb r₂.ch 47 = rw (ascii-next k (omega arith)) at (byte-eqb k₂ 47 (omega arith)) in
      rw (not_byte k 35 (omega arith) (λ z. omega arith), is_byte k 47 (omega arith) e, starts_comment) (sym j)

  pub comment-none : (r.ch ≡ 35 → ⊥) → (r.ch ≡ 47 → ⊥) → false ≡ starts_comment s at
  unfolding starts_comment
  comment-none n m = rw (not_byte k 35 (omega arith) n, not_byte k 47 (omega arith) m, starts_comment)

pub ruleset comments = (comment-hash, comment-slash, comment-none)

-- ---- a gap, step by step

module _ (s : List ℕ) where
  space-moves : (p : ℕ) → is_space (character_at s p) ≡ true → (p < length s) × (p < next_place s p)
  space-moves p e = let h = inside s p (λ past. rw (character-past s p past)) e in (h, next-forward s p h)

  gap-space : (n at : ℕ) (newline : Bool) → length s - at ≤ n → is_space (character_at s at) ≡ true
      → gap_from n s at newline ≡ gap_from n s (next_place s at) (newline || is_newline (character_at s at))
  unfolding gap_from
  gap-space zero at newline h e = absurd (omega (arith, (space-moves at e).0))
  gap-space (suc n) at newline h e =
      let m = space-moves at e in
      rw (e, gap_from) (gap-stable s n (suc n) (next_place s at) (newline || is_newline (character_at s at)) (omega arith) (omega arith))

  gap-comment : (n at : ℕ) (newline : Bool) → length s - at ≤ n → is_space (character_at s at) ≡ false → starts_comment s at ≡ true
      → gap_from n s at newline ≡ gap_from n s (line_end s at) newline
  unfolding gap_from
  gap-comment zero at newline h e c = absurd (omega (arith, (comment-forward s at c).0))
  gap-comment (suc n) at newline h e c =
      let m = comment-forward s at c in
      rw (e, c, gap_from) (gap-stable s n (suc n) (line_end s at) newline (omega arith) (omega arith))

  gap_ends : (n at : ℕ) (newline : Bool) → is_space (character_at s at) ≡ false → starts_comment s at ≡ false
      → gap_from n s at newline ≡ record { place = at; newline = newline }
  unfolding gap_from
  gap_ends zero at newline e c = refl
  gap_ends (suc n) at newline e c = rw (e, c, gap_from)

or-true : (b : Bool) → (b || true) ≡ true
or-true true = refl
or-true false = refl

or-false : (b : Bool) → (b || false) ≡ b
or-false true = refl
or-false false = refl

module _ {s : List ℕ} {g : Gap} {r : Step} (k : SeenIs s g.next.at.0 r) where
  space-on : is_space (character_at s g.next.at.0) ≡ true → {b : Bool} → (g.newline || is_newline (character_at s g.next.at.0)) ≡ b
      → PassedIs s g (Some (record { next = r.next; newline = b }))
  space-on e {b} j =
      let m = space-moves s g.next.at.0 e in
      record {
        is = (
          gap-space s (length s) g.next.at.0 g.newline (omega arith) e
              ∙ ap (λ z. gap_from (length s) s (next_place s g.next.at.0) z) j
              ∙ ap (λ z. gap_from (length s) s z b) (sym k.next),
          omega (arith, k.next),
          k.inside,
        );
      }

  pub pass-newline : r.ch ≡ 10 → PassedIs s g (Some (record { next = r.next; newline = true }))
  pass-newline e =
      let c : character_at s g.next.at.0 ≡ 10 = sym k.is ∙ e in
      space-on (rw c) (rw c (or-true g.newline))

  -- no gap begins with a visible ASCII character past the slash
  pub pass-visible : 47 < r.ch → r.ch < 128 → PassedIs s g None
  pass-visible l h = record {
    is =
        gap_ends s (length s) g.next.at.0 g.newline (rw (← k.is) (visible r.ch (omega arith) h))
        (sym (comment-none k (λ e. omega arith) (λ e. omega arith)));
  }

  module _ {f : Bool} (i : f ≡ is_space r.ch) where
    pub pass-space : {c : Cursor} → BlanksIs s r.next.at.0 c → (r.ch ≡ 10 → ⊥) → f ≡ true
        → PassedIs s g (Some (record { next = c; newline = g.newline }))
    pass-space b n e =
        let l : (g.newline || is_newline (character_at s g.next.at.0)) ≡ g.newline = rw (← k.is, ne_eqb r.ch 10 n) (or-false g.newline) in
        let m : Passes s g (Some (record { next = r.next; newline = g.newline })) = (space-on (rw (← k.is) (sym i ∙ e)) l).is in
        record { is = (m.0 ∙ b.still g.newline, omega (arith, m.1, b.forward), b.inside) }

    module _ {t : Bool} (j : t ≡ starts_comment s g.next.at.0) where
      pub pass-comment : {e : Cursor} → f ≡ false → t ≡ true → EndIs s g.next.at.0 (line_end s g.next.at.0) e
          → PassedIs s g (Some (record { next = e; newline = g.newline }))
      pass-comment z u h = record {
        is = (
          gap-comment s (length s) g.next.at.0 g.newline (omega arith) (rw (← k.is) (sym i ∙ z)) (sym j ∙ u)
              ∙ ap (λ p. gap_from (length s) s p g.newline) (sym h.is),
          omega (arith, h.is, (comment-forward s g.next.at.0 (sym j ∙ u)).1),
          h.inside,
        );
      }

      pub pass-done : f ≡ false → t ≡ false → PassedIs s g None
      pass-done z u = record {
        is = gap_ends s (length s) g.next.at.0 g.newline (rw (← k.is) (sym i ∙ z)) (sym j ∙ u);
      }

pub ruleset passes = (pass-visible, pass-newline, pass-space, pass-comment, pass-done)

-- ---- blanks

pub blanks-start : {s : List ℕ} {p : ℕ} → p ≤ length s → BlanksIs s p (cur p)
blanks-start h = record { still = λ n. refl; forward = omega arith; inside = h }

pub blanks-on : {s : List ℕ} {at p : ℕ} → BlanksIs s at (cur p) → p < length s → get_or s p 0 ≡ 32 → BlanksIs s at (cur (p + 1))
blanks-on {s} {at} {p} b h e =
    let c : byte_at s p ≡ 32 = get_d_any s p 256 0 h ∙ e in
    let d : character_at s p ≡ 32 = ascii-character s p (omega arith) ∙ c in
    record {
      still = λ n. b.still n ∙ gap-space s (length s) p n (omega arith) (rw d) ∙ rw (d, byte_next s p (omega arith), or-false n);
      forward = omega (arith, b.forward);
      inside = omega arith;
    }

pub blanks-out : {s : List ℕ} {at p : ℕ} → BlanksIs s at (cur p) → length s ≤ p → BlanksIs s at (cur (length s))
blanks-out {s} {at} {p} b h = let e : p ≡ length s = omega (arith, b.inside) in rw e at b

pub ruleset blanks = (arith, blanks-start, blanks-on, blanks-out)

-- ---- the loop

-- what the loop keeps: what is still to come makes up the whole gap
pub record Widening (s : List ℕ) (at : ℕ) (g : Gap) : Type 0 where
  pub still : rest s g ≡ gap_at s at
  pub forward : at ≤ g.next.at.0
  pub inside : g.next.at.0 ≤ length s

pub gap-start : {s : List ℕ} {c : Cursor} → c.at.0 ≤ length s → Widening s c.at.0 (record { next = c; newline = false })
unfolding gap_at
gap-start h = record { still = refl; forward = omega arith; inside = h }

module _ {s : List ℕ} {g : Gap} {r : Option Gap} (k : PassedIs s g r) where
  module _ {h : Gap} (e : r ≡ Some h) where
    went : (rest s g ≡ rest s h) × (g.next.at.0 < h.next.at.0) × (h.next.at.0 ≤ length s)
    went = rw e at k.is

    pub gap-on : {at : ℕ} → Widening s at g → Widening s at h
    gap-on w = record { still = sym went.0 ∙ w.still; forward = omega (arith, went.1); inside = went.2 }

    pub gap-less : length s - h.next.at.0 < length s - g.next.at.0
    gap-less = omega (arith, went.1, went.2)

  pub gap-done : {at : ℕ} → Widening s at g → r ≡ None → GapIs s at g
  gap-done {at} w e =
      let j : record { place = g.next.at.0; newline = g.newline } ≡ gap_at s at = sym (rw e at k.is) ∙ w.still in
      record { is = ap (λ z. z.place) j; newline = ap (λ z. z.newline) j; forward = w.forward; inside = w.inside }

pub ruleset gaps = (gap-start, gap-on, gap-less, gap-done)

-- One law for each answer of the functions that read a character.
use mathlib.Core.Path.{◌≡◌, ◌∙◌, ap}
use mathlib.Core.List.{List}
use Prim.Native.Nat.{ℕ, ◌+◌, ◌*◌, ◌%◌, ◌≤◌, ◌<◌, min}
use native.Mathlib.Omega.{arith}
use lib.ListN.{length}
use borrow.Author.Tests.{lt-ltb, le-ltb}
use Rattle.rules.specs.Bytes.{byte_at}
use Rattle.rules.specs.Characters.{width_of, next_place, of_several, character_at}
use Rattle.theory_text.specs.Positions.{Reached, reached-next, next-line, next-column}
use Rattle.text_chars.specs.Cursor.{ByteIs, WidthIs, PastIs, cur, step_at, Counts, StepIs}
use Rattle.std.specs.Prelude.{Some, None}
use Rattle.text_chars.specs.declared.DocAt.{DocAt}
use Rattle.text_chars.specs.declared.Step.{Step}

module _ {lead : ℕ} where
  pub width-1 : lead < 128 → WidthIs lead 1
  unfolding width_of
  width-1 h = record { is = rw (lt-ltb lead 128 h, width_of); low = omega arith; high = omega arith }

  pub width-2 : 128 ≤ lead → lead < 224 → WidthIs lead 2
  unfolding width_of
  width-2 h k = record { is = rw (le-ltb lead 128 h, lt-ltb lead 224 k, width_of); low = omega arith; high = omega arith }

  pub width-3 : 224 ≤ lead → lead < 240 → WidthIs lead 3
  unfolding width_of
  width-3 h k = record {
    is = rw (le-ltb lead 128 (omega arith), le-ltb lead 224 h, lt-ltb lead 240 k, width_of);
    low = omega arith;
    high = omega arith;
  }

  pub width-4 : 240 ≤ lead → WidthIs lead 4
  unfolding width_of
  width-4 h = record {
    is = rw (le-ltb lead 128 (omega arith), le-ltb lead 224 (omega arith), le-ltb lead 240 h, width_of);
    low = omega arith;
    high = omega arith;
  }

-- the code point, by the lead byte
module _ (s : List ℕ) (at : ℕ) {lead : ℕ} (e : lead ≡ byte_at s at) where
  pub character-1 : lead < 128 → lead ≡ character_at s at
  unfolding character_at
  character-1 h = rw (lt-ltb (byte_at s at) 128 (omega arith), character_at) e

  module _ {b : ℕ} (u : b ≡ byte_at s (at + 1)) {r : ℕ} where
    pub character-2 : 128 ≤ lead → lead < 224 → r ≡ of_several (lead % 32 * 64 + b % 64) → r ≡ character_at s at
    unfolding character_at
    character-2 h k z =
        rw (le-ltb (byte_at s at) 128 (omega arith), lt-ltb (byte_at s at) 224 (omega arith), character_at) (rw (e, u) at z)

    module _ {c : ℕ} (v : c ≡ byte_at s (at + 2)) where
      pub character-3 : 224 ≤ lead → lead < 240 → r ≡ of_several (lead % 16 * 4096 + b % 64 * 64 + c % 64) → r ≡ character_at s at
      unfolding character_at
      character-3 h k z =
          rw (
            le-ltb (byte_at s at) 128 (omega arith),
            le-ltb (byte_at s at) 224 (omega arith),
            lt-ltb (byte_at s at) 240 (omega arith),
            character_at,
          ) (rw (e, u, v) at z)

      pub character-4 : {d : ℕ} → d ≡ byte_at s (at + 3) → 240 ≤ lead → at < length s → (at < length s → lead < 256)
          → r ≡ of_several (lead % 8 * 262144 + b % 64 * 4096 + c % 64 * 64 + d % 64) → r ≡ character_at s at
      unfolding character_at
      character-4 {d} w h l k z =
          rw (
            le-ltb (byte_at s at) 128 (omega arith),
            le-ltb (byte_at s at) 224 (omega arith),
            le-ltb (byte_at s at) 240 (omega arith),
            lt-ltb (byte_at s at) 256 (omega (arith, k l)),
            character_at,
          ) (rw (e, u, v, w) at z)

-- the place after it
module _ {s : List ℕ} {at lead w : ℕ} (b : ByteIs s at lead) (i : WidthIs lead w) (h : at < length s) where
  pub past-inside : at + w < length s → PastIs s at (at + w)
  unfolding next_place
  past-inside k = record {
    is = let m : at + w ≡ min (at + w) (length s) = omega arith in m ∙ rw (i.is, b.is);
    forward = omega arith;
    inside = omega arith;
  }

  pub past_end : length s ≤ at + w → PastIs s at (length s)
  unfolding next_place
  past_end k = record {
    is = let m : length s ≡ min (at + w) (length s) = omega arith in m ∙ rw (i.is, b.is);
    forward = h;
    inside = omega arith;
  }

-- a step
counted : {s : List ℕ} {at ch p : ℕ} → at < length s → ch ≡ character_at s at → p ≡ next_place s at → Reached s at → Counts s at ch p
counted {s} {at} h i j r = rw (i, j) (record { line = next-line s at r h; column = next-column s at r h; reached = reached-next s at r })

abbrev step : ℕ → ℕ → Step
step ch place = record { ch = ch; next = cur place }

pub step-char : {s : List ℕ} {at ch : ℕ} {p : DocAt} → at < length s → ch ≡ character_at s at → PastIs s at p.0
    → StepIs s at (Some (record { ch = ch; next = record { at = p } }))
unfolding step_at
step-char {s} {at} {ch} {p} h i j = record {
  is = ap (λ (n : ℕ). Some (step ch n)) j.is ∙ rw (lt-ltb at (length s) h, i);
  moved = (h, j.forward, j.inside);
  counts = counted h i j.is;
}

pub step_end : {s : List ℕ} {at : ℕ} → length s ≤ at → StepIs s at None
unfolding step_at
step_end {s} {at} h = record { is = rw (le-ltb at (length s) h); moved = h; counts = λ r. tt }

pub ruleset widths = (width-1, width-2, width-3, width-4)

pub ruleset characters = (character-1, character-2, character-3, character-4)

pub ruleset pasts = (past-inside, past_end)

pub ruleset steps = (step-char, step_end)

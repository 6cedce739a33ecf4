-- One law for each answer of packing.
use Rattle.std.specs.Prelude.{Ok, Err}
use mathlib.Core.Path.{◌≡◌}
use Prim.Native.Nat.{ℕ, ◌+◌, ◌*◌, ◌≤◌, ◌<◌, ◌^◌}
use native.Mathlib.Nat.{le_trans, le_of_lt, lt_of_le_of_lt, mul-le-mul_right}
use native.Mathlib.Omega.{arith}
use lib.Dec.{T, leb, leb→le}
use borrow.Author.Tests.{ne_eqb}
use Rattle.text_chars.specs.declared.Refusal.{Refusal}
use Rattle.sheet_paths.specs.Answers.{Found, job_of, packed, HasRoom, Packable}
use Rattle.sheet_paths.specs.declared.Part.{Part}

-- Nothing of what is packed overflows, wherever in the 64 bits it stands.

half : (x w : ℕ) → x < 65536 → T (leb (65536 * w) (2 ^ 62)) → x * w ≤ 2 ^ 62
half x w h t = le_trans (mul-le-mul_right w (le_of_lt h)) (leb→le (65536 * w) (2 ^ 62) t)

sum_fits : (x y : ℕ) → x ≤ 2 ^ 62 → y ≤ 2 ^ 62 → x + y < 2 ^ 64
sum_fits x y h k = omega arith

module _ {f : Found} (k : Packable f) where
  module _ {v : Part} (z : f ≡ Ok v) where
    part_room : HasRoom (Ok v)
    part_room = rw z at k.room

    pub start_fits : (w : ℕ) → T (leb (65536 * w) (2 ^ 62)) → v.start.0 * w < 2 ^ 64
    start_fits w t = lt_of_le_of_lt (half v.start.0 w part_room.0 t) (omega arith)

    pub size_fits : (w : ℕ) → T (leb (65536 * w) (2 ^ 62)) → v.size.0 * w < 2 ^ 64
    size_fits w t = lt_of_le_of_lt (half v.size.0 w part_room.1 t) (omega arith)

    pub both-fit : (a b : ℕ) → T (leb (65536 * a) (2 ^ 62)) → T (leb (65536 * b) (2 ^ 62)) → v.start.0 * a + v.size.0 * b < 2 ^ 64
    both-fit a b t u = sum_fits (v.start.0 * a) (v.size.0 * b) (half v.start.0 a part_room.0 t) (half v.size.0 b part_room.1 u)

  module _ {e : Refusal} (z : f ≡ Err e) where
    refusal-room : HasRoom (Err e)
    refusal-room = rw z at k.room

    pub place-fits : (w : ℕ) → T (leb (65536 * w) (2 ^ 62)) → e.place.0 * w < 2 ^ 64
    place-fits w t = lt_of_le_of_lt (half e.place.0 w refusal-room.2 t) (omega arith)

    pub refusal-fits : (w : ℕ) → T (leb (65536 * w) (2 ^ 62)) → e.number + e.place.0 * w < 2 ^ 64
    refusal-fits w t = sum_fits e.number (e.place.0 * w) (omega (arith, refusal-room.1)) (half e.place.0 w refusal-room.2 t)

pub pack-part : {f : Found} {v : Part} → f ≡ Ok v → v.start.0 * 64 + v.size.0 * 4194304 ≡ packed (job_of f)
unfolding packed
pack-part z = rw (z, packed)

pub pack-refusal : {f : Found} {e : Refusal} → Packable f → f ≡ Err e → e.number + e.place.0 * 64 ≡ packed (job_of f)
unfolding packed
pack-refusal {e = e} k z =
    let h : HasRoom (Err e) = rw z at k.room in
    rw (z, packed, ne_eqb e.number 0 (λ (n : e.number ≡ 0). absurd (omega (arith, h.0))))

pub ruleset packs = (pack-part, pack-refusal)

pub ruleset rooms = (tt, start_fits, size_fits, both-fit, place-fits, refusal-fits)

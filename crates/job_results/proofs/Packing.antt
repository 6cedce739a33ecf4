-- One law for each answer of packing.
use mathlib.Core.Path.{◌≡◌, ◌∙◌}
use mathlib.Core.List.{List}
use Prim.Native.Nat.{ℕ, ◌+◌, ◌*◌, ◌≤◌, ◌<◌, ◌^◌}
use native.Mathlib.Nat.{le_trans, le_of_lt, lt_of_le_of_lt, mul-le-mul_right}
use native.Mathlib.Omega.{arith}
use lib.Dec.{T, leb, leb→le}
use borrow.Author.Tests.{ne_eqb}
use Rattle.std.specs.Prelude.{Result, Ok, Err}
use Rattle.text_chars.specs.declared.Refusal.{Refusal}
use Rattle.job_results.specs.Places.{RefusalFits, PackedRefusalIs}
use Rattle.job_results.specs.Answers.{resolution_told, located_told, packed_resolution, HasRoom, Packable}
use Rattle.job_results.specs.Answers.{verdict_of, packed_verdict, PackableVerdict}
use Rattle.job_results.specs.declared.Resolution.{Resolution}

-- Nothing of what is packed overflows, wherever in the 64 bits it stands: the text's length in the upper half, all else below bit 62.

upto : (x w k : ℕ) → x < 65536 → T (leb (65536 * w) (2 ^ k)) → x * w ≤ 2 ^ k
upto x w k h t = le_trans (mul-le-mul_right w (le_of_lt h)) (leb→le (65536 * w) (2 ^ k) t)

module _ {s : List ℕ} {r : Result Resolution Refusal} (k : Packable s r) where
  module _ {v : Resolution} (z : r ≡ Ok v) where
    done-room : HasRoom s (Ok v)
    done-room = rw z at k.room

    count-upto : (w : ℕ) → T (leb (65536 * w) (2 ^ 60)) → v.count * w ≤ 2 ^ 60
    count-upto w t = upto v.count w 60 (omega (arith, done-room.0)) t

    pub count_fits : (w : ℕ) → T (leb (65536 * w) (2 ^ 60)) → v.count * w < 2 ^ 64
    count_fits w t = lt_of_le_of_lt (count-upto w t) (omega arith)

    pub trail-fits : (w : ℕ) → T (leb (65536 * w) (2 ^ 60)) → v.trail.0 * w < 2 ^ 64
    trail-fits w t = lt_of_le_of_lt (upto v.trail.0 w 60 done-room.1 t) (omega arith)

    pub table_fits : (w : ℕ) → T (leb (65536 * w) (2 ^ 60)) → v.table.0 * w < 2 ^ 64
    table_fits w t = lt_of_le_of_lt (upto v.table.0 w 60 done-room.2 t) (omega arith)

    pub text-fits : (w : ℕ) → T (leb (65536 * w) (2 ^ 63)) → v.text.0 * w < 2 ^ 64
    text-fits w t = lt_of_le_of_lt (upto v.text.0 w 63 done-room.3 t) (omega arith)

    module _ (m w : ℕ) (a : T (leb (65536 * m) (2 ^ 60))) (b : T (leb (65536 * w) (2 ^ 60))) where
      two-upto : v.count * m + v.trail.0 * w ≤ 2 ^ 61
      two-upto = omega (arith, count-upto m a, upto v.trail.0 w 60 done-room.1 b)

      pub two-fit : v.count * m + v.trail.0 * w < 2 ^ 64
      two-fit = omega (arith, two-upto)

      module _ (u : ℕ) (c : T (leb (65536 * u) (2 ^ 60))) where
        three-upto : v.count * m + v.trail.0 * w + v.table.0 * u ≤ 2 ^ 62
        three-upto = omega (arith, two-upto, upto v.table.0 u 60 done-room.2 c)

        pub three-fit : v.count * m + v.trail.0 * w + v.table.0 * u < 2 ^ 64
        three-fit = omega (arith, three-upto)

        pub all_fit : (y : ℕ) → T (leb (65536 * y) (2 ^ 63)) → v.count * m + v.trail.0 * w + v.table.0 * u + v.text.0 * y < 2 ^ 64
        all_fit y d = omega (arith, three-upto, upto v.text.0 y 63 done-room.3 d)

    pub pack-done : v.count * 64 + v.trail.0 * 32768 + v.table.0 * 2147483648 + v.text.0 * 140737488355328
        ≡ packed_resolution (located_told s (resolution_told r))
    unfolding packed_resolution
    pack-done = rw (z, packed_resolution)

  module _ {x : Refusal} (z : r ≡ Err x) where
    pub refusal-room : RefusalFits s x.number x.place.0
    refusal-room = let h : HasRoom s (Err x) = rw z at k.room in h.1

    pub pack-refusal : {q : ℕ} → PackedRefusalIs s x.number x.place.0 q → q ≡ packed_resolution (located_told s (resolution_told r))
    unfolding packed_resolution
    pack-refusal p =
        let h : HasRoom s (Err x) = rw z at k.room in
        p.is ∙ rw (z, packed_resolution, ne_eqb x.number 0 (λ (e : x.number ≡ 0). absurd (omega (arith, h.0))))

pub ruleset packs = (pack-done, pack-refusal)

pub ruleset rooms = (tt, count_fits, trail-fits, table_fits, text-fits, two-fit, three-fit, all_fit)

-- ---- check

module _ (s : List ℕ) {v : Result (Unit {0}) Refusal} where
  pub pack-accepted : {u : Unit {0}} → v ≡ Ok u → 0 ≡ packed_verdict (verdict_of s v)
  unfolding packed_verdict
  pack-accepted z = rw (z, packed_verdict)

  module _ {x : Refusal} (z : v ≡ Err x) where
    pub pack-no : {q : ℕ} → PackedRefusalIs s x.number x.place.0 q → q ≡ packed_verdict (verdict_of s v)
    unfolding packed_verdict
    pack-no p = p.is ∙ rw (z, packed_verdict)

    pub no_room : PackableVerdict s v → RefusalFits s x.number x.place.0
    no_room k = rw z at k.room

pub ruleset verdict-packs = (pack-accepted, pack-no)

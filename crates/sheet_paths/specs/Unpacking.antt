-- What the header's functions take out of 64 bits is what was packed into them.
use Rattle.std.specs.Prelude.{Ok, Err, ◌≡◌, cond, ℕ, ◌+◌, ◌*◌, ◌/◌, ◌%◌, ◌≤◌, ◌<◌, eqb}
use Rattle.std.proofs.Common.{sym, ◌∙◌, ap, arith, eq-eqb, ne_eqb}
use Rattle.rules.specs.Jobs as J
use Rattle.sheet_paths.specs.Answers.{Found, job_of, packed, Packable}

-- ---- the header's functions, with `>> n` as a division and `& mask` as a remainder

-- dz_look_up_number
abbrev pub number_in : ℕ → ℕ
number_in answer = answer % 64

-- dz_look_up_offset
abbrev pub offset_in : ℕ → ℕ
offset_in answer = cond (eqb (number_in answer) 0) (answer / 64 % 65536) 0

-- dz_look_up_length
abbrev pub length_in : ℕ → ℕ
length_in answer = cond (eqb (number_in answer) 0) (answer / 4194304 % 65536) 0

-- dz_look_up_place
abbrev pub place_in : ℕ → ℕ
place_in answer = cond (eqb (number_in answer) 0) 0 (answer / 64 % 65536)

-- ---- answers whose values have room in their bits: a part is not empty and has place 0, a refusal has an empty part at 0

pub data Roomy (f : J.Found) : Type 0 where
  part : f.number ≡ 0 → f.place ≡ 0 → 1 ≤ f.size → f.start < 65536 → f.size < 65536 → Roomy f
  refusal : 1 ≤ f.number → f.number < 64 → f.place < 65536 → f.start ≡ 0 → f.size ≡ 0 → Roomy f

-- so a refusal is never taken for a part, and has room too
pub packable : (r : Found) → Roomy (job_of r) → Packable r
packable (Ok v) (part n p o a b) = record { room = (a, b) }
packable (Ok v) (refusal n a b s z) = absurd (omega arith)
packable (Err e) (part n p o a b) = absurd (omega arith)
packable (Err e) (refusal n a b s z) = record { room = (n, a, b) }

-- what stands at each place of the bits
low_bits : (n p z : ℕ) → n < 64 → (n + p * 64 + z * 4194304) % 64 ≡ n
low_bits n p z h = omega arith

middle-bits : (n p z : ℕ) → n < 64 → p < 65536 → (n + p * 64 + z * 4194304) / 64 % 65536 ≡ p
middle-bits n p z h k = omega arith

high_bits : (n p z : ℕ) → n < 64 → p < 65536 → z < 65536 → (n + p * 64 + z * 4194304) / 4194304 % 65536 ≡ z
high_bits n p z h k l = omega arith

-- every one of the four comes back
pub record Unpacks (f : J.Found) : Type 0 where
  pub number : number_in (packed f) ≡ f.number
  pub place : place_in (packed f) ≡ f.place
  pub start : offset_in (packed f) ≡ f.start
  pub size : length_in (packed f) ≡ f.size

-- the same sum in both cases
sum-part : (f : J.Found) → f.number ≡ 0 → packed f ≡ 0 + f.start * 64 + f.size * 4194304
unfolding packed
sum-part f n = let e : packed f ≡ f.start * 64 + f.size * 4194304 = rw (packed, eq-eqb f.number 0 n) in omega (arith, e)

sum-refusal : (f : J.Found) → (f.number ≡ 0 → ⊥) → packed f ≡ f.number + f.place * 64 + 0 * 4194304
unfolding packed
sum-refusal f n = let e : packed f ≡ f.number + f.place * 64 = rw (packed, ne_eqb f.number 0 n) in omega (arith, e)

pub unpacks : (f : J.Found) → Roomy f → Unpacks f
unpacks f (part n p o a b) =
    let e = sum-part f n in
    let z : number_in (packed f) ≡ 0 = ap number_in e ∙ low_bits 0 f.start f.size (omega arith) in
    record {
      number = z ∙ sym n;
      place = rw (eq-eqb (number_in (packed f)) 0 z) (sym p);
      start = rw (eq-eqb (number_in (packed f)) 0 z) (ap (λ (x : ℕ). x / 64 % 65536) e ∙ middle-bits 0 f.start f.size (omega arith) a);
      size = rw (eq-eqb (number_in (packed f)) 0 z) (ap (λ (x : ℕ). x / 4194304 % 65536) e ∙ high_bits 0 f.start f.size (omega arith) a b);
    }
unpacks f (refusal n a b s z) =
    let e = sum-refusal f (λ (y : f.number ≡ 0). absurd (omega arith)) in
    let m : number_in (packed f) ≡ f.number = ap number_in e ∙ low_bits f.number f.place 0 a in
    let k : number_in (packed f) ≡ 0 → ⊥ = λ y. absurd (omega (arith, m, y, n)) in
    record {
      number = m;
      place = rw (ne_eqb (number_in (packed f)) 0 k) (ap (λ (x : ℕ). x / 64 % 65536) e ∙ middle-bits f.number f.place 0 a b);
      start = rw (ne_eqb (number_in (packed f)) 0 k) (sym s);
      size = rw (ne_eqb (number_in (packed f)) 0 k) (sym z);
    }

-- Laws of the functions that write one record.
use mathlib.Core.Path.{◌≡◌, refl, sym, ap, ◌∙◌}
use Prim.Native.Nat.{ℕ, suc, ◌+◌, ◌/◌, ◌%◌, ◌≤◌, ◌<◌}
use mathlib.Core.List.{List, [], ◌∷◌, ◌++◌}
use native.Mathlib.Omega.{arith}
use lib.ListN.{length, get_or, set, take, drop, length-set, length-drop}
use lib.Seq.{sets, length-sets, set_out, take-suc, get_or-drop, take-set-lt, drop-set-lt, length-take-le}
use Rattle.rules.specs.Sheet.{two}
use Rattle.sheet_kept.specs.InTurn.{extent}
use Rattle.sheet_kept.specs.Sets.{sets-append}
use Rattle.eval_writer.specs.Model.{puts}
use Rattle.eval_writer.specs.Clauses.{Room, records_in, Puts, FilledIs, Wrote}
use Rattle.eval_writer.specs.declared.Out.{Out}

-- ---- bytes of a record

pub put_in : {o : List ℕ} {at b : ℕ} → at < 16384 → Puts at (b ∷ []) o (set o at b)
put_in {o} {at} {b} h = record { records = take-set-lt 16384 o at b h; texts = drop-set-lt 16384 o at b h }

pub put-out : {o : List ℕ} {at b : ℕ} → Room o → 16384 ≤ at → Puts at (b ∷ []) o o
put-out {o} {at} {b} r h =
    let l : length (take 16384 o) ≤ at = omega (arith, length-take-le 16384 o (omega arith)) in
    record { records = sym (set_out (take 16384 o) at b l); texts = refl }

pub puts_then : {at at' : ℕ} {xs ys b x a : List ℕ} → at' ≡ at + length xs → Puts at xs b x → Puts at' ys x a → Puts at (xs ++ ys) b a
puts_then {at} {at'} {xs} {ys} {b} {x} {a} e p q =
    record {
      records =
          q.records ∙ ap (λ (i : ℕ). sets (records_in x) i ys) e ∙ ap (λ (l : List ℕ). sets l (at + length xs) ys) p.records
          ∙ sym (sets-append (records_in b) at xs ys);
      texts = q.texts ∙ p.texts;
    }

pub two_is : {at c d : ℕ} (n : ℕ) {b x a : List ℕ} → c ≡ n / 256 % 256 → d ≡ n % 256 → Puts at (c ∷ []) b x → Puts (at + 1) (d ∷ []) x a → Puts at (two n) b a
unfolding two
two_is {at} {c} {d} n {b} {x} {a} e f p q = rw (← e, ← f) (puts_then {xs = c ∷ []} {ys = d ∷ []} refl p q)

pub head-is : {at k : ℕ} (n : ℕ) {b x a : List ℕ} → Puts at (k ∷ []) b x → Puts (at + 1) (two n) x a → Puts at (k ∷ two n) b a
head-is {at} {k} n p q = puts_then {xs = k ∷ []} {ys = two n} refl p q

pub record_is : {at k : ℕ} (m n : ℕ) {b x y a : List ℕ} → Puts at (k ∷ []) b x → Puts (at + 1) (two m) x y → Puts (at + 3) (two n) y a
    → Puts at (k ∷ two m ++ two n) b a
unfolding two
record_is {at} {k} m n p q r = puts_then {xs = k ∷ two m} {ys = two n} refl (head-is m p q) r

pub ruleset put-laws = (put_in, put-out)

-- ---- texts

pub record Filling (to : ℕ) (from : List ℕ) (at n : ℕ) (b a : List ℕ) (i : ℕ) : Type 0 where
  pub is : a ≡ sets b to (take i (drop at from))
  pub low : i ≤ n
  pub len : length a ≡ length b

module _ {to : ℕ} {from : List ℕ} {at n : ℕ} {b : List ℕ} where
  pub filling-start : Filling to from at n b b 0
  filling-start = record { is = refl; low = omega arith; len = refl }

  module _ {a : List ℕ} {i : ℕ} (I : Filling to from at n b a i) where
    pub filling_step : at + n ≤ length from → i < n → Filling to from at n b (set a (to + i) (get_or from (at + i) 0)) (i + 1)
    filling_step l h =
        let d = drop at from in
        let k : i < length d = omega (arith, length-drop at from) in
        let t : take (i + 1) d ≡ take i d ++ (get_or d i 0 ∷ []) = (let e : i + 1 ≡ suc i = omega arith in ap (λ (j : ℕ). take j d) e ∙ take-suc d i 0 k) in
        let z : length (take i d) ≡ i = length-take-le i d (omega arith) in
        record {
          is =
              ap (λ (l : List ℕ). set l (to + i) (get_or from (at + i) 0)) I.is
              ∙ ap (λ (v : ℕ). set (sets b to (take i d)) (to + i) v) (sym (get_or-drop at from i 0))
              ∙ ap (λ (j : ℕ). set (sets b to (take i d)) (to + j) (get_or d i 0)) (sym z)
              ∙ sym (ap (sets b to) t ∙ sets-append b to (take i d) (get_or d i 0 ∷ []));
          low = omega arith;
          len = length-set a (to + i) (get_or from (at + i) 0) ∙ I.len;
        }

    pub filling-end : n ≤ i → FilledIs to from at n b a
    filling-end h = let e : i ≡ n = omega (arith, I.low) in record { is = I.is ∙ ap (λ (j : ℕ). sets b to (take j (drop at from))) e }

    pub filling-in : to + n ≤ length b → i < n → to + i < length a
    filling-in l h = omega (arith, ap length I.is, length-sets b to (take i (drop at from)))

pub ruleset fill-laws = (filling-start, filling_step, filling-end, filling-in)

-- ---- one byte

pub plain-wrote : {o : Out} {k : ℕ} {b a : List ℕ} → Puts o.rec.0 (k ∷ []) b a
    → Wrote (k ∷ []) [] o (record { rec = record { 0 = o.rec.0 + 1 }; text = o.text }) b a
unfolding puts extent
plain-wrote {o} {k} h = record { records = h.records; texts = h.texts; rec = refl; text = omega arith }

-- The ends of the buffers: one law for each return.
use mathlib.Core.Path.{◌≡◌, refl, sym, ap, ◌∙◌}
use Prim.Native.Nat.{ℕ, suc, ◌+◌, ◌-◌, ◌≤◌, ◌<◌, min}
use mathlib.Core.List.{List, [], ◌∷◌, ◌++◌, append_assoc, append-nil}
use native.Mathlib.Omega.{arith}
use lib.ListN.{length, take, set, replicate, length-take, length-set, replicate-append-replicate}
use lib.Seq.{take_all, take-suc-set}
use Rattle.std.specs.Prelude.{Result, Ok, Err}
use Rattle.text_chars.specs.declared.Refusal.{Refusal}
use Rattle.rules.specs.Jobs.{filled}
use Rattle.job_results.specs.declared.Resolution.{Resolution}
use Rattle.job_inputs.specs.declared.buffers.Used.{Used}
use Rattle.job_inputs.specs.Buffers.Contracts.{ClearedIs, UsedIs, FinishedIs}

-- ---- one buffer

-- zero from what is used up to i, or to the end
pub record Clearing (used : ℕ) (b a : List ℕ) (i : ℕ) : Type 0 where
  pub is : take i a ≡ take used b ++ replicate (min i (length b) - used) 0
  pub len : length a ≡ length b
  pub low : used ≤ i

pub clear-start : (used : ℕ) (b : List ℕ) → Clearing used b b used
clear-start used b =
    let z : min used (length b) - used ≡ 0 = omega arith in
    record {
      is = sym (ap (λ (k : ℕ). take used b ++ replicate k 0) z ∙ append-nil (take used b));
      len = refl;
      low = omega arith;
    }

module _ {used : ℕ} {b a : List ℕ} {i : ℕ} (I : Clearing used b a i) where
  pub clear-again : i < length b → Clearing used b (set a i 0) (i + 1)
  clear-again h =
      let low : used ≤ i = I.low in
      let next : i + 1 ≡ suc i = omega arith in
      let more : min i (length b) - used + 1 ≡ min (i + 1) (length b) - used = omega arith in
      let zeros : List ℕ = replicate (min i (length b) - used) 0 in
      record {
        is = ap (λ (k : ℕ). take k (set a i 0)) next
            ∙ take-suc-set a i 0 (omega (arith, I.len))
            ∙ ap (λ (x : List ℕ). x ++ (0 ∷ [])) I.is
            ∙ append_assoc (take used b) zeros (0 ∷ [])
            ∙ ap (λ (x : List ℕ). take used b ++ x) (replicate-append-replicate (min i (length b) - used) 1 0)
            ∙ ap (λ (k : ℕ). take used b ++ replicate k 0) more;
        len = length-set a i 0 ∙ I.len;
        low = omega arith;
      }

  pub clear_in : i < length b → i < length a
  clear_in h = omega (arith, I.len)

  pub clear-done : length b ≤ i → ClearedIs used b a
  unfolding filled
  clear-done h =
      let n : min i (length b) - used ≡ length b - length (take used b) = omega (arith, length-take used b) in
      record {
        is = sym (take_all i a (omega (arith, I.len))) ∙ I.is ∙ ap (λ (k : ℕ). take used b ++ replicate k 0) n;
      }

pub ruleset clears = (clear-start, clear-again, clear_in, clear-done)

-- ---- what is used

module _ {r : Result Resolution Refusal} where
  pub used-done : {v : Resolution} → r ≡ Ok v → UsedIs r (record { trail = v.trail; table = v.table; text = v.text })
  used-done e = rw e (record { trail = refl; table = refl; text = refl })

  pub used-none : {x : Refusal} → r ≡ Err x
      → UsedIs r (record { trail = record { 0 = 0 }; table = record { 0 = 0 }; text = record { 0 = 0 } })
  used-none e = rw e (record { trail = refl; table = refl; text = refl })

pub ruleset uses = (used-done, used-none)

-- ---- all three

pub finished : {r : Result Resolution Refusal} {u : Used} {b c d b' c' d' : List ℕ} → UsedIs r u → ClearedIs u.trail.0 b b' → ClearedIs u.table.0 c c'
    → ClearedIs u.text.0 d d' → FinishedIs r b c d b' c' d'
finished h s t x = record { trail = rw h.trail at s; table = rw h.table at t; text = rw h.text at x }

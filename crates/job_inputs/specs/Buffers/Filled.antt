-- A buffer that holds what is used at its beginning is filled as the rules say; so the three buffers of a resolution are `buffers_of` of it.
use Rattle.std.specs.Prelude.{◌≡◌, ℕ, List, ◌++◌, length, take, Result as Returned}
use Rattle.std.proofs.Common.{sym, ap, ◌∙◌, take_at}
use Rattle.rules.specs.Jobs.{Result, filled, located, buffers_of}
use Rattle.job_results.specs.Answers.{Told, resolution_told, result_told}
use Rattle.text_chars.specs.declared.Refusal.{Refusal}
use Rattle.job_results.specs.declared.Resolution.{Resolution}
use Rattle.job_inputs.specs.Buffers.Contracts.{ClearedIs, FinishedIs}

-- a buffer begins with these bytes
pub record Begins (xs b : List ℕ) : Type 0 where
  pub rest : List ℕ
  pub is : b ≡ xs ++ rest

pub cleared-filled : {used : ℕ} {xs b a : List ℕ} → Begins xs b → used ≡ length xs → ClearedIs used b a → a ≡ filled (length b) xs
cleared-filled {used} {xs} {b} {a} h e c =
    let t : take used b ≡ xs = ap (take used) h.is ∙ take_at xs h.rest used (sym e) in
    c.is ∙ ap (filled (length b)) t

-- the buffers begin with the parts of a sheet
pub record Holding (r : Result) (trail table text : List ℕ) : Type 0 where
  pub trail-begins : Begins r.trail trail
  pub table-begins : Begins r.table table
  pub text-begins : Begins r.text text

pub finished-buffers : (s : List ℕ) {q : Returned Resolution Refusal} {r : Result} {b c d b' c' d' : List ℕ} → Holding r b c d
    → resolution_told q ≡ result_told r
    → FinishedIs q b c d b' c' d'
    → record { trail = b'; table = c'; text = d' } ≡ buffers_of (length b) (length c) (length d) (located s r)
unfolding buffers_of
finished-buffers s {q} {r} {b} {c} {d} {b'} {c'} {d'} h e f =
    let s = cleared-filled h.trail-begins (ap (λ (t : Told). t.trail) e) f.trail in
    let t = cleared-filled h.table-begins (ap (λ (t : Told). t.table) e) f.table in
    let x = cleared-filled h.text-begins (ap (λ (t : Told). t.text) e) f.text in
    rw (s, t, x)

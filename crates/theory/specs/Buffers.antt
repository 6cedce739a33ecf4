-- The output buffers after resolve: what is used fits, so each buffer keeps the size that it was lent with.
use Rattle.std.specs.Prelude.{◌≡◌, ℕ, ◌-◌, ◌≤◌, List, leb, length, replicate}
use Rattle.std.proofs.Math.Path.{refl}
use native.Mathlib.Omega.{arith}
use Rattle.std.proofs.Math.ListN.{length-append}
use Rattle.std.proofs.lemmas.List.{length-replicate}
use Rattle.answers.specs.Resolve.{Res, answer, refused, dry}
use Rattle.rules.specs.Sizes.{max_budget}
use Rattle.rules.specs.Refusals.{Refusal, nowhere, spent}
use Rattle.rules.specs.Values.{Value, Answer, within_size}
use Rattle.rules.specs.Documents.{Setting, Input, valid, refused, inputs}
use Rattle.rules.specs.Sheet.{trail_text_size, trail_texts, texts, table_fits}
use Rattle.rules.specs.Jobs.{Result, refused_with, room_of, handed_back, resolved, resolve_job, filled, buffers_of}
use Rattle.theory_text.specs.Choices.{by-test}
use Rattle.theory.specs.Layout.{length-records, length-texts, length-trail_records, length-trail_texts}
use Rattle.theory.specs.Jobs.{resolution_of}
use Rattle.theory.specs.BothJobs.{trail_fits-inv, table_fits-inv, answered-fits}

filled-size : (size : ℕ) (used : List ℕ) → length used ≤ size → length (filled size used) ≡ size
unfolding filled
filled-size size used h =
    let rest = size - length used in
    omega (arith, length-append used (replicate rest 0), length-replicate {A = ℕ} rest 0)

module _ (d e : List ℕ) (budget l m n : ℕ) where
  abbrev Fitting : Result → Type 0
  Fitting r = (length r.trail ≤ l) × (length r.table ≤ m) × (length r.text ≤ n)

  refused-fits : (x : Refusal) → Fitting (refused_with x)
  unfolding refused_with
  refused-fits x = (omega arith, omega arith, omega arith)

  handed-fits : (x : Setting) (i : Res Refusal Answer Value) → resolution_of d e budget l m n x ≡ i → Fitting (handed_back (room_of m) (room_of n) i)
  unfolding handed_back
  handed-fits x (refused y) h = refused-fits y
  handed-fits x dry h = refused-fits spent
  handed-fits x (answer v S k) h =
      by-test Fitting (within_size v)
      (λ small. by-test Fitting (table_fits (room_of m) (room_of n) S v)
      (λ fits.
      let (f, _) = trail_fits-inv (room_of l) (room_of n) S (answered-fits x (room_of l) (room_of n) budget h) in
      let (g, t) = table_fits-inv (room_of m) (room_of n) S v fits in (
        omega (arith, length-trail_records S),
        omega (arith, length-records (trail_text_size S) v),
        omega (arith, length-append (trail_texts S) (texts v), length-trail_texts S, length-texts v),
      ))
      (λ full. refused-fits (nowhere 14)))
      (λ large. refused-fits (nowhere 13))

  used-fits : let r = resolve_job d e budget l m n in (length r.trail ≤ l) × (length r.table ≤ m) × (length r.text ≤ n)
  unfolding resolve_job
  used-fits = go (inputs (leb budget max_budget) d e)
    where
      go : (i : Input Setting) → Fitting (resolved budget (room_of l) (room_of m) (room_of n) i)
      go (refused y) = refused-fits y
      go (valid x) = handed-fits x (resolution_of d e budget l m n x) refl

  pub buffers-sized : let b = buffers_of l m n (resolve_job d e budget l m n) in
      (length b.trail ≡ l) × (length b.table ≡ m) × (length b.text ≡ n)
  unfolding buffers_of
  buffers-sized =
      let r = resolve_job d e budget l m n in
      let (f, g, h) = used-fits in
      (filled-size l r.trail f, filled-size m r.table g, filled-size n r.text h)

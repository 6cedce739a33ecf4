-- Runs of resolve, check and look-up, by their contracts: what a run hands back is what the job of the rules does.
use Rattle.std.specs.Prelude.{◌≡◌, ℕ, ◌≤◌, List, length, take, Result, Ok, Err}
use Rattle.std.proofs.Math.Path.{refl, ap}
use Rattle.std.proofs.Common.{sym, ◌∙◌, arith}
use Rattle.std.proofs.Math.Seq.{take-append_seam}
use Rattle.text_chars.specs.Cursor.{refusal}
use Rattle.text_chars.specs.declared.Refusal.{Refusal}
use Rattle.answers.specs.Theory.Sound.{clash}
use Rattle.rules.specs.Refusals.{document_of, offset_of, nowhere}
use Rattle.rules.specs.Jobs as J
use Rattle.rules.specs.Jobs.{Resolved, Buffers, resolve_job, filled, buffers_of, yes}
use Rattle.theory.specs.Jobs.{Approval, approval-inv, approval-is}
use Rattle.theory.specs.BothJobs.{resolved-approval}
use Rattle.theory.specs.Promises.{Refuses, look-up-part}
use Rattle.sheet_paths.specs.Answers.{Found, part, job_of}
use Rattle.job_results.specs.Answers.{Located, resolution_told, located_told, resolved_told, verdict_of}
use Rattle.job_results.specs.Unpacking.{Roomy, refusal-some}
use Rattle.job_results.specs.Bits.{resolve-roomy}
use Rattle.job_results.specs.Clauses.{ResolveIs, CheckIs}
use Rattle.job_results.specs.declared.Resolution.{Resolution}

-- A run that succeeded, and the sheet that it hands back: as many bytes of each buffer as its answer tells.
abbrev pub sheet : (count trail table text : ℕ) → Resolution
sheet count trail table text = record { count = count; trail = record { 0 = trail }; table = record { 0 = table }; text = record { 0 = text } }

pub record Hands (r : Result Resolution Refusal) (b c f trail table text : List ℕ) : Type 0 where
  pub count : ℕ
  pub answer : r ≡ Ok (sheet count (length trail) (length table) (length text))
  pub trail_is : trail ≡ take (length trail) b
  pub table_is : table ≡ take (length table) c
  pub text-is : text ≡ take (length text) f

-- what is used of a buffer
used-part : (n : ℕ) (xs : List ℕ) → take (length xs) (filled n xs) ≡ xs
unfolding filled
used-part n xs = take-append_seam xs _

module _ {d e : List ℕ} {budget : ℕ} {b c f b' c' f' : List ℕ} {r : Result Resolution Refusal} (run : ResolveIs d e budget b c f b' c' f' r) where
  abbrev pub job : Resolved
  job = resolve_job d e budget (length b) (length c) (length f)

  trail-filled : b' ≡ filled (length b) job.trail
  unfolding buffers_of
  trail-filled = ap (λ (x : Buffers). x.trail) run.buffers

  table_filled : c' ≡ filled (length c) job.table
  unfolding buffers_of
  table_filled = ap (λ (x : Buffers). x.table) run.buffers

  text-filled : f' ≡ filled (length f) job.text
  unfolding buffers_of
  text-filled = ap (λ (x : Buffers). x.text) run.buffers

  -- where the job of the rules succeeds, the run hands its sheet back
  pub run-hands : job.number ≡ 0 → Hands r b' c' f' job.trail job.table job.text
  run-hands z = go r run.answer (rw (← run.answer) at (resolve-roomy d e budget (length b) (length c) (length f)))
    where
      go : (q : Result Resolution Refusal) → located_told d (resolution_told q) ≡ resolved_told job → Roomy (located_told d (resolution_told q))
          → Hands q b' c' f' job.trail job.table job.text
      go (Err x) h k = absurd (omega (arith, refusal-some d x k, ap (λ (t : Located). t.number) h))
      go (Ok o) h k =
          let p : o.trail.0 ≡ length job.trail = ap (λ (t : Located). t.trail) h in
          let q : o.table.0 ≡ length job.table = ap (λ (t : Located). t.table) h in
          let v : o.text.0 ≡ length job.text = ap (λ (t : Located). t.text) h in
          record {
            count = o.count;
            answer = rw (← p, ← q, ← v) refl;
            trail_is = sym (ap (take (length job.trail)) trail-filled ∙ used-part (length b) job.trail);
            table_is = sym (ap (take (length job.table)) table_filled ∙ used-part (length c) job.table);
            text-is = sym (ap (take (length job.text)) text-filled ∙ used-part (length f) job.text);
          }

  -- and what a run hands back is that sheet
  module _ {trail table text : List ℕ} (h : Hands r b' c' f' trail table text) where
    told : located_told d (resolution_told (Ok (sheet h.count (length trail) (length table) (length text)))) ≡ resolved_told job
    told = rw h.answer at run.answer

    pub hands-number : job.number ≡ 0
    hands-number = sym (ap (λ (t : Located). t.number) told)

    pub hands-count : h.count ≡ job.count
    hands-count = ap (λ (t : Located). t.count) told

    pub hands-trail : trail ≡ job.trail
    hands-trail =
        let n : length trail ≡ length job.trail = ap (λ (t : Located). t.trail) told in
        h.trail_is ∙ ap (λ (k : ℕ). take k b') n ∙ ap (take (length job.trail)) trail-filled ∙ used-part (length b) job.trail

    pub hands-table : table ≡ job.table
    hands-table =
        let n : length table ≡ length job.table = ap (λ (t : Located). t.table) told in
        h.table_is ∙ ap (λ (k : ℕ). take k c') n ∙ ap (take (length job.table)) table_filled ∙ used-part (length c) job.table

    pub hands-text : text ≡ job.text
    hands-text =
        let n : length text ≡ length job.text = ap (λ (t : Located). t.text) told in
        h.text-is ∙ ap (λ (k : ℕ). take k f') n ∙ ap (take (length job.text)) text-filled ∙ used-part (length f) job.text

    pub hands-approval : Approval d e trail table text
    hands-approval = rw (hands-trail, hands-table, hands-text) (resolved-approval d e budget (length b) (length c) (length f) hands-number)

  pub done-number : {o : Resolution} → r ≡ Ok o → job.number ≡ 0
  done-number h = sym (ap (λ (t : Located). t.number) (rw h at run.answer))

  -- where it refuses, the run does, with its number and place, and leaves all bytes zero
  module _ {x : Refusal} (h : r ≡ Err x) where
    refused-told : located_told d (resolution_told (Err x)) ≡ resolved_told job
    refused-told = rw h at run.answer

    pub refused-number : x.number ≡ job.number
    refused-number = ap (λ (t : Located). t.number) refused-told

    pub refused-document : document_of x.place.0 ≡ job.document
    refused-document = ap (λ (t : Located). t.document) refused-told

    pub refused-place : offset_of x.place.0 ≡ job.place
    refused-place = ap (λ (t : Located). t.place) refused-told

    pub refused-some : 1 ≤ x.number
    refused-some =
        refusal-some d x (rw h at (rw (← run.answer) at (resolve-roomy d e budget (length b) (length c) (length f))))

    pub refused-refuses : job.number ≡ 0 → ⊥
    refused-refuses z = absurd (omega (arith, refused-number, refused-some))

-- ---- check

module _ {d e trail table text : List ℕ} {v : Result (Unit {0}) Refusal} (run : CheckIs d e trail table text v) where
  -- a yes of a run is one of the rules
  pub yes-approval : v ≡ Ok tt → Approval d e trail table text
  yes-approval y = approval-inv d e trail table text (sym (ap (λ u. u.number) (rw y at run.is)))

  pub approval-yes : Approval d e trail table text → v ≡ Ok tt
  approval-yes a = go v refl (run.is ∙ approval-is d e trail table text a)
    where
      go : (u : Result (Unit {0}) Refusal) → v ≡ u → verdict_of d u ≡ yes → u ≡ Ok tt
      go (Ok t) h k = refl
      go (Err x) h k = absurd (omega (arith, run.refusal x h, ap (λ u. u.number) k))

-- the rules' yes is one that a run may give
pub approval-run : {d e trail table text : List ℕ} → Approval d e trail table text → CheckIs d e trail table text (Ok tt)
approval-run {d} {e} {trail} {table} {text} a = record {
  is = sym (approval-is d e trail table text a);
  refusal = λ x h. clash (cc (h));
}

-- ---- look-up

module _ (table text path : List ℕ) {found : Found} (run : job_of found ≡ J.look_up_job table text path) where
  -- a refusal of a run is one of the rules: what is found is not empty
  pub found-refuses : {x : Refusal} → found ≡ Err x → Refuses (J.look_up_job table text path).number
  found-refuses h z =
      let None-found = ap (λ (q : J.Found). q.size) (rw h at run) in
      absurd (omega (arith, None-found, ((look-up-part table text path).0 z).0))

  pub found_nothing : J.look_up_job table text path ≡ J.not_found (nowhere 16) → found ≡ Err (refusal 16 (record { 0 = 0 }))
  unfolding J.not_found
  found_nothing e = go found (run ∙ e)
    where
      go : (f : Found) → job_of f ≡ J.not_found (nowhere 16) → f ≡ Err (refusal 16 (record { 0 = 0 }))
      go (Ok v) q = absurd (omega (arith, ap (λ (i : J.Found). i.number) q))
      go (Err x) q = rw (ap (λ (i : J.Found). i.number) q, ap (λ (i : J.Found). i.place) q) refl

  pub found_part : {start size : ℕ} → J.look_up_job table text path ≡ J.part_at start size → 1 ≤ size
      → found ≡ Ok (part (record { 0 = start }) (record { 0 = size }))
  found_part {start} {size} e l = go found (run ∙ e)
    where
      go : (f : Found) → job_of f ≡ J.part_at start size → f ≡ Ok (part (record { 0 = start }) (record { 0 = size }))
      go (Ok v) q = rw (ap (λ (i : J.Found). i.start) q, ap (λ (i : J.Found). i.size) q) refl
      go (Err x) q = absurd (omega (arith, l, ap (λ (i : J.Found). i.size) q))

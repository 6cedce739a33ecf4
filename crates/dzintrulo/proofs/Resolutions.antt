-- Resolve for C: its answer has room in its bits.
use mathlib.Core.Path.{◌≡◌, sym, ap, ◌∙◌}
use Prim.Native.Nat.{ℕ}
use mathlib.Core.List.{List}
use lib.ListN.{length}
use Rattle.std.specs.Prelude.{Result}
use Rattle.rules.specs.Positions.{has_place}
use Rattle.text_chars.specs.declared.Refusal.{Refusal}
use Rattle.job_results.specs.Answers.{Located, resolution_told, located_told, packed_resolution, Packable}
use Rattle.job_results.specs.Unpacking.{packable}
use Rattle.job_results.specs.Bits.{resolve-roomy, resolve-short}
use Rattle.job_results.specs.Clauses.{ResolveIs, PackedResolveIs}
use Rattle.job_results.specs.declared.Resolution.{Resolution}

module _ {d e : List ℕ} {budget : ℕ} {b c f b' c' f' : List ℕ} {q : Result Resolution Refusal} (R : ResolveIs d e budget b c f b' c' f' q) where
  pub resolution-packable : Packable d q
  resolution-packable =
      packable d q (rw R.answer (resolve-roomy d e budget (length b) (length c) (length f)))
      (λ h. resolve-short d e budget (length b) (length c) (length f) (ap has_place (sym (ap (λ (t : Located). t.number) R.answer)) ∙ h))

  pub resolution-packed : {r : ℕ} → r ≡ packed_resolution (located_told d (resolution_told q)) → PackedResolveIs d e budget b c f b' c' f' r
  resolution-packed h = record { answer = h ∙ ap packed_resolution R.answer; buffers = R.buffers }

pub ruleset resolutions = (resolution-packable, resolution-packed)

-- Laws of how many questions may have refused before.
use mathlib.Core.Path.{◌≡◌, refl}
use Prim.Native.Nat.{ℕ, ◌-◌, ◌<◌}
use Rattle.text_chars.specs.declared.DocAt.{DocAt}
use Rattle.eval_results.specs.declared.extents.Extent.{Extent}
use Rattle.eval_results.specs.declared.sizes.Outcome.{Outcome}
use Rattle.eval_work.specs.Clauses.{OlderAsked, OlderIs}

module _ {o : Outcome} {n : ℕ} where
  pub older-needs : {d : ℕ} → o ≡ Outcome.Needs d → OlderIs o n n
  older-needs e = record { is = rw e refl }

  module _ (A : OlderAsked o n) where
    pub done-some : {x : Extent} → o ≡ Outcome.Done x → 0 < n
    done-some e = rw e at A.is

    pub undefined-some : o ≡ Outcome.Undefined → 0 < n
    undefined-some e = rw e at A.is

    pub refused-some : {number : ℕ} {place : DocAt} → o ≡ Outcome.Refused number place → 0 < n
    refused-some e = rw e at A.is

  pub older-done : {x : Extent} → o ≡ Outcome.Done x → OlderIs o n (n - 1)
  older-done e = record { is = rw e refl }

  pub older-undefined : o ≡ Outcome.Undefined → OlderIs o n (n - 1)
  older-undefined e = record { is = rw e refl }

  pub older-refused : {number : ℕ} {place : DocAt} → o ≡ Outcome.Refused number place → OlderIs o n (n - 1)
  older-refused e = record { is = rw e refl }

pub ruleset olders = (older-needs, done-some, undefined-some, refused-some, older-done, older-undefined, older-refused)

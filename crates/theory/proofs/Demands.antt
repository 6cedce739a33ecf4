-- The fourth of the five theorems of specs/Demands.antt, from the first two.
use Rattle.std.specs.Prelude.{List, ℕ, ◌↔◌}
use Rattle.rules.specs.Jobs.{check_job}
use Rattle.theory.specs.Demands.{Succeeds, Yes, resolve_in_full, accepted-resolves, resolved-accepted}

-- "Refusal exactly": with budget 256 and full-size buffers resolve refuses if and only if check says yes to no sheet at all for that document
-- and environment.
pub refused-exactly : (document environment : List ℕ)
    → (Succeeds (resolve_in_full document environment) → ⊥)
    ↔ ((trail table text : List ℕ) → Yes (check_job document environment trail table text) → ⊥)
refused-exactly d e = (
  λ refuses trail table text y. refuses (accepted-resolves d e trail table text y).0,
  λ never ok. never _ _ _ (resolved-accepted d e 256 32768 32768 32768 ok),
)

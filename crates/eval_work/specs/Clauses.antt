-- How many of the questions that are being worked out may have refused before a refusal.
use Rattle.std.specs.Prelude.{◌≡◌, ℕ, ◌-◌, ◌<◌}
use Rattle.eval_results.specs.declared.sizes.Outcome.{Outcome}

-- all, but for the newest where it was evaluated: then it did not refuse, or the refusal is its own
abbrev pub older_c : Outcome → ℕ → ℕ
older_c (Outcome.Done e) n = n - 1
older_c Outcome.Undefined n = n - 1
older_c (Outcome.Needs d) n = n
older_c (Outcome.Refused number place) n = n - 1

abbrev pub OlderNeeds : Outcome → ℕ → Type 0
OlderNeeds (Outcome.Done e) n = 0 < n
OlderNeeds Outcome.Undefined n = 0 < n
OlderNeeds (Outcome.Needs d) n = Unit {0}
OlderNeeds (Outcome.Refused number place) n = 0 < n

pub record OlderAsked (o : Outcome) (n : ℕ) : Type 0 where
  pub is : OlderNeeds o n

pub record OlderIs (o : Outcome) (n r : ℕ) : Type 0 where
  pub is : r ≡ older_c o n

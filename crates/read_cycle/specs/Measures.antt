-- Why the readers end: each call has fewer bytes before it, or as many and a lower rank.
use Rattle.std.specs.Prelude.{ℕ, ◌+◌, ◌-◌, ◌*◌, List, length}

abbrev pub need : ℕ → List ℕ → ℕ → ℕ
need rank s at = 6 * (length s - at) + rank

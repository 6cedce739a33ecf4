-- Where a source has its records.
use Rattle.std.specs.Prelude.{ℕ, ◌+◌, ◌≤◌, List, length, take, drop}
use Rattle.rules.specs.Sizes.{max_room}
use Rattle.eval_writer.specs.declared.Source.{Source}
use Rattle.eval_writer.specs.Copies.Contracts.{most_bytes}

-- they have their room in the job's bytes
pub record SourceIn (B : List ℕ) (src : Source) : Type 0 where
  pub bytes : length B ≤ most_bytes
  pub records : src.rec.0 + max_room ≤ length B

abbrev pub records_of : List ℕ → Source → List ℕ
records_of B src = take max_room (drop src.rec.0 B)

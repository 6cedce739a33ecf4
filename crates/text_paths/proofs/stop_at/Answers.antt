use Rattle.text_paths.proofs.Whole.{stops}
use Rattle.text_paths.proofs.stop_at.Goals as goal

pub returns-then-is_dollar : goal.returns-then-is_dollar
returns-then-is_dollar c = search stops

pub returns-then-starts_simple : goal.returns-then-starts_simple
returns-then-starts_simple c = search stops

pub returns-else-starts_simple : goal.returns-else-starts_simple
returns-else-starts_simple c = search stops

use Rattle.text_paths.proofs.Whole.{closings}
use Rattle.text_paths.proofs.close_path.Goals as goal

pub returns-then-any : goal.returns-then-any
returns-then-any c = search closings

pub returns : goal.returns
returns c = search closings

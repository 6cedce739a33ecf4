use Rattle.text_profiles.proofs.Texts.{steps}
use Rattle.text_profiles.proofs.step_of.Goals as goal

pub returns-then-same_bytes : goal.returns-then-same_bytes
returns-then-same_bytes c = search steps

pub returns-then-same_bytes-2 : goal.returns-then-same_bytes-2
returns-then-same_bytes-2 c = search steps

pub returns : goal.returns
returns c = search steps

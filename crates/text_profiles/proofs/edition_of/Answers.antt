use Rattle.text_profiles.proofs.Texts.{editions}
use Rattle.text_profiles.proofs.edition_of.Goals as goal

pub returns-then-same_bytes : goal.returns-then-same_bytes
returns-then-same_bytes c = search editions

pub returns-then-same_bytes-2 : goal.returns-then-same_bytes-2
returns-then-same_bytes-2 c = search editions

pub returns : goal.returns
returns c = search editions

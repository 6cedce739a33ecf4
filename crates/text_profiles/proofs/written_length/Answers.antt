use Rattle.text_profiles.proofs.Texts.{writtens, written-fits}
use Rattle.text_profiles.proofs.written_length.Goals as goal

pub returns-in_default : goal.returns-in_default
returns-in_default c = search writtens

pub overflow_mul-result : goal.overflow_mul-result
overflow_mul-result c = search written-fits

pub returns : goal.returns
returns c = search writtens

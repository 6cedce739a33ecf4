use Rattle.text_strings.proofs.Runs.{raws}
use Rattle.text_strings.proofs.triple.raw.Goals as goal

pub after_quotes-end-requires : goal.after_quotes-end-requires
after_quotes-end-requires c = search raws

pub overflow_sub-to : goal.overflow_sub-to
overflow_sub-to c = search raws

pub copy-used-requires : goal.copy-used-requires
copy-used-requires c = search raws

pub returns-in_default : goal.returns-in_default
returns-in_default c = search raws

pub returns : goal.returns
returns c = search raws

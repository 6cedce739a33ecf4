use Rattle.eval_settle_laws.specs.Places.{place-laws}
use Rattle.eval_needs.proofs.need_at.Goals as goal

pub need_of_element-requires : goal.need_of_element-requires
need_of_element-requires c = search place-laws

pub link_at-requires : goal.link_at-requires
link_at-requires c = search place-laws

pub returns-then-link_at-p : goal.returns-then-link_at-p
returns-then-link_at-p c = search place-laws

pub need_of_key-requires : goal.need_of_key-requires
need_of_key-requires c = search place-laws

pub returns-in-Elements : goal.returns-in-Elements
returns-in-Elements c = search place-laws

pub returns-else-link_at-p : goal.returns-else-link_at-p
returns-else-link_at-p c = search place-laws

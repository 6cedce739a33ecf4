use Rattle.job_profile.proofs.Profiles.{texts, text-places, record-places, value-near}
use borrow.Author.Rules.{rules}
use Rattle.job_profile.proofs.member_text.Goals as goal

pub member-requires : goal.member-requires
member-requires c = search (rules, value-near)

pub overflow_add-p : goal.overflow_add-p
overflow_add-p c = search (rules, record-places)

pub pair_at-from-requires : goal.pair_at-from-requires
pair_at-from-requires c = search (rules, record-places)

pub overflow_add-p-then-record_byte-kind : goal.overflow_add-p-then-record_byte-kind
overflow_add-p-then-record_byte-kind c = search (rules, record-places)

pub pair_at-requires : goal.pair_at-requires
pair_at-requires c = search (rules, record-places)

pub slice_bounds-result-end-then-record_byte-kind : goal.slice_bounds-result-end-then-record_byte-kind
slice_bounds-result-end-then-record_byte-kind c = search text-places

pub returns-then-record_byte-kind : goal.returns-then-record_byte-kind
returns-then-record_byte-kind c = search texts

pub returns-in-None : goal.returns-in-None
returns-in-None c = search texts

pub returns-else-record_byte-kind : goal.returns-else-record_byte-kind
returns-else-record_byte-kind c = search texts

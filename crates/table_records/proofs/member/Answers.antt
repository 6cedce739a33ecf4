use Rattle.table_records.proofs.Laws.{objects}
use Rattle.table_records.proofs.member.Goals as goal

pub record_byte-requires : goal.record_byte-requires
record_byte-requires c = search objects

pub pair_at-count-requires : goal.pair_at-count-requires
pair_at-count-requires c = search objects

pub member_from-requires : goal.member_from-requires
member_from-requires c = search objects

pub returns-then-record_byte-eq-OBJECT : goal.returns-then-record_byte-eq-OBJECT
returns-then-record_byte-eq-OBJECT c = search objects

pub returns : goal.returns
returns c = search objects

use Rattle.table_records.proofs.Laws.{skips}
use Rattle.table_records.proofs.skip_value.Goals as goal

pub pair_at-requires : goal.pair_at-requires
pair_at-requires c = search skips

pub returns-in-Bad : goal.returns-in-Bad
returns-in-Bad c = search skips

pub returns-in-Plain : goal.returns-in-Plain
returns-in-Plain c = search skips

pub returns-in-Texted : goal.returns-in-Texted
returns-in-Texted c = search skips

pub returns-in-Container : goal.returns-in-Container
returns-in-Container c = search skips

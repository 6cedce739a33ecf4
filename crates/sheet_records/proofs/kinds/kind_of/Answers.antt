use Rattle.sheet_records.specs.Kinds.Kinds.{kinds}
use Rattle.sheet_records.proofs.kinds.kind_of.Goals as goal

pub returns-then-b-lt-NULL : goal.returns-then-b-lt-NULL
returns-then-b-lt-NULL c = search kinds

pub returns-then-b-le-TRUE : goal.returns-then-b-le-TRUE
returns-then-b-le-TRUE c = search kinds

pub returns-then-b-le-STRING : goal.returns-then-b-le-STRING
returns-then-b-le-STRING c = search kinds

pub returns-then-b-le-OBJECT : goal.returns-then-b-le-OBJECT
returns-then-b-le-OBJECT c = search kinds

pub returns : goal.returns
returns c = search kinds

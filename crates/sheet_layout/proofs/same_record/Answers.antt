use Rattle.sheet_layout.proofs.Records.{same-laws}
use Rattle.sheet_layout.proofs.same_record.Goals as goal

pub bounds-part-p : goal.bounds-part-p
bounds-part-p c = search same-laws

pub same_three-requires : goal.same_three-requires
same_three-requires c = search same-laws

pub same_five-requires : goal.same_five-requires
same_five-requires c = search same-laws

pub returns-in-End : goal.returns-in-End
returns-in-End c = search same-laws

pub returns-in-One : goal.returns-in-One
returns-in-One c = search same-laws

pub returns-in-Three : goal.returns-in-Three
returns-in-Three c = search same-laws

pub returns-in-Five : goal.returns-in-Five
returns-in-Five c = search same-laws

use Rattle.sheet_layout.proofs.Records.{store-laws}
use Rattle.sheet_layout.proofs.store.Goals as goal

pub bounds-part-p : goal.bounds-part-p
bounds-part-p c = search store-laws

pub store_three-requires : goal.store_three-requires
store_three-requires c = search store-laws

pub store_five-requires : goal.store_five-requires
store_five-requires c = search store-laws

pub returns-in-One : goal.returns-in-One
returns-in-One c = search store-laws

pub returns-in-Three : goal.returns-in-Three
returns-in-Three c = search store-laws

pub returns-in-Five : goal.returns-in-Five
returns-in-Five c = search store-laws

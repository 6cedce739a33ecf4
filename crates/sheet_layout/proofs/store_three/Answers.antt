use Rattle.sheet_layout.proofs.Records.{store-three-laws}
use Rattle.sheet_layout.proofs.store_three.Goals as goal

pub bounds-part-p-2 : goal.bounds-part-p-2
bounds-part-p-2 c = search store-three-laws

pub bounds-part-p-3 : goal.bounds-part-p-3
bounds-part-p-3 c = search store-three-laws

pub returns : goal.returns
returns c = search store-three-laws

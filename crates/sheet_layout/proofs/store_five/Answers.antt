use Rattle.sheet_layout.proofs.Records.{store-five-laws}
use Rattle.sheet_layout.proofs.store_five.Goals as goal

pub bounds-part-p-2 : goal.bounds-part-p-2
bounds-part-p-2 c = search store-five-laws

pub returns : goal.returns
returns c = search store-five-laws

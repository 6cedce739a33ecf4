use Rattle.sheet_sizes.proofs.Fits.{table-laws}
use Rattle.sheet_sizes.proofs.table_fits.Goals as goal

pub returns-then-table-rec : goal.returns-then-table-rec
returns-then-table-rec c = search table-laws

pub returns : goal.returns
returns c = search table-laws

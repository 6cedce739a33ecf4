use Rattle.sheet_sizes.proofs.Fits.{within-laws}
use Rattle.sheet_sizes.proofs.within_size.Goals as goal

pub returns-then-deep-gt-NESTING : goal.returns-then-deep-gt-NESTING
returns-then-deep-gt-NESTING c = search within-laws

pub returns-then-rec-gt-RECORDS : goal.returns-then-rec-gt-RECORDS
returns-then-rec-gt-RECORDS c = search within-laws

pub returns : goal.returns
returns c = search within-laws

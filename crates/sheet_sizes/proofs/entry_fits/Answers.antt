use Rattle.sheet_sizes.proofs.Fits.{entry-laws}
use Rattle.sheet_sizes.proofs.entry_fits.Goals as goal

pub returns-then-trail-rec : goal.returns-then-trail-rec
returns-then-trail-rec c = search entry-laws

pub returns : goal.returns
returns c = search entry-laws

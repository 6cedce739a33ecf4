use Rattle.job_results.proofs.Places.{has-places}
use Rattle.job_results.proofs.has_place.Goals as goal

pub returns-then-number-lt-ILL_FORMED_UTF8 : goal.returns-then-number-lt-ILL_FORMED_UTF8
returns-then-number-lt-ILL_FORMED_UTF8 c = search has-places

pub returns : goal.returns
returns c = search has-places

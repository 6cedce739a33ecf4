use Rattle.text_profiles.proofs.Texts.{bares, product-fits}
use Rattle.text_profiles.proofs.bare_length.Goals as goal

pub returns-in_err-end : goal.returns-in_err-end
returns-in_err-end c = rw c.from_residual.ensures (search (bares, c.in_err-end.was))

pub returns-then-end-s : goal.returns-then-end-s
returns-then-end-s c = search (bares, c.in_ok-end.was)

pub returns-then-count-gt-MOST_BARE : goal.returns-then-count-gt-MOST_BARE
returns-then-count-gt-MOST_BARE c = search (bares, c.in_ok-end.was)

pub overflow_mul-result : goal.overflow_mul-result
overflow_mul-result c = search product-fits

pub returns : goal.returns
returns c = search (bares, c.in_ok-end.was)

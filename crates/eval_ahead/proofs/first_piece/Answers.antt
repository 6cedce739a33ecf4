use Rattle.eval_ahead.proofs.Looking.{first-laws}
use Rattle.eval_ahead.proofs.first_piece.Goals as goal

pub returns-then-end-first : goal.returns-then-end-first
returns-then-end-first c = search first-laws

pub next_piece-second-requires : goal.next_piece-second-requires
next_piece-second-requires c = search first-laws

pub returns-then-end-second : goal.returns-then-end-second
returns-then-end-second c = search first-laws

pub next_piece-third-requires : goal.next_piece-third-requires
next_piece-third-requires c = search first-laws

pub returns-then-end-third : goal.returns-then-end-third
returns-then-end-third c = search first-laws

pub returns : goal.returns
returns c = search first-laws

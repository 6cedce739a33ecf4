use Rattle.read_grammar.proofs.limits.Beginnings.{beginnings}
use Rattle.read_grammar.proofs.limits.piece_start.Goals as goal

pub returns-then-starts_piece : goal.returns-then-starts_piece
returns-then-starts_piece c = search beginnings

pub returns-then-items-eq-MAX_ITEMS : goal.returns-then-items-eq-MAX_ITEMS
returns-then-items-eq-MAX_ITEMS c = search beginnings

pub returns-then-deepest : goal.returns-then-deepest
returns-then-deepest c = search beginnings

pub returns-then-deepest-2 : goal.returns-then-deepest-2
returns-then-deepest-2 c = search beginnings

pub returns-in-Nothing : goal.returns-in-Nothing
returns-in-Nothing c = search beginnings

pub returns-in-Dollar : goal.returns-in-Dollar
returns-in-Dollar c = search beginnings

pub returns-in-Scalar : goal.returns-in-Scalar
returns-in-Scalar c = search beginnings

pub returns-else-deepest : goal.returns-else-deepest
returns-else-deepest c = search beginnings

pub returns-else-deepest-2 : goal.returns-else-deepest-2
returns-else-deepest-2 c = search beginnings

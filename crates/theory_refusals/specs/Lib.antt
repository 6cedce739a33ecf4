-- When each refusal of resolving comes, exactly.

-- the order of working out, moment by moment
pub mod WorkingOrder
-- what the rules of one unresolved value refuse, piece by piece
pub mod Pieces
-- number and place of the job, 9 to 14
pub mod When
-- the refusals that have no place
pub mod Places

-- The order of working out as the code will do it; the main theorem is `code-resolves` of proofs/Whole.antt.

-- of any questions: a walk by parts, a computation made ready, a question worked out by turns, and what holds at each turn
pub mod Walks
pub mod Ready
pub mod Turns
pub mod Running
-- of the rules: what pieces need before they are joined; settling by depth, that it ends as the rules' evaluation does, layers that fit, one depth for every document
pub mod Skeletons
pub mod Looking
pub mod Settle
pub mod Settling
pub mod Fitting
pub mod Levels
-- of the code: settling by levels, what contracts cite, the laws of the code's branches, the whole job
pub mod Code
pub mod Clauses
pub mod Resolving
pub mod WorkLaws
pub mod SettleLaws
pub mod Whole
pub mod Examples

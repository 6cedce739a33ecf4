-- The five hardest definitions of the rules in a plain form, and that they are the same.

-- the layers of a path as lists, and what counts of them
pub mod Layers
-- looking back, by the fields that are entered on the way to a value
pub mod LookBack
-- how many elements a key may have, limit by limit
pub mod Keys
-- what is accepted, part by part of the sentence
pub mod Acceptance
-- a path's elements: first joined as text, then split at its dots
pub mod Elements

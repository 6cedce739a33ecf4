-- Checking entry by entry is `accepted`.

-- how a sheet that is accepted begins
pub mod Begins
-- what is known after some entries, and the laws of the next one and of the table
pub mod Steps

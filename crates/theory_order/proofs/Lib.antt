-- That settling by levels is the rules' settling, and that the whole job is resolve_job.
pub mod Coding
pub mod Whole

pub mod Trees
pub mod SizedTables
pub mod Edits
pub mod Jobs
pub mod Examples
pub mod OneByOne

-- What rests on theorems of specs/ and is not named there.
pub mod Edits
pub mod Promises

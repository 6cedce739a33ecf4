pub mod Profile
pub mod Examples
pub mod OneByOne

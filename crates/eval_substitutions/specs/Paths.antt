pub mod Model
pub mod WalkPath

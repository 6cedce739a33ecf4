pub mod Model
pub mod Clauses
pub mod Documents
pub mod Shows
pub mod LayersFor
pub mod Keys
pub mod Paths
pub mod RootFields

pub mod Walks
pub mod Picks
pub mod Tops
pub mod Depths

pub mod Around
pub mod RootAround
pub mod Keys
pub mod Beginning
pub mod Looking

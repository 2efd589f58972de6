pub mod Actions
pub mod Waits
pub mod Laws

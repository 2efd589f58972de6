pub mod Moments
pub mod Ticking
pub mod Given
pub mod Laws

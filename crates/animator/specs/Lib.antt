pub mod Plans
pub mod Valuing
pub mod Given
pub mod Laws

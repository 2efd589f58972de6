pub mod Seen
pub mod Widths
pub mod Laws

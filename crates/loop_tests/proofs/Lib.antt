pub mod Passes
pub mod Popped

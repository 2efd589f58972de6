pub mod Letter
pub mod Fields

pub mod Supplies
pub mod Brought
pub mod Loaded

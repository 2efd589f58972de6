pub mod Quitting
pub mod Firsts
pub mod Passed
pub mod Parts

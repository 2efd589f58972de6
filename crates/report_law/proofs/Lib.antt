pub mod Same
pub mod Limits
pub mod Runs
pub mod Fitting
pub mod Counting

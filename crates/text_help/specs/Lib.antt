pub mod Saying
pub mod Histories
pub mod Heads

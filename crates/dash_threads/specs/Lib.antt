pub mod AtWork
pub mod Planning
pub mod Threads

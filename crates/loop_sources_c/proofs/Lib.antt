pub mod Handles
pub mod Sends
pub mod Done

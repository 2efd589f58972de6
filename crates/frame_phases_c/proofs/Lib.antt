pub mod Handles
pub mod Sends

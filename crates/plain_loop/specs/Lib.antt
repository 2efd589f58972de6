pub mod Lines
pub mod Senders
pub mod Handling
pub mod Looping
pub mod Values

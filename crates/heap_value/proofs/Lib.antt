pub mod Names
pub mod Lones
pub mod Sends

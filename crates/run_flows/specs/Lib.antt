pub mod Flows
pub mod Events
pub mod Picture

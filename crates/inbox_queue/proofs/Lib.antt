pub mod Bads
pub mod Limits
pub mod Playing
pub mod Handing
pub mod Gatherings
pub mod Ending

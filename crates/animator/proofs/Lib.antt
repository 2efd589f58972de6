pub mod Between
pub mod Rising
pub mod Ending

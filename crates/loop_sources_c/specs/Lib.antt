pub mod Contents
pub mod Handle
pub mod Shown
pub mod Handed

pub mod Blocks
pub mod Handle
pub mod Ours
pub mod Messages
pub mod Joined
pub mod Shown
pub mod Contents
pub mod Handed

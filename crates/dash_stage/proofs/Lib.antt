pub mod Controller
pub mod BlockTimes
pub mod Played
pub mod Sharing
pub mod ByClock
pub mod Ends
pub mod Stages
pub mod Moves

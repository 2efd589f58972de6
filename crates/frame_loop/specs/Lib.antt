pub mod Screens
pub mod Paintings
pub mod Dispatching
pub mod FrameLooping

pub mod FrameLoops
pub mod Keeping

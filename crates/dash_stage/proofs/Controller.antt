-- What the controller's calls make and leave.
pub mod Controlling
pub mod Controls
pub mod ControlTurns

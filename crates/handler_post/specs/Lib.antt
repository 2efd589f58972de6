pub mod Supply
pub mod Ways
pub mod Forms
pub mod Sends
pub mod Unhandled
pub mod Values

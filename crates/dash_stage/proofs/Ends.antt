-- How queues, frames and kits end in the records.
pub mod HallEnds
pub mod HallFrames
pub mod Carried

-- What is known of a stage between its steps.
pub mod Timely
pub mod StageWhole
pub mod StageTurns

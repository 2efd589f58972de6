pub mod ThreadBlocks
pub mod ThreadLabels
pub mod ThreadShares
pub mod ThreadRuns

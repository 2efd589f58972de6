-- What the loopers did, from their acts to the records.
pub mod KitsOver
pub mod Standing
pub mod Asked
pub mod Dispatched
pub mod KitsTold
pub mod Disposing
pub mod LoopersGive
pub mod PlayedRecords
pub mod RoundTimes
pub mod PlayedStage
pub mod InTurn
pub mod InTurnRounds
pub mod AskedAtEnd
pub mod PlayedRounds
pub mod PlayedTurns

pub mod Agreed
pub mod HistoriesJudged

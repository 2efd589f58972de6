pub mod StreamLemmas
pub mod CommandLineLemmas
pub mod OneCommand
pub mod Completing
pub mod Running
pub mod Judging
pub mod Inboxes

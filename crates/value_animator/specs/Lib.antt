pub mod Plans
pub mod Runners
pub mod Framing
pub mod Run
pub mod Going
pub mod Drafts
pub mod Reading
pub mod Laws

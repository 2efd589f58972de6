pub mod HandingOut
pub mod Keeping
pub mod Lending
pub mod Looping
pub mod Popped
pub mod ValueLaws

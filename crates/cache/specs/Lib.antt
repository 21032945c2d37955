pub mod Slots
pub mod Cached
pub mod Laws

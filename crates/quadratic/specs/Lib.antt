pub mod Choosing
pub mod Split
pub mod Sharing

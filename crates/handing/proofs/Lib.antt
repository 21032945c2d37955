pub mod Runs
pub mod Spots

pub mod Perms
pub mod Tally
pub mod Parts
pub mod Chosen
pub mod Fair
pub mod Turns
pub mod Runs

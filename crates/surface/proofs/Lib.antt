pub mod Writes
pub mod Inking
pub mod Sides

pub mod Values
pub mod Readings
pub mod Going
pub mod Spelling
pub mod Lines

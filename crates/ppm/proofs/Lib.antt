pub mod Writes
pub mod Numbers
pub mod Heads
pub mod Rows
pub mod Whole
pub mod Puts

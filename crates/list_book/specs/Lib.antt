pub mod Book
pub mod Views
pub mod Counts

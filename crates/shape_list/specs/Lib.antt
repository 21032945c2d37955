pub use Rattle.list_book.specs.Book
pub use Rattle.list_book.specs.Views
pub use Rattle.list_book.specs.Counts
pub mod Reading
pub mod Faults

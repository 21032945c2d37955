pub use Rattle.list_book.proofs.Tables
pub use Rattle.list_book.proofs.Steps
pub use Rattle.list_book.proofs.Counting

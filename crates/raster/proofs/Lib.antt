pub use Rattle.basics.proofs.Table
pub use Rattle.basics.proofs.Tables
pub use Rattle.lines.proofs.Lines
pub use Rattle.lines.proofs.Walks
pub mod Shapes
pub mod Tiles

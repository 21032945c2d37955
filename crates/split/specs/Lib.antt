pub use Rattle.quadratic.specs.Choosing
pub mod Letters
pub mod Nine
pub mod Sharing
pub mod Table

pub mod Texts
pub use Rattle.letters.specs.Letters

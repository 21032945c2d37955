pub mod Layout
pub mod Panel

pub mod Refusals
pub mod Inks
pub mod Sizes
pub mod Glyphs
pub mod Segments
pub mod Fonts

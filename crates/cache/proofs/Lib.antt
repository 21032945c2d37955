pub mod Places
pub mod Held
pub mod Giving
pub mod Tiles
pub mod Moves

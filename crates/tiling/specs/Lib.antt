pub mod Places
pub mod Found
pub mod Tiled

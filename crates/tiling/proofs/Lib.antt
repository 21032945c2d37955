pub mod Marking
pub mod Places
pub mod Ruled
pub mod Laid
pub mod Filling

pub mod Picture
pub mod Calls
pub mod Bytes
pub mod Panel

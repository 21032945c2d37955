pub mod Drawing
pub mod Scenes
pub mod Laid

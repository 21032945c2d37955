pub mod Bits
pub mod Written
pub mod Layers
pub mod Inking

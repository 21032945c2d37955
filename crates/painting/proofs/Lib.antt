pub mod Topmost
pub mod Numbers
pub mod Laying
pub mod Layers

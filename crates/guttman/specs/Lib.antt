pub mod Trees
pub mod Shape
pub mod Growth
pub mod Finding
pub mod Deletion
pub mod Cutting
pub mod Laws

pub mod Axis
pub mod Boxes
pub mod AxisLemmas

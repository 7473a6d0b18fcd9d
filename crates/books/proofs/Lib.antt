pub mod Bounds
pub mod Counted

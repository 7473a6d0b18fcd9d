pub mod Finds
pub mod Law
pub mod Served

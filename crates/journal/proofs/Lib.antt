pub mod Seeks
pub mod Stores
pub mod Tallies
pub mod Rings

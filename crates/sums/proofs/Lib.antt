pub mod Counts
pub mod Empty
pub mod Nets
pub mod Placed
pub mod Within

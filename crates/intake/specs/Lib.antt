pub mod Conforms
pub mod Orders
pub mod Sizes
pub mod Takes
